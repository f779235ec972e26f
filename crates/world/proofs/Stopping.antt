-- A node of a world stops, and starts anew.
use Rattle.std.proofs.Common.{◌≡◌, ℕ, ◌+◌, ◌<◌, Bool, true, false, refl, sym, ap, subst, ◌∙◌, arith}
use Rattle.std.specs.Prelude.{if◌then◌else◌}
use Rattle.mc_model.specs.synod.Acceptor.{Records}
use Rattle.mc_model.specs.node.Input.{Restart}
use Rattle.node_model.specs.Kept.{Kept}
use Rattle.node_model.specs.Packets.{is_member}
use Rattle.node_model.specs.Stepped.{saved_by, sender_of, stepped, stopped}
use Rattle.mc_model.specs.node.Setup.{Setup}
use Rattle.mc_model.specs.synod.Packet.{Packet as Told}
use Rattle.node_model.proofs.Stops.{saved_so}
use Rattle.node_laws.specs.Runs.{IsOneOf}
use Rattle.node_laws.specs.Steps.{IsWellMade}
use Rattle.stable_store.specs.Stored.{AreSame, Listed}
use Rattle.synod_acceptor.specs.Packets.{packet_of}
use Rattle.synod_acceptor.specs.Records.{record_at}
use Rattle.synod_acceptor.specs.declared.packet.Packet.{Packet}
use Rattle.node_runs.specs.Keeping.{kept_of}
use Rattle.node_runs.specs.Listing.{ListsRecorded}
use Rattle.node_runs.specs.Life.{Life}
use Rattle.node_runs.specs.Nodes.{HasOpened, Standing}
use Rattle.node_runs.specs.Restarts.{next_life}
use Rattle.node_runs.proofs.Restarts.{as_restarted, stop_lists}
use Rattle.world.specs.Members.{HasCrashed, HasRestarted, HasSaved}
use Rattle.world.specs.Runs.{IsDown, StandsAs}
use Rattle.world.specs.Scenes.{Placed}

pub crashed_before : (old new : Placed) (packet : Packet) → IsOneOf old.node.kept.setup → IsWellMade (packet_of packet) →
    ListsRecorded (kept_of old.node.kept) → AreSame (record_at old.node.store.entries) (kept_of old.node.kept).records →
    new.node ≡ old.node → new.up ≡ false → HasCrashed old packet false new
crashed_before old new packet one well lists saved same down = record {
  one = one;
  well = well;
  down = down;
  setup = ap (λ (n : Standing Listed). n.kept.setup) same;
  incarnation = ap (λ (n : Standing Listed). n.kept.incarnation) same;
  life = (stop_lists old.node.kept.setup (kept_of old.node.kept) (packet_of packet) false lists).life;
  lists = (stop_lists old.node.kept.setup (kept_of old.node.kept) (packet_of packet) false lists).lists;
  stored = record { each = λ slot. ap (λ (n : Standing Listed). record_at n.store.entries slot) same ∙ saved.each slot };
}

pub crashed_after : (old mid new : Placed) (packet : Packet) → IsOneOf old.node.kept.setup → IsWellMade (packet_of packet) →
    ListsRecorded (kept_of old.node.kept) →
    HasSaved old packet mid → new.node ≡ mid.node → new.up ≡ false → HasCrashed old packet true new
crashed_after old mid new packet one well lists saved same down = record {
  one = one;
  well = well;
  down = down;
  setup = ap (λ (n : Standing Listed). n.kept.setup) same ∙ saved.setup;
  incarnation = ap (λ (n : Standing Listed). n.kept.incarnation) same ∙ saved.incarnation;
  life = (stop_lists old.node.kept.setup (kept_of old.node.kept) (packet_of packet) true lists).life;
  lists = (stop_lists old.node.kept.setup (kept_of old.node.kept) (packet_of packet) true lists).lists;
  stored = record {
    each = λ slot.
        ap (λ (n : Standing Listed). record_at n.store.entries slot) same
        ∙ saved.stored.each slot
        ∙ ap (λ (rs : Records). rs slot) (saved_so old.node.kept.setup (kept_of old.node.kept) (packet_of packet));
  };
}

down_then : (setup : Setup) (k : Kept) (packet : Told) (after : Bool) → (stopped setup k packet after).up ≡ false
down_then setup k packet true = by_member (is_member setup (sender_of packet))
  where
    by_member : (member : Bool) → (if member then record (saved_by setup k packet) { up = false } else record k { up = false }).up ≡ false
    by_member true = refl
    by_member false = refl
down_then setup k packet false = refl

-- it stands as the model's node that stopped
pub stands_down : (old new : Placed) (packet : Packet) (after : Bool) → HasCrashed old packet after new →
    IsDown (stopped old.node.kept.setup (kept_of old.node.kept) (packet_of packet) after) new.node
stands_down old new packet after crashed = record {
  down = down_then old.node.kept.setup (kept_of old.node.kept) (packet_of packet) after;
  incarnation = crashed.incarnation ∙ sym crashed.life;
  lists = crashed.lists;
  stored = crashed.stored;
}

restarts_as : (old : Placed) (node : Standing Listed) (life : Life) (k : Kept) → ListsRecorded (kept_of old.node.kept) →
    AreSame (record_at old.node.store.entries) (kept_of old.node.kept).records → old.node.store.started ≡ old.node.kept.incarnation →
    HasOpened old.node.kept.setup (record_at old.node.store.entries) (old.node.store.started + 1) node life → (up : Bool) → StandsAs k up old.node →
    kept_of node.kept ≡ (stepped old.node.kept.setup k (Restart 0)).kept
restarts_as old node life k lists saved started opened true stands =
    let begins : old.node.store.started + 1 ≡ next_life (kept_of old.node.kept) 0 = omega (arith, started) in
    as_restarted old.node.kept.setup (kept_of old.node.kept) (record_at old.node.store.entries) 0 node life lists saved
    (subst (λ (n : ℕ). HasOpened old.node.kept.setup (record_at old.node.store.entries) n node life) begins opened)
    ∙ ap (λ (kept : Kept). (stepped old.node.kept.setup kept (Restart 0)).kept) stands
restarts_as old node life k lists saved started opened false stands =
    let begins : old.node.store.started + 1 ≡ next_life k 0 = omega (arith, started, stands.incarnation) in
    as_restarted old.node.kept.setup k (record_at old.node.store.entries) 0 node life stands.lists stands.stored
    (subst (λ (n : ℕ). HasOpened old.node.kept.setup (record_at old.node.store.entries) n node life) begins opened)

pub has_restarted : (old new : Placed) (life : Life) → IsOneOf old.node.kept.setup → old.node.kept.incarnation < 9999 → ListsRecorded (kept_of old.node.kept) →
    AreSame (record_at old.node.store.entries) (kept_of old.node.kept).records → old.node.store.started ≡ old.node.kept.incarnation →
    HasOpened old.node.kept.setup (record_at old.node.store.entries) (old.node.store.started + 1) new.node life → new.up ≡ true → HasRestarted old new
has_restarted old new life one left lists saved started opened up = record {
  one = one;
  up = up;
  setup = opened.setup;
  left = omega arith;
  kept = λ k stands. restarts_as old new.node life k lists saved started opened old.up stands;
}
