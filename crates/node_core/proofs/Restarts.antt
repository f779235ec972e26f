-- A node that opens again keeps what the model's does after a restart, and after a crash.
use Rattle.std.proofs.Common.{◌≡◌, ℕ, suc, ◌+◌, Bool, true, false, Option, Some, None, refl, sym, ap, subst, ◌∙◌, inl, inr}
use Rattle.std.specs.Prelude.{if◌then◌else◌}
use Rattle.std.proofs.Math.Path.{fun_ext}
use Rattle.std.specs.Map.{keys_of}
use Rattle.mc_model.specs.synod.Packet.{Ask, Packet, Prepare, Promise, Propose, Refused, Slot, Tell, Voted}
use Rattle.mc_model.specs.synod.Acceptor.{Records, SlotRecord}
use Rattle.mc_model.specs.node.Input.{Crash, Restart}
use Rattle.mc_model.specs.node.Setup.{Setup}
use Rattle.node_model.specs.Kept.{Kept, message_at, saved}
use Rattle.node_model.specs.Outputs.{Stepped, leaves}
use Rattle.node_model.specs.Packets.{is_member}
use Rattle.node_model.specs.Recorded.{recorded_in}
use Rattle.node_model.specs.Stepped.{opened_over, restarted, saved_by, sender_of, stepped, stopped}
use Rattle.node_model.proofs.Recorded.{are_recorded, recorded_once}
use Rattle.node_model.proofs.Stops.{saved_so}
use Rattle.shelf.proofs.Entries.{still_ascends}
use Rattle.stable_store.specs.Stored.{AreSame, Stored}
use Rattle.synod_acceptor.specs.Packets.{packet_of}
use Rattle.synod_acceptor.specs.declared.packet.Packet.{Packet as Sent}
use Rattle.node_kept.specs.Input.{Input}
use Rattle.node_kept.specs.Input.TheVariants as given
use Rattle.node_kept.specs.declared.kept.Kept.{Kept as Holding}
use Rattle.node_kept.specs.declared.stopped.Found.{Found}
use Rattle.node_kept.specs.declared.stopped.Found.TheVariants.{After, Before}
use Rattle.node_kept.specs.declared.stopped.Stopped.{Stopped}
use Rattle.node_kept.specs.Grouping.{left_by}
use Rattle.node_kept.specs.Keeping.{kept_of, records_of}
use Rattle.node_kept.specs.Listing.{ListsRecorded}
use Rattle.node_kept.proofs.Listing.{key_put, listed_of, was_recorded}
use Rattle.node_core.specs.declared.life.Life.{Life}
use Rattle.node_core.specs.Nodes.{HasOpened, HasStopped, Seen, Standing, records_in}
use Rattle.node_core.specs.Restarts.{KeepsAsTold, OpensOverWhatIsHeld, next_life}
use Rattle.node_core.specs.Stops.{IsTold, IsToldOf, is_after}

-- ---- a restart

restart_is : (with : Setup) (k : Kept) (lost : ℕ) → restarted with k lost ≡ (stepped with k (Restart lost)).kept
restart_is with k lost = by_up k.up
  where
    by_up : (up : Bool) → restarted with k lost ≡ (if◌then◌else◌ {A = Stepped} up (leaves (restarted with k lost)) (leaves (restarted with k lost))).kept
    by_up true = refl
    by_up false = refl

pub as_restarted : {S : Type 0} (with : Setup) (k : Kept) (stored : Records) (lost : ℕ) (node : Standing S) (life : Life) → ListsRecorded k →
    AreSame stored k.records → HasOpened with stored (next_life k lost) node life → kept_of node.kept ≡ (stepped with k (Restart lost)).kept
as_restarted with k stored lost node life lists same opened =
    let records : stored ≡ k.records = fun_ext same.each in
    let ids : opened.ids ≡ recorded_in k.records (keys_of k.messages) =
    recorded_once k.records opened.ids (recorded_in k.records (keys_of k.messages))
    (listed_of stored k.records opened.ids same.each opened.listed)
    (are_recorded k.records (keys_of k.messages) lists.ascend lists.all) in
    opened.kept ∙ (λ i. opened_over (records i) (ids i) (next_life k lost) with.first_serial) ∙ restart_is with k lost

-- ---- a stop

-- what a stop leaves is of the same incarnation, and lists its messages
pub record StillLists (k after : Kept) : Type 0 where
  pub life : after.incarnation ≡ k.incarnation
  pub lists : ListsRecorded after

unchanged : (k : Kept) → ListsRecorded k → StillLists k (record k { up = false })
unchanged k lists = record { life = refl; lists = record { ascend = lists.ascend; all = lists.all } }

saved_lists : (k : Kept) (slot : Slot) (r : SlotRecord) → ListsRecorded k → StillLists k (record (saved k slot r) { up = false })
saved_lists k slot r lists = record {
  life = refl;
  lists = record {
    ascend = still_ascends k.messages slot.id (message_at k slot.id) lists.ascend;
    all = λ id is. key_put k.messages slot.id (message_at k slot.id) id (elim (was_recorded k.records (saved k slot r).records slot r id (λ other. refl) is) [
      | inl same ↦ inl same
      | inr before ↦ inr (lists.all id before)
    ]);
  };
}

pub stop_lists : (setup : Setup) (k : Kept) (packet : Packet) (after : Bool) → ListsRecorded k → StillLists k (stopped setup k packet after)
stop_lists setup k packet false lists = unchanged k lists
stop_lists setup k packet true lists = by_member (is_member setup (sender_of packet)) (by_packet packet)
  where
    by_packet : (p : Packet) → StillLists k (record (saved_by setup k p) { up = false })
    by_packet (Prepare sender slot ballot) = saved_lists k slot _ lists
    by_packet (Propose sender slot vote) = saved_lists k slot _ lists
    by_packet (Promise sender slot ballot report) = unchanged k lists
    by_packet (Voted sender slot vote) = unchanged k lists
    by_packet (Refused sender slot ballot promised) = unchanged k lists
    by_packet (Ask sender id name) = unchanged k lists
    by_packet (Tell sender name told) = unchanged k lists

    by_member : (member : Bool) → StillLists k (record (saved_by setup k packet) { up = false }) →
        StillLists k (if member then record (saved_by setup k packet) { up = false } else record k { up = false })
    by_member true still = still
    by_member false still = unchanged k lists

pub crash_is : (setup : Setup) (k : Kept) (packet : Packet) (after : Bool) → k.up ≡ true →
    stopped setup k packet after ≡ (stepped setup k (Crash packet after)).kept
crash_is setup k packet after up = sym (ap (λ (test : Bool). (if◌then◌else◌ {A = Stepped} test (leaves (stopped setup k packet after)) (leaves k)).kept) up)

opens_crashed : {S : Type 0} (k : Holding) (stored : Records) (packet : Packet) (after : Bool) (lost : ℕ) (node : Standing S)
    (life : Life) → ListsRecorded (kept_of k) →
    HasOpened k.setup stored (next_life (kept_of k) lost) node life → AreSame stored (stopped k.setup (kept_of k) packet after).records →
    kept_of node.kept ≡ (stepped k.setup (stopped k.setup (kept_of k) packet after) (Restart lost)).kept
opens_crashed k stored packet after lost node life lists opened same =
    let still = stop_lists k.setup (kept_of k) packet after lists in
    as_restarted k.setup (stopped k.setup (kept_of k) packet after) stored lost node life still.lists same
    (subst (λ (n : ℕ). HasOpened k.setup stored (suc (n + lost)) node life) (sym still.life) opened)

-- what is stored is what was before the save, or what the step leaves
crashed_before : {S : Type 0} (k : Holding) (stored : Records) (packet : Sent) (lost : ℕ) (node : Standing S) (life : Life) → ListsRecorded (kept_of k) →
    HasOpened k.setup stored (next_life (kept_of k) lost) node life → AreSame stored (records_of k.messages.entries) →
    kept_of node.kept ≡ (stepped k.setup (stepped k.setup (kept_of k) (Crash (packet_of packet) false)).kept (Restart lost)).kept
crashed_before k stored packet lost node life lists opened same =
    opens_crashed k stored (packet_of packet) false lost node life lists opened (record { each = same.each })

crashed_behind : {S : Type 0} (k : Holding) (stored : Records) (packet : Sent) (lost : ℕ) (node : Standing S) (life : Life) → ListsRecorded (kept_of k) →
    HasOpened k.setup stored (next_life (kept_of k) lost) node life → AreSame stored (left_by k packet) →
    kept_of node.kept ≡ (stepped k.setup (stepped k.setup (kept_of k) (Crash (packet_of packet) true)).kept (Restart lost)).kept
crashed_behind k stored packet lost node life lists opened same =
    opens_crashed k stored (packet_of packet) true lost node life lists opened (record {
      each = λ slot. same.each slot ∙ ap (λ (records : Records). records slot) (saved_so k.setup (kept_of k) (packet_of packet));
    })

pub as_crashed : {S : Type 0} (old mid : Seen) (packet : Sent) (left : Records) (lost : ℕ) (node : Standing S) (life : Life) →
    ListsRecorded (kept_of old.kept) → HasStopped old (given.Packet packet) mid → mid.stored.may_hold left →
    HasOpened old.kept.setup left (next_life (kept_of old.kept) lost) node life →
    (after : Bool) × (kept_of node.kept ≡ (stepped old.kept.setup
    (stepped old.kept.setup (kept_of old.kept) (Crash (packet_of packet) after)).kept (Restart lost)).kept)
as_crashed old mid packet left lost node life lists has_stopped may opened =
    elim (has_stopped.found left may) [
      | inl before ↦ (false, crashed_before old.kept left packet lost node life lists opened before)
      | inr behind ↦ (true, crashed_behind old.kept left packet lost node life lists opened behind)
    ]

-- ---- what is told of a stop

pub told_as : {S : Type 0} (k : Holding) (stored : Records) (packet : Sent) (lost : ℕ) (node : Standing S) (life : Life) (told : Stopped) →
    ListsRecorded (kept_of k) →
    HasOpened k.setup stored (next_life (kept_of k) lost) node life → IsToldOf k stored packet told → (found : Found) → told.found ≡ found →
    kept_of node.kept ≡ (stepped k.setup (stepped k.setup (kept_of k) (Crash (packet_of packet) (is_after found))).kept (Restart lost)).kept
told_as k stored packet lost node life told lists opened is Before found = crashed_before k stored packet lost node life lists opened (is.before.0 found)
told_as k stored packet lost node life told lists opened is After found = crashed_behind k stored packet lost node life lists opened (is.after.0 found)

keeps_told : {S : Type 0} (k : Holding) (stored : Records) (input : Input) (packet : Sent) (lost : ℕ) (node : Standing S) (life : Life)
    (told : Option Stopped) →
    ListsRecorded (kept_of k) → HasOpened k.setup stored (next_life (kept_of k) lost) node life → input ≡ given.Packet packet → node.stopped ≡ told →
    IsTold k stored (Some packet) told → KeepsAsTold k input lost node
keeps_told k stored input packet lost node life None lists opened came tells is = absurd is
keeps_told k stored input packet lost node life (Some told) lists opened came tells is = record {
  told = told;
  tells = tells;
  came = came ∙ ap given.Packet (sym is.is);
  kept = subst (λ (p : Sent). kept_of node.kept ≡ (stepped k.setup
      (stepped k.setup (kept_of k) (Crash (packet_of p) (is_after told.found))).kept (Restart lost)).kept)
      (sym is.is) (told_as k stored packet lost node life told lists opened is told.found refl);
}

pub as_told : {S : Type 0} (old halted : Seen) (input : Input) (left : Records) (lost : ℕ) (node : Standing S) (life : Life) →
    ListsRecorded (kept_of old.kept) → HasStopped old input halted → HasOpened old.kept.setup left (next_life (kept_of old.kept) lost) node life →
    IsTold halted.kept left halted.unfinished node.stopped → KeepsAsTold old.kept input lost node
as_told old halted input left lost node life lists has_stopped opened told =
    keeps_told old.kept left input has_stopped.packet lost node life node.stopped lists opened has_stopped.came refl
    (subst (λ (unfinished : Option Sent). IsTold old.kept left unfinished node.stopped) has_stopped.unfinished
    (subst (λ (k : Holding). IsTold k left halted.unfinished node.stopped) has_stopped.kept told))

-- ---- what a store held

pub over_held : {S : Type 0} (stored : S → Stored) →
    ((s : S) (records left : Records) → (stored s).holds records → (stored s).may_hold left → AreSame left records) → OpensOverWhatIsHeld stored
over_held stored settled store after with node life records started over doubt holds has =
    let same : records_in node.kept ≡ records = fun_ext (settled store records (records_in node.kept) holds (over.found.found doubt)).each in
    subst (λ (rs : Records). HasOpened with rs (started + 1) node life) same
    (subst (λ (n : ℕ). HasOpened with (records_in node.kept) n node life) (over.found.next started doubt has) over.opened)
