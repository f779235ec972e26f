-- One node of a world changed, or none did.
use Rattle.std.proofs.Common.{◌≡◌, ℕ, zero, suc, ◌+◌, ◌<◌, Bool, true, false, List, [], ◌∷◌, get_or, length, Some, Result, Ok, Err}
use Rattle.std.proofs.Common.{refl, sym, ap, subst, ◌∙◌, inl, inr, arith}
use Rattle.std.specs.Prelude.{OnOk, IfOk}
use Rattle.std.specs.List.{slice_get}
use Rattle.std.proofs.Math.ListN.{set}
use Rattle.std.proofs.lemmas.List.{length-set}
use Rattle.std.proofs.lemmas.Option.{get_or_from_slice_get, slice_get-get_or, slice_get_within}
use Rattle.node_model.specs.Outputs.{nothing}
use Rattle.node_runs.specs.Input.{Input}
use Rattle.node_runs.specs.Input.TheVariants as inputs
use Rattle.sim_net.proofs.Numbers.{set_get}
use Rattle.world.specs.declared.given.Given.{Given}
use Rattle.synod_acceptor.specs.declared.packet.Packet.{Packet}
use Rattle.world.specs.declared.fault.WorldFault.{WorldFault}
use Rattle.world.specs.Members.{HasBegun, HasPassed, HasStopped, HasTaken, IsPlace, IsSentIn, IsUnmoved, IsUpAt, Keeps}
use Rattle.world.specs.Runs.{IsGiven, IsSomewhere}
use Rattle.world.specs.Scenes.{Placed, Scene, is_up, is_up_in}
use Rattle.world.proofs.Going.{stays}
use Rattle.world.proofs.Leading.{taken}
use Rattle.world.proofs.Sending.{sent_nothing}

pub unmoved : (m : Placed) → IsUnmoved m m
unmoved m = record { kept = refl; up = refl; stored = record { each = λ slot. refl } }

pub keeps_one : (old : Scene) (place : ℕ) (m new : Placed) (after : Scene) → slice_get old.members place ≡ Some m → IsUnmoved m new →
    after.members ≡ set old.members place new → after.packets ≡ old.packets → after.fresh ≡ old.fresh → Keeps old after
keeps_one old place m new after found same members packets fresh = record {
  members = λ k other is.
      elim (set_get old.members place k new other (subst (λ (ms : List Placed). slice_get ms k ≡ Some other) members is)) [
        | inl both ↦ record {
          was = m;
          found = subst (λ (n : ℕ). slice_get old.members n ≡ Some m) (sym both.0) found;
          unmoved = subst (IsUnmoved m) (sym both.1) same;
        }
        | inr there ↦ record { was = other; found = there.1; unmoved = unmoved other }
      ];
  nodes = ap length members ∙ length-set old.members place new;
  packets = packets;
  fresh = fresh;
}

pub keeps_all : (old : Scene) → Keeps old old
keeps_all old = record {
  members = λ k m is. record { was = m; found = is; unmoved = unmoved m };
  nodes = refl;
  packets = refl;
  fresh = refl;
}

pub kept_somewhere : (old new : Scene) → Keeps old new → IsSomewhere old → IsSomewhere new
kept_somewhere old new keeps is = record {
  cluster = is.cluster;
  behind = is.behind;
  inputs = is.inputs;
  at = stays is.cluster is.behind is.inputs old is.at new keeps;
}

pub taken_somewhere : (old new : Scene) (node : ℕ) (input : Input) (gives : Given) → IsSentIn old input → HasTaken old node input gives new →
    IsSomewhere old → IsSomewhere new
taken_somewhere old new node input gives sent has at =
    let took = taken at.cluster at.behind at.inputs old at.at node input gives new sent has in
    record { cluster = at.cluster; behind = at.behind; inputs = _; at = took.at_then }

-- the node that stands at a place is the one that was called
pub same_member : (old : Scene) (items : List Placed) (place : ℕ) (m called : Placed) → items ≡ old.members → slice_get old.members place ≡ Some m →
    called ≡ get_or items place called → called ≡ m
same_member old items place m called same found is =
    is ∙ get_or_from_slice_get items place m called (subst (λ (ms : List Placed). slice_get ms place ≡ Some m) (sym same) found)

pub found_member : (old : Scene) (items : List Placed) (place : ℕ) (called : Placed) → items ≡ old.members → place < length items →
    called ≡ get_or items place called → slice_get old.members place ≡ Some called
found_member old items place called same inside is =
    subst (λ (ms : List Placed). slice_get ms place ≡ Some called) same (slice_get-get_or items place called inside ∙ ap Some (sym is))

-- a node that took the step of a packet quietly took it
pub taken_quietly : (old : Scene) (items : List Placed) (sent : List Packet) (node place : ℕ) (called after : Placed) (packet : Packet) (given : Given) →
    (at : IsUpAt old node place) → items ≡ old.members → sent ≡ old.packets → called ≡ get_or items place called → HasPassed called packet after →
    IsGiven given nothing → HasTaken old node (inputs.Packet packet) given (record { members = set items place after; packets = sent; fresh = false })
taken_quietly old items sent node place called after packet given at members packets is has gives = record {
  place = place;
  member = at.member;
  is = at.is;
  up = at.up;
  after = after;
  sent = sent_nothing at.member after packet old.packets sent given
      (subst (λ (m : Placed). HasPassed m packet after) (same_member old items place at.member called members at.is.found is) has) gives packets;
  changed = record { members = ap (λ (ms : List Placed). set ms place after) members; fresh = refl };
}

-- ---- whether a node is up

put_there : (members : List Placed) (place : ℕ) (m : Placed) → place < length members → slice_get (set members place m) place ≡ Some m
put_there [] place m within = absurd (omega (arith, within))
put_there (first ∷ members) zero m within = refl
put_there (first ∷ members) (suc place) m within = put_there members place m (omega (arith, within))

up_then : (old new : Scene) (node place : ℕ) (was m : Placed) → IsPlace old node place was → new.members ≡ set old.members place m
    → is_up_in new node ≡ m.up
up_then old new zero place was m is members = absurd (omega (arith, is.place_is))
up_then old new (suc before) place was m is members =
    let here : before ≡ place = omega (arith, is.place_is) in
    ap (λ (k : ℕ). is_up (slice_get new.members k)) here
    ∙ ap (λ (ms : List Placed). is_up (slice_get ms place)) members
    ∙ ap is_up (put_there old.members place m (slice_get_within old.members place was is.found))

pub taken_up : (old new : Scene) (node : ℕ) (input : Input) (result : Result Given WorldFault)
    → IfOk result (λ given. HasTaken old node input given new) → OnOk result (is_up_in new node ≡ true)
taken_up old new node input (Ok given) has = up_then old new node has.place has.member has.after has.is has.changed.members ∙ has.sent.up
taken_up old new node input (Err fault) has = tt

pub stopped_up : (old new : Scene) (node place : ℕ) (packet : Packet) (behind : Bool) (result : Result Given WorldFault) → node ≡ place + 1
    → IfOk result (λ given. HasStopped old place packet behind given new) → OnOk result (is_up_in new node ≡ false)
stopped_up old new node place packet behind (Ok given) is has =
    ap (is_up_in new) is ∙ up_then old new (place + 1) place has.member has.after has.is has.changed.members ∙ has.crashed.down
stopped_up old new node place packet behind (Err fault) is has = tt

pub begun_up : (old new : Scene) (node place : ℕ) (result : Result Given WorldFault) → node ≡ place + 1
    → IfOk result (λ given. HasBegun old place given new) → OnOk result (is_up_in new node ≡ true)
begun_up old new node place (Ok given) is has =
    ap (is_up_in new) is ∙ up_then old new (place + 1) place has.member has.after has.is has.changed.members ∙ has.restarted.up
begun_up old new node place (Err fault) is has = tt
