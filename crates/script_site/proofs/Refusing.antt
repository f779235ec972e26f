-- Why the world does not take a step of the node that does something.
use Rattle.std.proofs.Common.{◌≡◌, ℕ, Bool, true, false, List, [], Option, Some, None, Ok, Err, refl, length, ◌∷◌, sym, ap, subst, ◌∙◌}
use Rattle.std.specs.Prelude.{IfSome, option_map, nat_le, if◌then◌else◌}
use Rattle.mc_model.specs.message.Decree.{Attempt, Decree, Failed, Fate, Kind, Taken, Told}
use Rattle.mc_model.specs.node.Grant.{AlreadyGranted, Closed, GrantRefusal, NotChosen, NotMine, OlderIncarnation, refusal_number}
use Rattle.mc_model.specs.node.Setup.{Setup}
use Rattle.mc_model.specs.cluster.Steps.{Cluster}
use Rattle.mc_model.specs.synod.Packet.{Slot}
use Rattle.node_model.specs.Attempts.{grant_refusal, known_refusal, newest_refusal}
use Rattle.node_model.specs.Granted.{is_open}
use Rattle.node_model.specs.Kept.{Kept, message_at}
use Rattle.node_laws.specs.Clusters.{KeptCluster, kept_reached}
use Rattle.delivery.specs.Deliveries.{EndsInAttempt, IsAttempt}
use Rattle.fate_chain.specs.declared.chain.Chain.{Chain}
use Rattle.world.specs.Attempting.{reason_of, refusal_of as refusal_of_reason}
use Rattle.world.specs.Steps.{IsKnown}
use Rattle.world.specs.Runs.{IsFault, Leads, away, or_else}
use Rattle.world.specs.Scenes.{Scene}
use Rattle.world.specs.declared.fault.WorldFault.{WorldFault}
use Rattle.world.specs.declared.fault.WorldFault.TheVariants as faults
use Rattle.world.specs.Step.TheVariants as steps
use Rattle.script_text.specs.Node.{Node}
use Rattle.script_text.specs.World.{World}
use Rattle.script_site.specs.Sites.{IsGoing}

module _ (cluster : Cluster) (now : KeptCluster) (home : ℕ) where
  -- what is refused for another reason than that nothing comes to the node
  pub not_away : (other : Option WorldFault) (fault : WorldFault) → IsFault (or_else (away cluster now home) other) fault
      → (faults.NoSuchNode ≡ fault → ⊥) → (faults.Down ≡ fault → ⊥) → IsFault other fault
  not_away other fault refused not_there not_down = by_place (nat_le home cluster.nodes) (now.kept home).up refused
    where
      by_place : (there up : Bool) → IsFault (or_else (or_else (if there then None else Some faults.NoSuchNode) (if up then None else Some faults.Down)) other) fault
          → IsFault other fault
      by_place true true is = is
      by_place true false is = absurd (not_down (sym is))
      by_place false up is = absurd (not_there (sym is))

  pub neither : (one other : Option WorldFault) → or_else one other ≡ None → other ≡ None
  neither None other is = is
  neither (Some fault) other is = absurd cc

open_if : (is_so : Bool) → (if is_so then None else Some faults.NotGranted) ≡ None → is_so ≡ true
open_if true is = refl
open_if false is = absurd cc

not_open : (is_so : Bool) → IsFault (if is_so then None else Some faults.NotGranted) faults.NotGranted → is_so ≡ false
not_open true is = absurd cc
not_open false is = refl

-- the reason why an attempt is not granted
pub record IsReason (setup : Setup) (k : Kept) (id number : ℕ) : Type 0 where
  pub refusal : GrantRefusal
  pub reason : grant_refusal setup k id ≡ Some refusal
  pub told : number ≡ refusal_number refusal

module _ (home : ℕ) (scene : Scene) (w : World) (node : Node) (going : IsGoing home scene w node) where
  abbrev now : KeptCluster
  now = kept_reached going.among.cluster going.among.inputs

  pub closed_so : (slot : Slot) (outcome : _) (new : Scene) → Leads scene (steps.Answered home slot outcome) (Err faults.NotGranted) new
      → is_open node.kept slot ≡ false
  closed_so slot outcome new leads =
      let on = leads.each going.among.cluster [] going.among.inputs going.among.at in
      ap (λ (k : Kept). is_open k slot) going.among.one.kept
      ∙ not_open (is_open (now.kept home) slot) (not_away going.among.cluster now home _ faults.NotGranted on.refused (λ is. cc) (λ is. cc))

  pub open_so : (slot : Slot) (outcome : _) (given : _) (new : Scene) → Leads scene (steps.Answered home slot outcome) (Ok given) new
      → is_open node.kept slot ≡ true
  open_so slot outcome given new leads =
      let on = leads.each going.among.cluster [] going.among.inputs going.among.at in
      ap (λ (k : Kept). is_open k slot) going.among.one.kept
      ∙ open_if (is_open (now.kept home) slot) (neither going.among.cluster now home (away going.among.cluster now home) _ on.allowed)

  -- an attempt that is not granted
  pub refused_so : (id number : ℕ) (told : _) (new : Scene) → Leads scene (steps.Grant home id) (Err (faults.Grant told)) new
      → number ≡ refusal_number (refusal_of_reason told) → IsReason node.setup node.kept id number
  refused_so id number told new leads numbered =
      let on = leads.each going.among.cluster [] going.among.inputs going.among.at in
      let not_there = not_away going.among.cluster now home _ (faults.Grant told) on.refused (λ is. cc) (λ is. cc) in
      by_refusal (grant_refusal node.setup node.kept id) refl
      (subst (λ (o : Option GrantRefusal). IsFault (option_map (λ r. faults.Grant (reason_of r)) o) (faults.Grant told))
      (λ i. grant_refusal (sym going.among.one.setup i) (sym going.among.one.kept i) id) not_there)
    where
      same_reason : (refusal : GrantRefusal) → faults.Grant told ≡ faults.Grant (reason_of refusal) → told ≡ reason_of refusal
      same_reason refusal is = cc

      back : (refusal : GrantRefusal) → refusal_of_reason (reason_of refusal) ≡ refusal
      back NotChosen = refl
      back NotMine = refl
      back OlderIncarnation = refl
      back AlreadyGranted = refl
      back Closed = refl

      by_refusal : (found : Option GrantRefusal) → grant_refusal node.setup node.kept id ≡ found
          → IsFault (option_map (λ r. faults.Grant (reason_of r)) found) (faults.Grant told) → IsReason node.setup node.kept id number
      by_refusal None found is = absurd cc
      by_refusal (Some refusal) found is = record {
        refusal = refusal;
        reason = found;
        told = numbered ∙ ap refusal_number (ap refusal_of_reason (same_reason refusal is) ∙ back refusal);
      }

  -- and one that is
  pub allowed_so : (id : ℕ) (given : _) (new : Scene) → Leads scene (steps.Grant home id) (Ok given) new → grant_refusal node.setup node.kept id ≡ None
  allowed_so id given new leads =
      let on = leads.each going.among.cluster [] going.among.inputs going.among.at in
      none_of (grant_refusal node.setup node.kept id)
      (ap (option_map (λ r. faults.Grant (reason_of r))) (λ i. grant_refusal (going.among.one.setup i) (going.among.one.kept i) id)
      ∙ neither going.among.cluster now home (away going.among.cluster now home) _ on.allowed)
    where
      none_of : (found : Option GrantRefusal) → option_map (λ r. faults.Grant (reason_of r)) found ≡ None → found ≡ None
      none_of None is = refl
      none_of (Some refusal) is = absurd cc

  pub known_so : (id : ℕ) (given : _) (new : Scene) (chain : Chain) → Leads scene (steps.Grant home id) (Ok given) new → given.granted ≡ Some chain
      → (chain.id ≡ id) × ((message_at node.kept id).known ≡ Some chain.decrees)
  known_so id given new chain leads is =
      let on = leads.each going.among.cluster [] going.among.inputs going.among.at in
      let known = subst (λ (o : Option Chain). IfSome o (IsKnown (now.kept home) id)) is on.granted in
      (known.about, ap (λ (k : Kept). (message_at k id).known) going.among.one.kept ∙ known.known)

-- what is known then ends in an attempt
pub ends_so : (setup : Setup) (k : Kept) (id : ℕ) (decrees : List Decree) → grant_refusal setup k id ≡ None → (message_at k id).known ≡ Some decrees
    → EndsInAttempt decrees
ends_so setup k id decrees allowed known =
    by_decrees decrees (ap (known_refusal setup k (message_at k id)) (sym known) ∙ allowed)
  where
    by_kind : (newest : Decree) (older : List Decree) (kind : Kind) → newest.kind ≡ kind
        → newest_refusal setup k (message_at k id) newest (length older) kind ≡ None → EndsInAttempt (newest ∷ older)
    by_kind newest older (Attempt number) is none = subst IsAttempt (sym is) tt
    by_kind newest older (Taken message) is none = absurd cc
    by_kind newest older (Failed error) is none = absurd cc
    by_kind newest older (Fate final error) is none = absurd cc
    by_kind newest older Told is none = absurd cc

    by_decrees : (decrees : List Decree) → known_refusal setup k (message_at k id) (Some decrees) ≡ None → EndsInAttempt decrees
    by_decrees [] none = absurd cc
    by_decrees (newest ∷ older) none = by_kind newest older newest.kind refl none
