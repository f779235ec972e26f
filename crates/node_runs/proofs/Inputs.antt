-- What comes to a node of the code may come to it.
use Rattle.std.proofs.Common.{◌≡◌, ◌↔◌, ◌⊎◌, ℕ, ◌≤◌, Bool, true, false, Option, Some, None, Result, Ok, Err, refl}
use Rattle.std.proofs.Common.{sym, subst, inl, inr, true≢false}
use Rattle.std.specs.Prelude.{IfErr, IsErrOf, option_map, if◌then◌else◌}
use Rattle.mc_model.specs.message.Ids.{IsIncarnation, IsNode}
use Rattle.mc_model.specs.synod.Packet.{Slot}
use Rattle.mc_model.specs.node.Grant.{GrantRefusal}
use Rattle.mc_model.specs.node.Outcome.{IsOutcome, Outcome}
use Rattle.mc_model.specs.node.Setup.{Setup}
use Rattle.node_model.specs.Attempts.{grant_refusal}
use Rattle.node_model.specs.Kept.{Kept}
use Rattle.node_model.specs.Granted.{is_open, known_slot}
use Rattle.node_laws.specs.Runs.{IsGrantable, IsOpen}
use Rattle.delivery.specs.Kept.{outcome_kept}
use Rattle.arrival_laws.proofs.Asking.{request_comes}
use Rattle.arrival_laws.proofs.Attempts.{grant_comes, outcome_comes}
use Rattle.node_core.specs.StepFault.{StepFault}
use Rattle.node_core.specs.StepFault.TheVariants as faults
use Rattle.node_core.specs.Input.{Input}
use Rattle.node_core.specs.Input.TheVariants as given
use Rattle.node_core.specs.Attempting.{reason_of}
use Rattle.node_core.specs.Keeping.{kept_of}
use Rattle.node_core.specs.Steps.{IsFault, refused_by}
use Rattle.node_core.specs.Nodes.{HasStopped, IsUnmoved, Seen, Standing}
use Rattle.node_runs.specs.Runs.{IsLeftBy, IsSound, may_come_to}

-- ---- attempts

module _ (setup : Setup) (k : Kept) (id : ℕ) where
  allowed : (refusal : Option GrantRefusal) → option_map (λ (one : GrantRefusal). faults.Grant (reason_of one)) refusal ≡ None → refusal ≡ None
  allowed None is = refl
  allowed (Some one) is = absurd cc

  grantable : option_map (λ (one : GrantRefusal). faults.Grant (reason_of one)) (grant_refusal setup k id) ≡ None → IsGrantable setup k (known_slot k id)
  grantable none = grant_comes setup k id (allowed (grant_refusal setup k id) none)

open_so : (k : Kept) (slot : Slot) (outcome : Outcome) → IsOutcome outcome →
    (if is_open k slot then None else Some faults.NotGranted) ≡ None →
    IsOpen k slot outcome
open_so k slot outcome possible none = outcome_comes k slot outcome possible (by_test (is_open k slot) none)
  where
    by_test : (test : Bool) → (if test then None else Some faults.NotGranted) ≡ None → test ≡ true
    by_test true none = refl
    by_test false none = absurd cc

-- ---- all that comes

pub comes : {S : Type 0} (node : Standing S) (input : Input) → IsNode node.kept.setup.node → IsIncarnation node.kept.incarnation → 1 ≤ node.kept.serial →
    IsSound input → refused_by node.kept.setup (kept_of node.kept) input ≡ None → may_come_to node input
comes node (given.Packet packet) is_node lives begun sound free = sound
comes node (given.Request account request) is_node lives begun sound free =
    (request_comes node.kept.setup (kept_of node.kept) is_node lives begun account request).may
comes node (given.Grant id) is_node lives begun sound free = grantable node.kept.setup (kept_of node.kept) id free
comes node (given.Answered slot outcome) is_node lives begun sound free = open_so (kept_of node.kept) slot (outcome_kept outcome) sound free
comes node (given.Tick moment reach) is_node lives begun sound free = tt

-- ---- a step that is not taken

pub unmoved : (s : Seen) → IsUnmoved s s
unmoved s = record {
  kept = refl;
  broken = refl;
  stored = record { records = λ records held. held; started = λ started has. has };
  unfinished = refl;
  waiting = refl;
  stopped = refl;
}

pub take_faults : {A : Type 0} (result : Result A StepFault) (broken : Bool) (other : Option StepFault) → IsErrOf result faults.Broken ↔ (broken ≡ true) →
    other ≡ None → IfErr result (λ fault. (fault ≡ faults.Broken) ⊎ (fault ≡ faults.Device) ⊎ (fault ≡ faults.Memory)) →
    IfErr result (λ fault. ((fault ≡ faults.Device) × ((if broken then Some faults.Broken else other) ≡ None)) ⊎
    IsFault (if broken then Some faults.Broken else other) fault)
take_faults (Ok given) broken other is none among = tt
take_faults (Err fault) true other is none among = let same : Err fault ≡ Err faults.Broken = is.1 refl in let told : fault ≡ faults.Broken = cc in inr told
take_faults (Err fault) false other is none among = elim among [
  | inl same ↦ absurd (true≢false (sym (is.0 (λ i. Err (same i)))))
  | inr (inl same) ↦ inl (same, none)
  | inr (inr same) ↦ inr (subst (λ (told : Option StepFault). IsFault told fault) (sym none) same)
]

pub take_left : {A : Type 0} (result : Result A StepFault) (old new : Seen) (input : Input) →
    IfErr result (λ fault. (fault ≡ faults.Broken) ⊎ (fault ≡ faults.Device) ⊎ (fault ≡ faults.Memory)) →
    (IsErrOf result faults.Broken → IsUnmoved old new) → (IsErrOf result faults.Memory → IsUnmoved old new) →
    (IsErrOf result faults.Device → HasStopped old input new) → IfErr result (λ fault. IsLeftBy fault old input new)
take_left (Ok given) old new input among unmoved memory device = tt
take_left (Err fault) old new input among unmoved memory device = elim among [
  | inl same ↦ subst (λ (one : StepFault). IsLeftBy one old input new) (sym same) (unmoved (λ i. Err (same i)))
  | inr (inl same) ↦ subst (λ (one : StepFault). IsLeftBy one old input new) (sym same) (device (λ i. Err (same i)))
  | inr (inr same) ↦ subst (λ (one : StepFault). IsLeftBy one old input new) (sym same) (memory (λ i. Err (same i)))
]
