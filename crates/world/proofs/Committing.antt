-- What a step leaves of a node over a list.
use Rattle.std.proofs.Common.{◌≡◌, ◌≤◌, ◌↔◌, ◌⊎◌, true, Option, Some, None, Result, Ok, Err, sym, ap, ◌∙◌, inl, inr, arith, true≢false}
use Rattle.std.specs.Prelude.{IfErr, IfOk, IsErrOf, OnOk}
use Rattle.stable_store.specs.Stored.{HasFailed, KeepsStarted, Listed, stored_in}
use Rattle.node_runs.specs.Input.{Input}
use Rattle.node_runs.specs.Outputs.{Outputs}
use Rattle.node_runs.specs.StepFault.{StepFault}
use Rattle.node_runs.specs.StepFault.TheVariants.{Broken, Device, Memory}
use Rattle.node_runs.specs.Kept.{Kept}
use Rattle.node_runs.specs.Life.{Life}
use Rattle.node_runs.specs.Nodes.{HasTaken, IsUnmoved, Standing, seen}
use Rattle.world.specs.Members.{IsLived, IsSound}

-- a list does not fail
pub never_fails : (old new : Listed) → HasFailed (stored_in old 0) (stored_in new 0) → ⊥
never_fails old new failed = let none : 1 ≤ 0 = failed in omega (arith, none)

lives_on : (old new : Standing Listed) (life : Option Life) → new.kept.setup ≡ old.kept.setup → new.kept.incarnation ≡ old.kept.incarnation →
    IsLived old life → IsLived new life
lives_on old new None setup incarnation lives = lives
lives_on old new (Some life) setup incarnation lives = record {
  node_is = lives.node_is ∙ sym (ap (λ s. s.node) setup);
  start_is = lives.start_is ∙ sym incarnation;
}

pub sound_after : (result : Result Outputs StepFault) (old new : Standing Listed) (input : Input) (life : Option Life) → IsSound old life →
    IfOk result (HasTaken old input new) → OnOk result (KeepsStarted (stored_in old.store 0) (stored_in new.store 0)) →
    IfErr result (λ fault. (fault ≡ Broken) ⊎ (fault ≡ Device) ⊎ (fault ≡ Memory)) → (IsErrOf result Broken ↔ (old.broken ≡ true)) →
    (IsErrOf result Device → HasFailed (stored_in old.store 0) (stored_in new.store 0)) →
    (IsErrOf result Memory → IsUnmoved (seen (λ list. stored_in list 0) old) (seen (λ list. stored_in list 0) new)) → IsSound new life
sound_after (Ok outputs) old new input life is taken keeps faults broken device memory = record {
  works = taken.works;
  started = keeps old.kept.incarnation is.started ∙ sym taken.incarnation;
  lives = lives_on old new life taken.setup taken.incarnation is.lives;
}
sound_after (Err fault) old new input life is taken keeps faults broken device memory = elim faults [
  | inl same ↦ absurd (true≢false (sym (broken.0 (λ i. Err (same i))) ∙ is.works))
  | inr (inl same) ↦ absurd (never_fails old.store new.store (device (λ i. Err (same i))))
  | inr (inr same) ↦
      let still = memory (λ i. Err (same i)) in
      record {
        works = still.broken ∙ is.works;
        started = still.stored.started old.kept.incarnation is.started ∙ sym (ap (λ (k : Kept). k.incarnation) still.kept);
        lives = lives_on old new life (ap (λ (k : Kept). k.setup) still.kept) (ap (λ (k : Kept). k.incarnation) still.kept) is.lives;
      }
]
