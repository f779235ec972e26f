-- What a node keeps once a step is saved.
use Rattle.std.proofs.Common.{◌≡◌, false, subst, ◌∙◌}
use Rattle.node_kept.specs.Input.{Input}
use Rattle.node_kept.specs.declared.kept.Kept.{Kept as Holding}
use Rattle.node_kept.specs.declared.step.Step.{Step}
use Rattle.node_kept.specs.Steps.{IsInstalled, IsStepFor}
use Rattle.node_kept.proofs.Installing.{installed_so}
use Rattle.node_core.specs.Nodes.{HasTaken, Standing}

pub taken : {S : Type 0} (old new : Standing S) (was : Holding) (input came : Input) (step : Step) → was ≡ old.kept → came ≡ input → IsStepFor was came step →
    IsInstalled old.kept step.next new.kept → new.broken ≡ false → new.unfinished ≡ old.unfinished → new.waiting ≡ old.waiting →
    new.stopped ≡ old.stopped → HasTaken old input new step.outputs
taken old new was input came step same_kept same_input prepared installed works unfinished waiting stopped =
    let is : IsStepFor old.kept input step =
    subst (λ (i : Input). IsStepFor old.kept i step) same_input (subst (λ (h : Holding). IsStepFor h came step) same_kept prepared) in
    record {
      kept = installed_so old.kept new.kept step.next installed ∙ is.is.kept;
      given = is.is.outputs;
      allowed = is.allowed;
      granted = is.granted;
      setup = installed.setup;
      incarnation = installed.incarnation;
      works = works;
      unfinished = unfinished;
      waiting = waiting;
      stopped = stopped;
    }
