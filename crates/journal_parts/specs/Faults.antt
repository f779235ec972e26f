-- Why a node does not take a step (own).
use Rattle.std.specs.Prelude.{Option, Some, None, if◌then◌else◌}
use Rattle.node_core.specs.Input.TheVariants as given
use Rattle.node_core.specs.Nodes.{Standing, fault_in}
use Rattle.node_core.specs.StepFault.{StepFault}
use Rattle.node_core.specs.StepFault.TheVariants as faults
use Rattle.node_entry.specs.declared.step.Step.{Step}
use Rattle.node_entry.specs.declared.step.Step.TheVariants as steps

-- what comes by it is copied, and that takes memory
abbrev pub IsCopied : Step → Type 0
IsCopied (steps.Deliver number node) = Unit {0}
IsCopied (steps.Request node account request) = Unit {0}
IsCopied (steps.Tick node moment reach) = Unit {0}
IsCopied (steps.Grant node id) = ⊥
IsCopied (steps.Answered node slot outcome) = ⊥
IsCopied (steps.Crash node number found) = ⊥
IsCopied (steps.Restart node) = ⊥

-- why a node does not take it: a save failed, or what comes by it is refused
abbrev pub fault_at : {S : Type 0} → Standing S → Step → Option StepFault
fault_at at (steps.Deliver number node) = if at.broken then Some faults.Broken else None
fault_at at (steps.Request node account request) = if at.broken then Some faults.Broken else None
fault_at at (steps.Tick node moment reach) = if at.broken then Some faults.Broken else None
fault_at at (steps.Grant node id) = fault_in at (given.Grant id)
fault_at at (steps.Answered node slot outcome) = fault_in at (given.Answered slot outcome)
fault_at at (steps.Crash node number found) = None
fault_at at (steps.Restart node) = None
