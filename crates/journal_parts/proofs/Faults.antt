-- Why a step is not prepared.
use Rattle.std.proofs.Common.{◌≡◌, Bool, true, false, Option, Some, None, Result, Ok, Err, IfErr, IsErrAnd, IsErrOf, if◌then◌else◌}
use Rattle.std.proofs.Common.{refl, sym, ap, subst, ◌∙◌, arith}
use Rattle.std.specs.Prelude.{◌↔◌}
use Rattle.node_core.specs.Keeping.{kept_of}
use Rattle.node_core.specs.Input.{Input as Given}
use Rattle.node_core.specs.Input.TheVariants as given
use Rattle.node_core.specs.Nodes.{Standing, fault_in}
use Rattle.node_core.specs.StepFault.{StepFault}
use Rattle.node_core.specs.StepFault.TheVariants as faults
use Rattle.node_core.specs.Steps.{IsFault, refused_by}
use Rattle.synod_acceptor.specs.declared.packet.Packet.{Packet}
use Rattle.node_entry.specs.declared.step.Step.{Step}
use Rattle.node_entry.specs.declared.step.Step.TheVariants as steps
use Rattle.journal_parts.specs.Faults.{IsCopied, fault_at}
use Rattle.journal_parts.specs.Members.{ComesWith}
use Rattle.journal_parts.specs.Refusals.{IsRefusedAs, refused_as}
use Rattle.journal_parts.specs.declared.refusal.Refusal.{Refusal}
use Rattle.journal_parts.specs.declared.refusal.Refusal.TheVariants as refusals

-- It is the fault of what comes by the step.
pub fault_same : {S : Type 0} (node : Standing S) (step : Step) (packet : Option Packet) (input : Given) → ComesWith step packet input →
    fault_in node input ≡ fault_at node step
fault_same node (steps.Deliver number at) None input comes = absurd (cc)
fault_same node (steps.Deliver number at) (Some packet) input comes =
    let same : given.Packet packet ≡ input = cc in ap (fault_in node) (sym same)
fault_same node (steps.Request at account request) packet input comes = ap (fault_in node) comes.1
fault_same node (steps.Tick at moment reach) packet (given.Tick second others) comes = refl
fault_same node (steps.Tick at moment reach) packet (given.Packet came) comes = absurd comes
fault_same node (steps.Tick at moment reach) packet (given.Request account request) comes = absurd comes
fault_same node (steps.Tick at moment reach) packet (given.Grant id) comes = absurd comes
fault_same node (steps.Tick at moment reach) packet (given.Answered slot outcome) comes = absurd comes
fault_same node (steps.Grant at id) packet input comes = ap (fault_in node) comes.1
fault_same node (steps.Answered at slot outcome) packet input comes = ap (fault_in node) comes.1
fault_same node (steps.Crash at number found) packet input comes = absurd comes
fault_same node (steps.Restart at) packet input comes = absurd comes

told_as : (why : Option StepFault) (fault : StepFault) → IsFault why fault → IsRefusedAs why (refused_as fault)
told_as None fault is = ap refused_as is
told_as (Some reason) fault is = ap refused_as is

-- So it is told.
pub refused_so : {S : Type 0} (node : Standing S) (step : Step) (packet : Option Packet) (input : Given) (fault : StepFault) → ComesWith step packet input →
    IsFault (fault_in node input) fault → IsRefusedAs (fault_at node step) (refused_as fault)
refused_so node step packet input fault comes is =
    told_as (fault_at node step) fault (subst (λ (why : Option StepFault). IsFault why fault) (fault_same node step packet input comes) is)

-- Nothing stands against a step whose copy wants memory, at a node that works.
pub copied_freely : {S : Type 0} (node : Standing S) (step : Step) → IsCopied step → node.broken ≡ false → fault_at node step ≡ None
copied_freely node (steps.Deliver number at) copied works = grind (arith, works)
copied_freely node (steps.Request at account request) copied works = grind (arith, works)
copied_freely node (steps.Tick at moment reach) copied works = grind (arith, works)
copied_freely node (steps.Grant at id) copied works = absurd copied
copied_freely node (steps.Answered at slot outcome) copied works = absurd copied
copied_freely node (steps.Crash at number found) copied works = absurd copied
copied_freely node (steps.Restart at) copied works = absurd copied

none_if : (broken : Bool) (why : Option StepFault) → broken ≡ false → why ≡ None → (if broken then Some faults.Broken else why) ≡ None
none_if true why works none = absurd (cc)
none_if false why works none = none

-- So it is of one that was prepared.
pub prepared_freely : {S : Type 0} (node : Standing S) (step : Step) (packet : Option Packet) (input : Given) → ComesWith step packet input →
    node.broken ≡ false → refused_by node.kept.setup (kept_of node.kept) input ≡ None → fault_at node step ≡ None
prepared_freely node step packet input comes works allowed =
    sym (fault_same node step packet input comes) ∙ none_if node.broken (refused_by node.kept.setup (kept_of node.kept) input) works allowed

-- ---- as a call tells it

pub memory_told : {A : Type 0} (result : Result A Refusal) (why : Option StepFault) → IsErrAnd result (λ told. told ≡ refusals.Memory) → why ≡ None →
    IfErr result (IsRefusedAs why)
memory_told (Ok a) why told none = record {}
memory_told (Err refusal) why told none = subst (λ (w : Option StepFault). IsRefusedAs w refusal) (sym none) told

pub fault_told : {A S : Type 0} (result : Result A Refusal) (node : Standing S) (step : Step) (packet : Option Packet) (input : Given) (fault : StepFault) →
    IsErrAnd result (λ told. told ≡ refused_as fault) → ComesWith step packet input → IsFault (fault_in node input) fault →
    IfErr result (IsRefusedAs (fault_at node step))
fault_told (Ok a) node step packet input fault told comes is = record {}
fault_told (Err refusal) node step packet input fault told comes is =
    subst (λ (r : Refusal). IsRefusedAs (fault_at node step) r) (sym told) (refused_so node step packet input fault comes is)

broken_as : (fault : StepFault) → refused_as fault ≡ refusals.Broken → fault ≡ faults.Broken
broken_as faults.Broken is = refl
broken_as (faults.Grant reason) is = absurd (cc)
broken_as faults.NotGranted is = absurd (cc)
broken_as faults.Device is = absurd (cc)
broken_as faults.StrangeLife is = absurd (cc)
broken_as faults.Memory is = absurd (cc)

pub broken_told : {A : Type 0} (result : Result A Refusal) (fault : StepFault) → IsErrAnd result (λ told. told ≡ refused_as fault) →
    IsErrOf result refusals.Broken → fault ≡ faults.Broken
broken_told (Ok a) fault told is = absurd (cc)
broken_told (Err refusal) fault told is =
    let same : refusal ≡ refusals.Broken = cc in broken_as fault (sym told ∙ same)

-- NoSuchPacket is not told for want of memory.
pub absent_not_told : {A : Type 0} (result : Result A Refusal) (Absent : Type 0) → IsErrAnd result (λ told. told ≡ refusals.Memory) → (Absent → ⊥) →
    (IsErrOf result refusals.NoSuchPacket ↔ Absent)
absent_not_told (Ok a) Absent told not = absurd told
absent_not_told (Err refusal) Absent told not = (
  (λ is. let same : refusal ≡ refusals.NoSuchPacket = cc in let other : refusals.Memory ≡ refusals.NoSuchPacket = sym told ∙ same in absurd cc),
  (λ absent. absurd (not absent)),
)
