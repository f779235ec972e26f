-- A step that stands on another life than the node's is not taken, and why.
use Rattle.std.proofs.Common.{◌≡◌, ◌∙◌, ap, refl, true, false, Bool, if◌then◌else◌, Option, None, Some, option_map, Result, Ok, Err, IfOk, IfErr, IsErrOf, is_ok, is_some}
use Rattle.std.proofs.lemmas.Bool.{true≢false}
use Rattle.mc_model.specs.node.Setup.{Setup}
use Rattle.node_model.specs.Kept.{Kept}
use Rattle.mc_model.specs.node.Grant.{GrantRefusal}
use Rattle.node_model.specs.Attempts.{grant_refusal}
use Rattle.node_model.specs.Granted.{is_open}
use Rattle.node_kept.specs.Attempting.{reason_of}
use Rattle.node_kept.specs.StepFault.{StepFault}
use Rattle.node_kept.specs.StepFault.TheVariants.{Broken, Device, Grant, Memory, NotGranted, StrangeLife}
use Rattle.node_kept.specs.Input.{Input}
use Rattle.node_kept.specs.Input.TheVariants as given
use Rattle.node_kept.specs.Keeping.{kept_of}
use Rattle.node_kept.specs.Steps.{IsFault, refused_by}
use Rattle.node_core.specs.declared.life.Life.{Life}
use Rattle.node_core.specs.declared.pending.Pending.{Pending}
use Rattle.node_core.specs.Nodes.{IsAwaited, Standing, fault_in}
use Rattle.node_core.specs.Permits.{fault_under, is_life_of, strange_or, unless_strange}

-- ---- no step is refused for want of memory

abbrev is_memory : Option StepFault → Bool
is_memory None = false
is_memory (Some Memory) = true
is_memory (Some Broken) = false
is_memory (Some (Grant refusal)) = false
is_memory (Some NotGranted) = false
is_memory (Some Device) = false
is_memory (Some StrangeLife) = false

of_refusal : (refusal : Option GrantRefusal) → is_memory (option_map (λ refusal. Grant (reason_of refusal)) refusal) ≡ false
of_refusal None = refl
of_refusal (Some refusal) = refl

of_slot : (open_there : Bool) → is_memory (if open_there then None else Some NotGranted) ≡ false
of_slot true = refl
of_slot false = refl

of_step : (setup : Setup) (k : Kept) (input : Input) → is_memory (refused_by setup k input) ≡ false
of_step setup k (given.Packet packet) = refl
of_step setup k (given.Request account request) = refl
of_step setup k (given.Grant id) = of_refusal (grant_refusal setup k id)
of_step setup k (given.Answered slot outcome) = of_slot (is_open k slot)
of_step setup k (given.Tick moment reach) = refl

of_node : (broken : Bool) (refusal : Option StepFault) → is_memory refusal ≡ false → is_memory (if broken then Some Broken else refusal) ≡ false
of_node true refusal is = refl
of_node false refusal is = is

-- ---- the fault

kept : (fault : StepFault) → is_memory (Some fault) ≡ false → strange_or fault ≡ fault
kept Memory is = absurd (true≢false is)
kept Broken is = refl
kept (Grant refusal) is = refl
kept NotGranted is = refl
kept Device is = refl
kept StrangeLife is = refl

not_broken : (broken : Bool) (refusal : Option StepFault) → (broken ≡ true → ⊥) → refusal ≡ None → (if broken then Some Broken else refusal) ≡ None
not_broken true refusal never none = absurd (never refl)
not_broken false refusal never none = none

if_none : (is_own : Bool) (against : Option StepFault) (fault : StepFault) → is_own ≡ false → against ≡ None → fault ≡ StrangeLife →
    IsFault (unless_strange is_own against) fault
if_none true None fault own none is = absurd (true≢false own)
if_none false None fault own none is = is
if_none is_own (Some other) fault own none is = absurd (true≢false (ap is_some none))

if_some : (is_own : Bool) (against : Option StepFault) (would fault : StepFault) → is_own ≡ false → is_memory against ≡ false → IsFault against would →
    fault ≡ strange_or would → IsFault (unless_strange is_own against) fault
if_some true None would fault own never was is = absurd (true≢false own)
if_some false None would fault own never was is = is ∙ ap strange_or was
if_some is_own (Some other) would fault own never was is = is ∙ ap strange_or was ∙ kept other never

pub strange_fault : {S : Type 0} (node : Standing S) (life : Life) (input : Input) (prepared : Result Pending StepFault) (fault : StepFault) →
    is_life_of node life ≡ false → IfOk prepared (IsAwaited node input) → (node.broken ≡ true → IsErrOf prepared Broken) →
    IfErr prepared (IsFault (fault_in node input)) → IfOk prepared (λ pending. fault ≡ StrangeLife) → IfErr prepared (λ would. fault ≡ strange_or would) →
    IsFault (fault_under node life input) fault
strange_fault node life input (Ok pending) fault own ok broken err when_ok when_err =
    let works : node.broken ≡ true → ⊥ = λ b. true≢false (ap is_ok (broken b)) in
    if_none (is_life_of node life) (fault_in node input) fault own
    (not_broken node.broken (refused_by node.kept.setup (kept_of node.kept) input) works ok.allowed)
    when_ok
strange_fault node life input (Err would) fault own ok broken err when_ok when_err =
    if_some (is_life_of node life) (fault_in node input) would fault own
    (of_node node.broken (refused_by node.kept.setup (kept_of node.kept) input) (of_step node.kept.setup (kept_of node.kept) input))
    err
    when_err
