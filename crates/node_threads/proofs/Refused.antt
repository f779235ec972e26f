-- Why a node that works refuses a step.
use Rattle.std.proofs.Common.{◌≡◌, ◌⊎◌, ◌||◌, Bool, true, false, Option, Result, Ok, Err, IfErr, IsErrAnd, subst, ◌∙◌, inl, inr}
use Rattle.node_core.specs.Nodes.{Standing}
use Rattle.node_core.specs.StepFault.{StepFault}
use Rattle.journal_parts.specs.Step.{Step}
use Rattle.journal_parts.specs.Faults.{IsCopied, fault_at}
use Rattle.journal_parts.specs.Refusals.{IsRefusedAs}
use Rattle.journal_parts.specs.declared.refusal.Refusal.{Refusal}
use Rattle.journal_parts.specs.declared.refusal.Refusal.TheVariants as refusals
use Rattle.journal_parts.proofs.Faults.{copied_freely}

pub neither : (astray broken : Bool) → (astray || broken) ≡ false → broken ≡ false
neither true broken is = absurd (cc)
neither false broken is = is

-- It refuses a packet, a request or a tick for want of memory alone.
pub copied_refused : {S : Type 0} (node : Standing S) (step : Step) (refusal : Refusal) → node.broken ≡ false → IsCopied step →
    (refusal ≡ refusals.Device) ⊎ ((refusal ≡ refusals.Memory) ⊎ IsRefusedAs (fault_at node step) refusal) →
    (refusal ≡ refusals.Device) ⊎ (refusal ≡ refusals.Memory)
copied_refused node step refusal works copied (inl device) = inl device
copied_refused node step refusal works copied (inr (inl memory)) = inr memory
copied_refused node step refusal works copied (inr (inr refused)) =
    inr (subst (λ (why : Option StepFault). IsRefusedAs why refusal) (copied_freely node step copied works) refused)

-- It is not admitted for one of four reasons.
pub not_admitted : {A : Type 0} (result : Result A Refusal) (told : Refusal) → IsErrAnd result (λ other. other ≡ told) →
    (told ≡ refusals.Full) ⊎ ((told ≡ refusals.Broken) ⊎ ((told ≡ refusals.NoSuchPacket) ⊎ (told ≡ refusals.Memory))) →
    IfErr result (λ refusal. (refusal ≡ refusals.Full)
    ⊎ ((refusal ≡ refusals.Broken) ⊎ ((refusal ≡ refusals.NoSuchPacket) ⊎ ((refusal ≡ refusals.Device) ⊎ (refusal ≡ refusals.Memory)))))
not_admitted (Ok a) told is why = absurd is
not_admitted (Err other) told is (inl full) = inl (is ∙ full)
not_admitted (Err other) told is (inr (inl broken)) = inr (inl (is ∙ broken))
not_admitted (Err other) told is (inr (inr (inl absent))) = inr (inr (inl (is ∙ absent)))
not_admitted (Err other) told is (inr (inr (inr memory))) = inr (inr (inr (inr (is ∙ memory))))
