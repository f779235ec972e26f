-- Chains of which each decree may follow the one before, behind any message that was taken.
use Rattle.std.proofs.Common.{◌≡◌, List, [], ◌∷◌, ◌++◌, Option, Some}
use Rattle.mc_model.specs.message.Decree.{Decree, Kind, Final, Taken, Attempt, Failed, Fate, Told}
use Rattle.mc_model.specs.message.Chain.{MayExtend, taken_in, final_in, final_by}
use Rattle.mc_parts.specs.Telling.{IsToldBehind}
use Rattle.mc_parts.proofs.Fates.{fate_is_last as last_of, state_stays as state_of}

abbrev pub IsTaking : Kind → Type 0
IsTaking (Taken message) = Unit {0}
IsTaking (Attempt number) = ⊥
IsTaking (Failed error) = ⊥
IsTaking (Fate final error) = ⊥
IsTaking Told = ⊥

abbrev pub IsOrderly : List Decree → Type 0
IsOrderly [] = ⊥
IsOrderly (only ∷ []) = IsTaking only.kind
IsOrderly (newest ∷ older ∷ oldest) = IsOrderly (older ∷ oldest) × MayExtend (taken_in (older ∷ oldest)) (older ∷ oldest) newest

pub taking_is_no_fate : (kind : Kind) (older : Option Final) (final : Final) → IsTaking kind → final_by kind older ≡ Some final → ⊥
taking_is_no_fate (Taken message) older final taking is = cc
taking_is_no_fate (Attempt number) older final taking is = taking
taking_is_no_fate (Failed error) older final taking is = taking
taking_is_no_fate (Fate last error) older final taking is = taking
taking_is_no_fate Told older final taking is = taking

-- nothing but a Told stands behind a fate
pub fate_is_last : (chain more : List Decree) (final : Final) → IsOrderly (more ++ chain) → final_in chain ≡ Some final → IsToldBehind more
fate_is_last = last_of IsOrderly (λ newest older oldest orderly. orderly)

pub state_stays : (shorter more : List Decree) (final : Final) → IsOrderly (more ++ shorter) → final_in shorter ≡ Some final →
    final_in (more ++ shorter) ≡ Some final
state_stays = state_of IsOrderly (λ newest older oldest orderly. orderly)
