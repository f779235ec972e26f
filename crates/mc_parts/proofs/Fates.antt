-- Behind a fate its receipt is told, and nothing follows that.
use Rattle.std.proofs.Common.{◌≡◌, ◌⊎◌, ℕ, List, [], ◌∷◌, ◌++◌, Option, Some, None, refl, sym, ◌∙◌, ap, inl, inr}
use Rattle.mc_model.specs.message.Submission.{Submission}
use Rattle.mc_model.specs.message.Decree.{Decree, Author, Kind, Final, Taken, Attempt, Failed, Fate, Told}
use Rattle.mc_model.specs.message.Neighbours.{MayFollow}
use Rattle.mc_model.specs.message.Chain.{MayExtend, final_in, final_by, taken_in, untold, untold_by}
use Rattle.mc_parts.specs.Telling.{IsToldBehind}

ends : (message : Submission) (home attempt : ℕ) (old : Author) (before : ℕ) (kind : Kind) (author : Author) (moment : ℕ) (next : Kind)
    (older : Option Final) (final : Final) → final_by kind older ≡ Some final →
    MayFollow message home attempt old before kind author moment next →
    next ≡ Told
ends message home attempt old before (Taken taken) author moment next older final is may = cc
ends message home attempt old before (Attempt number) author moment next older final is may = cc
ends message home attempt old before (Failed error) author moment next older final is may = cc
ends message home attempt old before (Fate last error) author moment (Taken taken) older final is may = absurd may
ends message home attempt old before (Fate last error) author moment (Attempt number) older final is may = absurd may
ends message home attempt old before (Fate last error) author moment (Failed cause) older final is may = absurd may
ends message home attempt old before (Fate last error) author moment (Fate next cause) older final is may = absurd may
ends message home attempt old before (Fate last error) author moment Told older final is may = refl
ends message home attempt old before Told author moment next older final is may = absurd may

pub fate_ends : (taken : Option Submission) (decrees : List Decree) (next : Decree) (final : Final) → final_in decrees ≡ Some final →
    MayExtend taken decrees next →
    next.kind ≡ Told
fate_ends None decrees next final is may = absurd may
fate_ends (Some message) [] next final is may = absurd may
fate_ends (Some message) (newest ∷ older) next final is may =
    ends message _ _ newest.author newest.moment newest.kind next.author next.moment next.kind _ final is may.1

closes : (message : Submission) (home attempt : ℕ) (old : Author) (before : ℕ) (kind : Kind) (author : Author) (moment : ℕ) (next : Kind) →
    kind ≡ Told → MayFollow message home attempt old before kind author moment next →
    ⊥
closes message home attempt old before (Taken taken) author moment next is may = cc
closes message home attempt old before (Attempt number) author moment next is may = cc
closes message home attempt old before (Failed error) author moment next is may = cc
closes message home attempt old before (Fate last error) author moment next is may = cc
closes message home attempt old before Told author moment next is may = may

pub told_ends : (taken : Option Submission) (told : Decree) (older : List Decree) (next : Decree) → told.kind ≡ Told →
    MayExtend taken (told ∷ older) next →
    ⊥
told_ends None told older next is may = may
told_ends (Some message) told older next is may =
    closes message _ _ told.author told.moment told.kind next.author next.moment next.kind is may.1

-- ---- a chain without its Told

untold_state : (kind : Kind) (newest : Decree) (older : List Decree) → newest.kind ≡ kind →
    final_in (untold_by kind (newest ∷ older) older) ≡ final_by kind (final_in older)
untold_state (Taken message) newest older is = ap (λ (k : Kind). final_by k (final_in older)) is
untold_state (Attempt number) newest older is = ap (λ (k : Kind). final_by k (final_in older)) is
untold_state (Failed error) newest older is = ap (λ (k : Kind). final_by k (final_in older)) is
untold_state (Fate final error) newest older is = ap (λ (k : Kind). final_by k (final_in older)) is
untold_state Told newest older is = refl

pub state_of_untold : (decrees : List Decree) → final_in (untold decrees) ≡ final_in decrees
state_of_untold [] = refl
state_of_untold (newest ∷ older) = untold_state newest.kind newest older refl

pub untold_told : (told : Decree) (older : List Decree) → told.kind ≡ Told → untold (told ∷ older) ≡ older
untold_told told older is = ap (λ (k : Kind). untold_by k (told ∷ older) older) is

pub open_kind : (kind : Kind) (whole older : List Decree) → (kind ≡ Told → ⊥) → untold_by kind whole older ≡ whole
open_kind (Taken message) whole older not = refl
open_kind (Attempt number) whole older not = refl
open_kind (Failed error) whole older not = refl
open_kind (Fate final error) whole older not = refl
open_kind Told whole older not = absurd (not refl)

-- what a decree follows ends in no Told
pub untold_below : (taken : Option Submission) (decrees : List Decree) (next : Decree) → MayExtend taken decrees next → untold decrees ≡ decrees
untold_below taken [] next may = refl
untold_below taken (newest ∷ older) next may = open_kind newest.kind (newest ∷ older) older (λ is. told_ends taken newest older next is may)

-- whether a kind is that
pub told_or_not : (kind : Kind) → (kind ≡ Told) ⊎ (kind ≡ Told → ⊥)
told_or_not (Taken message) = inr (λ is. cc)
told_or_not (Attempt number) = inr (λ is. cc)
told_or_not (Failed error) = inr (λ is. cc)
told_or_not (Fate final error) = inr (λ is. cc)
told_or_not Told = inl refl

-- ---- what stands behind a fate, in chains of which each decree may follow the one before

module _ (Stands : List Decree → Type 0)
    (follows : (newest older : Decree) (oldest : List Decree) → Stands (newest ∷ older ∷ oldest) →
    Stands (older ∷ oldest) × MayExtend (taken_in (older ∷ oldest)) (older ∷ oldest) newest) where
  -- two decrees behind one would be a Told, and one more behind that
  pub fate_is_last : (chain more : List Decree) (final : Final) → Stands (more ++ chain) → final_in chain ≡ Some final → IsToldBehind more
  fate_is_last chain [] final stands is = inl refl
  fate_is_last [] (newest ∷ more) final stands is = cc
  fate_is_last (first ∷ older) (newest ∷ []) final stands is =
      inr (newest, (refl, fate_ends _ (first ∷ older) newest final is (follows newest first older stands).1))
  fate_is_last chain (newest ∷ next ∷ more) final stands is =
      let both = follows newest next (more ++ chain) stands in
      elim (fate_is_last chain (next ∷ more) final both.0 is) [
        | inl none ↦ cc
        | inr told ↦ let same : next ≡ told.0 = cc in
            absurd (told_ends _ next (more ++ chain) newest (ap (λ (x : Decree). x.kind) same ∙ told.1.1) both.1)
      ]

  pub fate_stays : (shorter more : List Decree) (final : Final) → Stands (more ++ shorter) → final_in shorter ≡ Some final →
      untold (more ++ shorter) ≡ untold shorter
  fate_stays shorter [] final stands is = refl
  fate_stays [] (newest ∷ more) final stands is = cc
  fate_stays (first ∷ older) (newest ∷ []) final stands is =
      let may = (follows newest first older stands).1 in
      untold_told newest (first ∷ older) (fate_ends _ (first ∷ older) newest final is may) ∙ sym (untold_below _ (first ∷ older) newest may)
  fate_stays shorter (newest ∷ next ∷ more) final stands is = elim (fate_is_last shorter (newest ∷ next ∷ more) final stands is) [
    | inl none ↦ cc
    | inr told ↦ cc
  ]

  -- so the state stays
  pub state_stays : (shorter more : List Decree) (final : Final) → Stands (more ++ shorter) → final_in shorter ≡ Some final →
      final_in (more ++ shorter) ≡ Some final
  state_stays shorter more final stands is =
      sym (state_of_untold (more ++ shorter)) ∙ (ap final_in (fate_stays shorter more final stands is) ∙ (state_of_untold shorter ∙ is))
