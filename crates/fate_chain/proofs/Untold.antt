-- The newest decree of a chain but Told.
use Rattle.std.proofs.Common.{◌≡◌, ℕ, ◌≤◌, List, [], ◌∷◌, length, Option, Some, None, slice_get, refl, sym, ap, ◌∙◌, arith}
use Rattle.mc_model.specs.message.Decree.{Decree, Kind, Final, Taken, Attempt, Failed, Fate, Told}
use Rattle.mc_model.specs.message.Chain.{IsPermitted, final_by, final_in, untold, untold_by}
use Rattle.mc_parts.proofs.Fates.{open_kind}
use Rattle.mc_parts.proofs.Tellings.{told_stands}
use Rattle.fate_chain.specs.Kinds.{kind_of}
use Rattle.fate_chain.specs.declared.decree.Kind.{Kind as Decided}
use Rattle.fate_chain.specs.declared.decree.Kind.TheVariants as decided

-- ---- if it is no Told, it is the newest one

open_state : (kind : Kind) (older : Option Final) → (kind ≡ Told → ⊥) → final_by kind None ≡ final_by kind older
open_state (Taken message) older not = refl
open_state (Attempt number) older not = refl
open_state (Failed error) older not = refl
open_state (Fate final error) older not = refl
open_state Told older not = absurd (not refl)

kept_not_told : (kind : Decided) → (kind ≡ decided.Told → ⊥) → kind_of kind ≡ Told → ⊥
kept_not_told (decided.Taken message) not is = cc
kept_not_told (decided.Attempt number) not is = cc
kept_not_told (decided.Failed error) not is = cc
kept_not_told (decided.Fate final error) not is = cc
kept_not_told decided.Told not is = not refl

pub record IsNewestUntold (decrees : List Decree) (newest : Decree) : Type 0 where
  pub first : slice_get (untold decrees) 0 ≡ Some newest
  pub state : final_by newest.kind None ≡ final_in decrees

newest_open : (decrees : List Decree) (newest : Decree) → slice_get decrees 0 ≡ Some newest → (newest.kind ≡ Told → ⊥) → IsNewestUntold decrees newest
newest_open [] newest is not = absurd cc
newest_open (first ∷ older) newest is not =
    let same : first ≡ newest = cc in
    let not_told : first.kind ≡ Told → ⊥ = λ told. not (sym (ap (λ (d : Decree). d.kind) same) ∙ told) in
    record {
      first = ap (λ (ds : List Decree). slice_get ds 0) (open_kind first.kind (first ∷ older) older not_told) ∙ is;
      state = ap (λ (d : Decree). final_by d.kind None) (sym same) ∙ open_state first.kind (final_in older) not_told;
    }

pub newest_is_open : (decrees : List Decree) (newest : Decree) (kind : Decided) → slice_get decrees 0 ≡ Some newest → kind_of kind ≡ newest.kind →
    (kind ≡ decided.Told → ⊥) →
    IsNewestUntold decrees newest
newest_is_open decrees newest kind is same not = newest_open decrees newest is (λ told. kept_not_told kind not (same ∙ told))

-- ---- below a Told stands a fate

pub told_has_older : (id : ℕ) (decrees : List Decree) (newest : Decree) → IsPermitted id decrees → slice_get decrees 0 ≡ Some newest →
    newest.kind ≡ Told →
    2 ≤ length decrees
told_has_older id [] newest permitted is told = absurd permitted
told_has_older id (first ∷ older) newest permitted is told =
    let same : first ≡ newest = cc in
    let stands = told_stands id first older permitted (ap (λ (d : Decree). d.kind) same ∙ told) in
    omega (arith, ap length stands.behind)

pub newest_is_below : (id : ℕ) (decrees : List Decree) (newest below : Decree) → IsPermitted id decrees → slice_get decrees 0 ≡ Some newest →
    newest.kind ≡ Told → slice_get decrees 1 ≡ Some below →
    IsNewestUntold decrees below
newest_is_below id [] newest below permitted is told second = absurd permitted
newest_is_below id (first ∷ older) newest below permitted is told second =
    let same : first ≡ newest = cc in
    let ends = ap (λ (d : Decree). d.kind) same ∙ told in
    let stands = told_stands id first older permitted ends in
    let head : Some stands.fate ≡ Some below = sym (ap (λ (ds : List Decree). slice_get ds 0) stands.behind) ∙ second in
    let fate : stands.fate ≡ below = cc in
    let kind_is = sym (ap (λ (d : Decree). d.kind) fate) ∙ stands.ends in
    record {
      first = ap (λ (kind : Kind). slice_get (untold_by kind (first ∷ older) older) 0) ends ∙ second;
      state = ap (λ (kind : Kind). final_by kind None) kind_is ∙ sym
          (ap (λ (kind : Kind). final_by kind (final_in older)) ends ∙ ap final_in stands.behind ∙ ap (λ (kind : Kind). final_by kind (final_in stands.oldest)) stands.ends);
    }

-- ---- a permitted chain of a message that has a final state ends in its fate, told or not

pub record EndsInFate (decrees : List Decree) (final : Final) : Type 0 where
  pub fate : Decree
  pub older : List Decree
  pub error : ℕ
  pub chain_is : untold decrees ≡ fate ∷ older
  pub kind_is : fate.kind ≡ Fate final error

module _ (id : ℕ) (newest : Decree) (older : List Decree) (final : Final) (permitted : IsPermitted id (newest ∷ older)) where
  ends_by : (kind : Kind) → newest.kind ≡ kind → final_by kind (final_in older) ≡ Some final → EndsInFate (newest ∷ older) final
  ends_by (Taken message) is state = cc
  ends_by (Attempt number) is state = cc
  ends_by (Failed error) is state = cc
  ends_by (Fate last error) is state =
      let same : last ≡ final = cc in
      record {
        fate = newest;
        older = older;
        error = error;
        chain_is = ap (λ (kind : Kind). untold_by kind (newest ∷ older) older) is;
        kind_is = is ∙ ap (λ (f : Final). Fate f error) same;
      }
  ends_by Told is state =
      let stands = told_stands id newest older permitted is in
      let ended : Some stands.final ≡ Some final =
      sym (ap final_in stands.behind ∙ ap (λ (kind : Kind). final_by kind (final_in stands.oldest)) stands.ends) ∙ state in
      let same : stands.final ≡ final = cc in
      record {
        fate = stands.fate;
        older = stands.oldest;
        error = stands.error;
        chain_is = ap (λ (kind : Kind). untold_by kind (newest ∷ older) older) is ∙ stands.behind;
        kind_is = stands.ends ∙ ap (λ (f : Final). Fate f stands.error) same;
      }

pub ends_in_fate : (id : ℕ) (decrees : List Decree) (final : Final) → IsPermitted id decrees → final_in decrees ≡ Some final → EndsInFate decrees final
ends_in_fate id [] final permitted is = absurd permitted
ends_in_fate id (newest ∷ older) final permitted is = ends_by id newest older final permitted newest.kind refl is
