-- Which decree stands first in a permitted chain, and what stands below its newest one.
use Rattle.std.proofs.Common.{◌≡◌, ℕ, List, [], ◌∷◌, ◌++◌, Option, None, Some, reverse, drop, slice_get, ◌∙◌, refl, ap}
use Rattle.std.proofs.lemmas.List.{reverse-append}
use Rattle.mc_model.specs.message.Submission.{Submission}
use Rattle.mc_model.specs.message.Decree.{Decree, Author, Kind, Taken, Attempt, Failed, Fate, Told}
use Rattle.mc_model.specs.message.Neighbours.{MayBegin, MayFollow}
use Rattle.mc_model.specs.message.Chain.{MayExtend, IsPermitted, home_by, taken_by, taken_in}
use Rattle.fate_chain.specs.Kinds.{kind_of}
use Rattle.fate_chain.specs.declared.decree.Kind.{Kind as Decided}
use Rattle.fate_chain.specs.declared.decree.Kind.TheVariants as decided

-- what follows takes no message again
pub record IsLater (next : Kind) : Type 0 where
  pub taken : (taken : Option Submission) → taken_by next taken ≡ taken
  pub home : (node home : ℕ) → home_by next node home ≡ home

follows_later : (message : Submission) (home attempt : ℕ) (old : Author) (before : ℕ) (kind : Kind) (author : Author) (moment : ℕ) (next : Kind) →
    MayFollow message home attempt old before kind author moment next → IsLater next
follows_later message home attempt old before (Taken older) author moment (Taken again) may = absurd may
follows_later message home attempt old before (Attempt number) author moment (Taken again) may = absurd may
follows_later message home attempt old before (Failed error) author moment (Taken again) may = absurd may
follows_later message home attempt old before (Fate final error) author moment (Taken again) may = absurd may
follows_later message home attempt old before Told author moment (Taken again) may = absurd may
follows_later message home attempt old before kind author moment (Attempt number) may = record { taken = λ taken. refl; home = λ node other. refl }
follows_later message home attempt old before kind author moment (Failed error) may = record { taken = λ taken. refl; home = λ node other. refl }
follows_later message home attempt old before kind author moment (Fate final error) may = record { taken = λ taken. refl; home = λ node other. refl }
follows_later message home attempt old before kind author moment Told may = record { taken = λ taken. refl; home = λ node other. refl }

pub extends_later : (message : Option Submission) (decrees : List Decree) (newest : Decree) → MayExtend message decrees newest → IsLater newest.kind
extends_later None decrees newest may = absurd may
extends_later (Some message) [] newest may = absurd may
extends_later (Some message) (older ∷ oldest) newest may = follows_later message _ _ _ _ _ _ _ newest.kind may.1

-- a permitted chain begins with what was taken
begins_so : (id : ℕ) (author : Author) (moment : ℕ) (kind : Kind) → MayBegin id author moment kind →
    (message : Submission) × (taken_by kind None ≡ Some message)
begins_so id author moment (Taken message) may = (message, refl)
begins_so id author moment (Attempt number) may = absurd may
begins_so id author moment (Failed error) may = absurd may
begins_so id author moment (Fate final error) may = absurd may
begins_so id author moment Told may = absurd may

pub has_taken : (id : ℕ) (decrees : List Decree) → IsPermitted id decrees → (message : Submission) × (taken_in decrees ≡ Some message)
has_taken id [] permitted = absurd permitted
has_taken id (only ∷ []) permitted = begins_so id only.author only.moment only.kind permitted
has_taken id (newest ∷ older ∷ oldest) permitted =
    let before = has_taken id (older ∷ oldest) permitted.0 in
    (before.0, (extends_later _ (older ∷ oldest) newest permitted.1).taken _ ∙ before.1)

-- so it is the first decree that says what was taken
taken-first : (id : ℕ) (later : List Decree) (first : Decree) → IsPermitted id (later ++ first ∷ []) → taken_in (later ++ first ∷ []) ≡ taken_by first.kind None
taken-first id [] first permitted = refl
taken-first id (newest ∷ []) first permitted = (extends_later _ (first ∷ []) newest permitted.1).taken _
taken-first id (newest ∷ older ∷ later) first permitted =
    (extends_later _ (older ∷ later ++ first ∷ []) newest permitted.1).taken _ ∙ taken-first id (older ∷ later) first permitted.0

begins-first : (id : ℕ) (later : List Decree) (first : Decree) → IsPermitted id (later ++ first ∷ []) → MayBegin id first.author first.moment first.kind
begins-first id [] first permitted = permitted
begins-first id (newest ∷ []) first permitted = permitted.0
begins-first id (newest ∷ older ∷ later) first permitted = begins-first id (older ∷ later) first permitted.0

-- in a list with the oldest first
reverse-first : (decrees : List Decree) (first : Decree) → slice_get decrees 0 ≡ Some first → reverse decrees ≡ reverse (drop 1 decrees) ++ first ∷ []
reverse-first [] first is = cc
reverse-first (oldest ∷ later) first is =
    let same : oldest ≡ first = cc in reverse-append (oldest ∷ []) later ∙ ap (λ (x : Decree). reverse later ++ x ∷ []) same

pub submission_of : (id : ℕ) (decrees : List Decree) (first : Decree) (message : Submission) → IsPermitted id (reverse decrees) →
    slice_get decrees 0 ≡ Some first → first.kind ≡ Taken message →
    taken_in (reverse decrees) ≡ Some message
submission_of id decrees first message permitted is taken =
    let order = reverse-first decrees first is in
    rw order (taken-first id (reverse (drop 1 decrees)) first (rw order at permitted) ∙ ap (λ (kind : Kind). taken_by kind None) taken)

begins_taken : (id : ℕ) (author : Author) (moment : ℕ) (kind : Decided) → MayBegin id author moment (kind_of kind) →
    ((message : Submission) → kind ≡ decided.Taken message → ⊥) →
    ⊥
begins_taken id author moment (decided.Taken message) may other = other message refl
begins_taken id author moment (decided.Attempt number) may other = may
begins_taken id author moment (decided.Failed error) may other = may
begins_taken id author moment (decided.Fate final error) may other = may
begins_taken id author moment decided.Told may other = may

pub first_taken : (id : ℕ) (decrees : List Decree) (first : Decree) (kind : Decided) → IsPermitted id (reverse decrees) →
    slice_get decrees 0 ≡ Some first → kind_of kind ≡ first.kind → ((message : Submission) → kind ≡ decided.Taken message → ⊥) →
    ⊥
first_taken id decrees first kind permitted is same other =
    let order = reverse-first decrees first is in
    begins_taken id first.author first.moment kind (rw same (begins-first id (reverse (drop 1 decrees)) first (rw order at permitted))) other
