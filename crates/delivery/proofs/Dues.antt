-- Of a chain at a moment one decree is due at most.
use Rattle.std.proofs.Common.{◌≡◌, refl, sym, ap, subst, ◌∙◌, ℕ, ◌+◌, Bool, true, List, [], ◌∷◌, slice_get, Option, Some, None, arith}
use Rattle.mc_model.specs.message.Submission.{Submission}
use Rattle.mc_model.specs.message.Decree.{Attempt, Author, Decree, Failed, Fate, Kind, Taken, Told}
use Rattle.mc_model.specs.message.Neighbours.{MayFollow}
use Rattle.mc_model.specs.message.Chain.{MayExtend, attempts_in, home_in, taken_in}
use Rattle.fate_chain.specs.Kinds.{kind_of}
use Rattle.fate_chain.specs.declared.decree.Kind.{Kind as Decided}
use Rattle.fate_chain.specs.declared.decree.Kind.TheVariants as decided
use Rattle.delivery.specs.Due.{Fits, IsDue, IsFirstDue, IsIdleKind, MayBeDue}
use Rattle.delivery.specs.declared.due_decree.DueDecree.{DueDecree}
use Rattle.delivery.specs.declared.due_decree.DueDecree.TheVariants as dues

-- the number of the next attempt, by the newest decree
abbrev pub next_number : ℕ → Kind → ℕ
next_number attempts (Taken message) = 1
next_number attempts (Attempt number) = attempts + 1
next_number attempts (Failed error) = attempts + 1
next_number attempts (Fate final error) = attempts + 1
next_number attempts Told = attempts + 1

number_follows : (message : Submission) (home attempts : ℕ) (old : Author) (before : ℕ) (kind : Kind) (author : Author) (now number : ℕ) →
    IsIdleKind kind → MayFollow message home attempts old before kind author now (Attempt number) →
    number ≡ next_number attempts kind
number_follows message home attempts old before (Taken taken) author now number idle may = may.first
number_follows message home attempts old before (Attempt tried) author now number idle may = absurd idle
number_follows message home attempts old before (Failed error) author now number idle may = may.next
number_follows message home attempts old before (Fate final error) author now number idle may = absurd idle
number_follows message home attempts old before Told author now number idle may = absurd idle

number_extends : (message : Option Submission) (newest : Decree) (older : List Decree) (author : Author) (now number : ℕ) →
    IsIdleKind newest.kind → MayExtend message (newest ∷ older) (record { author = author; moment = now; kind = Attempt number }) →
    number ≡ next_number (attempts_in (newest ∷ older)) newest.kind
number_extends None newest older author now number idle may = absurd may
number_extends (Some message) newest older author now number idle may =
    number_follows message (home_in (newest ∷ older)) (attempts_in (newest ∷ older)) newest.author newest.moment newest.kind author now number idle may.1

pub number_of_due : (decrees : List Decree) (newest : Decree) (now number : ℕ) → slice_get decrees 0 ≡ Some newest →
    MayBeDue decrees now (dues.Attempt number) →
    number ≡ next_number (attempts_in decrees) newest.kind
number_of_due [] newest now number is due = cc
number_of_due (first ∷ rest) newest now number is due =
    let same : first ≡ newest = cc in
    let heads : due.newest ≡ first = let both : first ∷ rest ≡ due.newest ∷ due.older = due.decrees_are in cc in
    let idle : IsIdleKind first.kind = subst (λ (d : Decree). IsIdleKind d.kind) heads due.idle in
    number_extends (taken_in (first ∷ rest)) first rest newest.author now number idle (due.may newest.author)
    ∙ ap (λ (d : Decree). next_number (attempts_in (first ∷ rest)) d.kind) same

-- unless the message was just taken, it is one more than the attempts so far
pub number_after : (attempts : ℕ) (kind : Decided) → ((message : Submission) → kind ≡ decided.Taken message → ⊥) →
    next_number attempts (kind_of kind) ≡ attempts + 1
number_after attempts (decided.Taken message) other = absurd (other message refl)
number_after attempts (decided.Attempt number) other = refl
number_after attempts (decided.Failed error) other = refl
number_after attempts (decided.Fate final error) other = refl
number_after attempts decided.Told other = refl

-- nothing is due if neither an end of the message nor its next attempt is
pub none_due : (decrees : List Decree) (now : ℕ) (up : Bool) (next : ℕ) →
    (MayBeDue decrees now dues.Expired → ⊥) → (MayBeDue decrees now dues.Undeliverable → ⊥) →
    (up ≡ true → MayBeDue decrees now (dues.Attempt next) → ⊥) →
    ((moment number : ℕ) → MayBeDue decrees moment (dues.Attempt number) → number ≡ next) →
    (due : DueDecree) → Fits decrees now up due → ⊥
none_due decrees now up next expired undeliverable attempt only dues.Expired fits = expired fits.0
none_due decrees now up next expired undeliverable attempt only dues.Undeliverable fits = undeliverable fits.0
none_due decrees now up next expired undeliverable attempt only (dues.Attempt number) fits =
    attempt fits.1 (subst (λ (n : ℕ). MayBeDue decrees now (dues.Attempt n)) (only now number fits.0) fits.0)

-- ---- two that are due are one

same_number : (decrees : List Decree) (now one other : ℕ) → MayBeDue decrees now (dues.Attempt one) → MayBeDue decrees now (dues.Attempt other) → one ≡ other
same_number [] now one other first second = let none : [] ≡ first.newest ∷ first.older = first.decrees_are in cc
same_number (newest ∷ older) now one other first second =
    number_of_due (newest ∷ older) newest now one refl first ∙ sym (number_of_due (newest ∷ older) newest now other refl second)

first_is_one : (decrees : List Decree) (now : ℕ) (up : Bool) (one other : DueDecree) → IsFirstDue decrees now up one →
    IsFirstDue decrees now up other →
    one ≡ other
first_is_one decrees now up dues.Expired dues.Expired a b = refl
first_is_one decrees now up dues.Expired dues.Undeliverable a b = absurd (b.first dues.Expired (omega arith) a.fits)
first_is_one decrees now up dues.Expired (dues.Attempt m) a b = absurd (b.first dues.Expired (omega arith) a.fits)
first_is_one decrees now up dues.Undeliverable dues.Expired a b = absurd (a.first dues.Expired (omega arith) b.fits)
first_is_one decrees now up dues.Undeliverable dues.Undeliverable a b = refl
first_is_one decrees now up dues.Undeliverable (dues.Attempt m) a b = absurd (b.first dues.Undeliverable (omega arith) a.fits)
first_is_one decrees now up (dues.Attempt n) dues.Expired a b = absurd (a.first dues.Expired (omega arith) b.fits)
first_is_one decrees now up (dues.Attempt n) dues.Undeliverable a b = absurd (a.first dues.Undeliverable (omega arith) b.fits)
first_is_one decrees now up (dues.Attempt n) (dues.Attempt m) a b = ap (λ (k : ℕ). dues.Attempt k) (same_number decrees now n m a.fits.0 b.fits.0)

pub due_is_one : (decrees : List Decree) (now : ℕ) (up : Bool) (one other : Option DueDecree) → IsDue decrees now up one →
    IsDue decrees now up other →
    one ≡ other
due_is_one decrees now up None None a b = refl
due_is_one decrees now up None (Some other) a b = absurd (a other b.fits)
due_is_one decrees now up (Some one) None a b = absurd (b one a.fits)
due_is_one decrees now up (Some one) (Some other) a b = ap (λ (d : DueDecree). Some d) (first_is_one decrees now up one other a b)
