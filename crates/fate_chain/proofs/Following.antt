-- A mark says enough of a decree, and a standing of a chain, to tell which decree may follow.
use Rattle.std.proofs.Common.{◌≡◌, ◌≤◌, ◌↔◌, ℕ, List, [], ◌∷◌, Some, slice_get, sym, subst}
use Rattle.mc_model.specs.message.Submission.{Submission}
use Rattle.mc_model.specs.message.Decree.{Kind, Taken, Attempt, Failed, Fate, Told, Final, Delivered, Expired, Deleted, Undeliverable, Rejected, Author, Decree}
use Rattle.mc_model.specs.message.Neighbours.{IsFirstAttempt, IsNextAttempt, IsTelling, MayFollow}
use Rattle.mc_model.specs.message.Chain.{MayExtend, taken_in, home_in, attempts_in}
use Rattle.fate_chain.specs.Kinds.{author_of}
use Rattle.fate_chain.specs.Marks.{bare_message, bare, bare_kind, terms_of, IsMarkOf, IsStandingOf}
use Rattle.fate_chain.specs.declared.marks.Mark.{Mark}
use Rattle.fate_chain.specs.declared.marks.Standing.{Standing}

first-bare : (m : Submission) (moment number : ℕ) → IsFirstAttempt (bare_message (terms_of m)) moment number ↔ IsFirstAttempt m moment number
first-bare m moment number = (
  λ is. record { first = is.first; scheduled = is.scheduled; valid = is.valid },
  λ is. record
      { first = is.first; scheduled = is.scheduled; valid = is.valid },
)

next-bare : (m : Submission) (attempt failed moment number : ℕ) →
    IsNextAttempt (bare_message (terms_of m)) attempt failed moment number ↔ IsNextAttempt m attempt failed moment number
next-bare m attempt failed moment number = (
  λ is. record { next = is.next; most = is.most; valid = is.valid; delayed = is.delayed },
  λ is. record
      { next = is.next; most = is.most; valid = is.valid; delayed = is.delayed },
)

tell-bare : (m : Submission) (home : ℕ) (final : Final) (author : Author) → IsTelling (bare_message (terms_of m)) home final author ↔ IsTelling m home final author
tell-bare m home final author = (λ is. record { node = is.node; asked = is.asked }, λ is. record { node = is.node; asked = is.asked })

follow-bare : (m : Submission) (home attempts : ℕ) (old : Author) (before : ℕ) (kind : Kind) (author : Author) (moment : ℕ) (next : Kind) →
    MayFollow (bare_message (terms_of m)) home attempts old before (bare kind) author moment
    (bare next) ↔ MayFollow m home attempts old before kind author moment next
follow-bare m home attempts old before (Taken message) author moment (Taken again) = (λ x. x, λ x. x)
follow-bare m home attempts old before (Taken message) author moment (Attempt number) = first-bare m moment number
follow-bare m home attempts old before (Taken message) author moment (Failed error) = (λ x. x, λ x. x)
follow-bare m home attempts old before (Taken message) author moment (Fate Delivered error) = (λ x. x, λ x. x)
follow-bare m home attempts old before (Taken message) author moment (Fate Expired error) = (λ x. x, λ x. x)
follow-bare m home attempts old before (Taken message) author moment (Fate Deleted error) = (λ x. x, λ x. x)
follow-bare m home attempts old before (Taken message) author moment (Fate Undeliverable error) = (λ x. x, λ x. x)
follow-bare m home attempts old before (Taken message) author moment (Fate Rejected error) = (λ x. x, λ x. x)
follow-bare m home attempts old before (Taken message) author moment Told = (λ x. x, λ x. x)
follow-bare m home attempts old before (Attempt tried) author moment (Taken again) = (λ x. x, λ x. x)
follow-bare m home attempts old before (Attempt tried) author moment (Attempt number) = (λ x. x, λ x. x)
follow-bare m home attempts old before (Attempt tried) author moment (Failed error) = (λ x. x, λ x. x)
follow-bare m home attempts old before (Attempt tried) author moment (Fate Delivered error) = (λ x. x, λ x. x)
follow-bare m home attempts old before (Attempt tried) author moment (Fate Expired error) = (λ x. x, λ x. x)
follow-bare m home attempts old before (Attempt tried) author moment (Fate Deleted error) = (λ x. x, λ x. x)
follow-bare m home attempts old before (Attempt tried) author moment (Fate Undeliverable error) = (λ x. x, λ x. x)
follow-bare m home attempts old before (Attempt tried) author moment (Fate Rejected error) = (λ x. x, λ x. x)
follow-bare m home attempts old before (Attempt tried) author moment Told = (λ x. x, λ x. x)
follow-bare m home attempts old before (Failed cause) author moment (Taken again) = (λ x. x, λ x. x)
follow-bare m home attempts old before (Failed cause) author moment (Attempt number) = next-bare m attempts before moment number
follow-bare m home attempts old before (Failed cause) author moment (Failed error) = (λ x. x, λ x. x)
follow-bare m home attempts old before (Failed cause) author moment (Fate Delivered error) = (λ x. x, λ x. x)
follow-bare m home attempts old before (Failed cause) author moment (Fate Expired error) = (λ x. x, λ x. x)
follow-bare m home attempts old before (Failed cause) author moment (Fate Deleted error) = (λ x. x, λ x. x)
follow-bare m home attempts old before (Failed cause) author moment (Fate Undeliverable error) = (λ x. x, λ x. x)
follow-bare m home attempts old before (Failed cause) author moment (Fate Rejected error) = (λ x. x, λ x. x)
follow-bare m home attempts old before (Failed cause) author moment Told = (λ x. x, λ x. x)
follow-bare m home attempts old before (Fate last why) author moment (Taken again) = (λ x. x, λ x. x)
follow-bare m home attempts old before (Fate last why) author moment (Attempt number) = (λ x. x, λ x. x)
follow-bare m home attempts old before (Fate last why) author moment (Failed error) = (λ x. x, λ x. x)
follow-bare m home attempts old before (Fate last why) author moment (Fate Delivered error) = (λ x. x, λ x. x)
follow-bare m home attempts old before (Fate last why) author moment (Fate Expired error) = (λ x. x, λ x. x)
follow-bare m home attempts old before (Fate last why) author moment (Fate Deleted error) = (λ x. x, λ x. x)
follow-bare m home attempts old before (Fate last why) author moment (Fate Undeliverable error) = (λ x. x, λ x. x)
follow-bare m home attempts old before (Fate last why) author moment (Fate Rejected error) = (λ x. x, λ x. x)
follow-bare m home attempts old before (Fate last why) author moment Told = tell-bare m home last author
follow-bare m home attempts old before Told author moment next = (λ x. x, λ x. x)

extend-bare : (m : Submission) (decrees : List Decree) (newest next : Decree) → slice_get decrees 0 ≡ Some newest →
    ((newest.moment ≤ next.moment) × MayFollow (bare_message (terms_of m)) (home_in decrees) (attempts_in decrees) newest.author newest.moment
    (bare newest.kind) next.author next.moment (bare next.kind)) ↔ MayExtend (Some m) decrees next
extend-bare m [] newest next first = absurd cc
extend-bare m (top ∷ older) newest next first =
    let same : newest ≡ top = cc in
    let follows = follow-bare m (home_in (top ∷ older)) (attempts_in (top ∷ older)) top.author top.moment top.kind next.author next.moment next.kind in
    subst (λ (d : Decree). ((d.moment ≤ next.moment) × MayFollow (bare_message (terms_of m))
    (home_in (top ∷ older)) (attempts_in (top ∷ older)) d.author d.moment (bare d.kind) next.author next.moment (bare next.kind)) ↔ MayExtend (Some m)
    (top ∷ older) next) (sym same) (λ x. (x.0, follows.0 x.1), λ x. (x.0, follows.1 x.1))

-- a standing tells which decree may follow, by its mark
pub extend-standing : (standing : Standing) (mark : Mark) (decrees : List Decree) (next : Decree) → IsStandingOf decrees standing →
    IsMarkOf next mark →
    ((standing.newest.moment ≤ mark.moment) × MayFollow (bare_message standing.terms) standing.home standing.attempts
    (author_of standing.newest.author) standing.newest.moment (bare_kind standing.newest.act) (author_of mark.author) mark.moment
    (bare_kind mark.act)) ↔ MayExtend (taken_in decrees) decrees next
extend-standing standing mark decrees next stands marked =
    rw (
      stands.taken,
      stands.terms,
      stands.home,
      stands.attempts,
      stands.mark.author,
      stands.mark.moment,
      stands.mark.kind,
      marked.author,
      marked.moment,
      marked.kind,
    ) (extend-bare stands.message decrees stands.newest next stands.first)
