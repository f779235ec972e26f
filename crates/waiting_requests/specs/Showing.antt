-- Of which message an answer shows a chain (own).
use Rattle.std.specs.Prelude.{◌≡◌, ℕ}
use Rattle.waiting_requests.specs.declared.answer.Answer.{Answer}
use Rattle.waiting_requests.specs.declared.answer.Answer.TheVariants.{Accepted, Kept, NotMatched, NotOwner, Removed, Shown, TooLate, Unknown}

-- the message whose chain an answer shows, or this one, if it shows none
abbrev pub shown_id : ℕ → Answer → ℕ
shown_id id Accepted = id
shown_id id (Shown chain) = chain.id
shown_id id (Removed chain) = chain.id
shown_id id (Kept chain) = chain.id
shown_id id NotOwner = id
shown_id id (NotMatched chain) = chain.id
shown_id id Unknown = id
shown_id id TooLate = id

-- it shows no chain of another message
abbrev pub IsAbout : ℕ → Answer → Type 0
IsAbout id answer = shown_id id answer ≡ id
