-- The accounts that could receive of late (own).
use Rattle.std.specs.Prelude.{ℕ, ◌+◌, Bool, not, nat_lt, List, [], ◌∷◌, ◌++◌, filter, fold, map, position, slice_set, Option, Some, None}
use Rattle.std.specs.Str.{bytes_eq}
use Rattle.waiting_messages.specs.Accounts.{is_among}

-- an account that is remembered, and the second at which it could receive last
pub record Seen : Type 0 where
  pub account : List ℕ
  pub second : ℕ

abbrev pub is_of : List ℕ → Seen → Bool
is_of account seen = bytes_eq seen.account account

-- it was seen less than so many seconds ago
abbrev pub lingers : ℕ → ℕ → Seen → Bool
lingers now linger seen = nat_lt now (seen.second + linger)

-- those that are not forgotten
abbrev pub kept_in : ℕ → ℕ → List Seen → List Seen
kept_in now linger presence = filter (lingers now linger) presence

abbrev pub with_at : Option ℕ → List Seen → Seen → List Seen
with_at None presence seen = presence ++ seen ∷ []
with_at (Some place) presence seen = slice_set presence place seen

-- an account is seen: it is remembered with this second, in its place, or behind the others if it was not remembered
abbrev pub seen_one : ℕ → List Seen → List ℕ → List Seen
seen_one now presence account = with_at (position (is_of account) presence) presence (record { account = account; second = now })

-- these are seen, one after another
abbrev pub seen_all : ℕ → List Seen → List (List ℕ) → List Seen
seen_all now presence accounts = fold (seen_one now) presence accounts

-- those that are remembered and are not among these, in the order of what is remembered
abbrev pub absent_in : List (List ℕ) → List Seen → List (List ℕ)
absent_in accounts presence = filter (λ account. not (is_among account accounts)) (map (λ seen. seen.account) presence)
