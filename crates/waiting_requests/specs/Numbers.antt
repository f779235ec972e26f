-- The ids of the messages that the requests are about, in their order (own).
use Rattle.std.specs.Prelude.{ℕ, ◌≤◌, ◌<◌, nat_le, nat_lt, List, [], ◌∷◌, map, Option, Some, None, if◌then◌else◌}
use Rattle.node_model.specs.Kept.{Held}
use Rattle.node_model.specs.Requests.{id_of}

abbrev pub ids_in : List Held → List ℕ
ids_in held = map id_of held

-- of some numbers this is the least from a number on; none if there is none
abbrev pub IsLeastFrom : ℕ → (ℕ → Type 0) → Option ℕ → Type 0
IsLeastFrom from IsOne None = (id : ℕ) → IsOne id → id < from
IsLeastFrom from IsOne (Some least) = IsOne least × ((from ≤ least) × ((id : ℕ) → IsOne id → from ≤ id → least ≤ id))

-- ---- one after another

abbrev pub lesser_from : ℕ → ℕ → Option ℕ → Option ℕ
lesser_from from id None = if nat_lt id from then None else Some id
lesser_from from id (Some least) = if nat_lt id from then Some least else (if nat_le least id then Some least else Some id)

abbrev pub least_of : ℕ → List Held → Option ℕ → Option ℕ
least_of from [] least = least
least_of from (h ∷ others) least = least_of from others (lesser_from from (id_of h) least)
