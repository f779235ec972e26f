-- An account among others, each seen as the octets of its system_id (own).
use Rattle.std.specs.Prelude.{ℕ, Bool, List}
use Rattle.std.specs.List.{list_any}
use Rattle.std.specs.Str.{bytes_eq}

abbrev pub is_among : List ℕ → List (List ℕ) → Bool
is_among account accounts = list_any (λ other. bytes_eq other account) accounts
