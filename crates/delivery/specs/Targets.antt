-- Which targets are up (own).
use Rattle.std.specs.Prelude.{ℕ, Bool, List}
use Rattle.std.specs.List.{list_any}
use Rattle.std.specs.Str.{bytes_eq}

-- whether an account is one of these, of which a session may receive
abbrev pub is_up : List (List ℕ) → List ℕ → Bool
is_up accounts target = list_any (λ account. bytes_eq account target) accounts
