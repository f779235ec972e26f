-- How the texts of rows are told apart quickly: two that differ in their digests differ (own).
use Rattle.std.specs.Prelude.{Bool, true, ◌&&◌, ◌*◌, ◌+◌, ◌%◌, ◌==◌, not, ℕ, List, [], ◌∷◌, Option, Some, None, IsSomeAnd, IsTrue, codes}
use Rattle.std.specs.List.{list_any}
use Rattle.toml.specs.Data.{Data}
use Rattle.config.specs.Faults.{is_named}
use Rattle.config.specs.Rows.{text_in}

-- the octets as the digits of a number to the base 257, by the remainder that the number leaves
abbrev pub digest_from : ℕ → List ℕ → ℕ
digest_from digest [] = digest
digest_from digest (octet ∷ octets) = digest_from ((digest * 257 + octet) % 36028797018963913) octets

abbrev pub digest_of : Option (List ℕ) → ℕ
digest_of None = 0
digest_of (Some text) = digest_from 0 text

-- of what a row has under a name; 0 if that is no text
abbrev pub digest_in : List ℕ → Data → ℕ
digest_in name row = digest_of (text_in name row)

-- no two numbers are the same
abbrev pub are_apart : List ℕ → Bool
are_apart [] = true
are_apart (first ∷ others) = not (list_any (λ other. other == first) others) && are_apart others

-- a route leads to one of some accounts
abbrev pub LeadsTo : List Data → Data → Type 0
LeadsTo accounts route = IsSomeAnd (text_in (codes "account") route) (λ name. IsTrue (list_any (is_named name) accounts))
