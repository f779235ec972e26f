-- The names in a table that mean nothing there (own).
use Rattle.std.specs.Prelude.{ℕ, List, [], ◌∷◌, Option, Some, None, filter, not}
use Rattle.toml.specs.Data.{Data, Members, no_members, member, as_table}
use Rattle.config_warnings.specs.declared.section.Section.{Section}
use Rattle.config_warnings.specs.Sections.{is_known}

abbrev pub names_of : Members → List (List ℕ)
names_of no_members = []
names_of (member name value others) = name ∷ names_of others

-- those of what is no table are none
abbrev pub names_under : Option Members → List (List ℕ)
names_under None = []
names_under (Some members) = names_of members

abbrev pub unknown_among : Section → List (List ℕ) → List (List ℕ)
unknown_among section names = filter (λ name. not (is_known section name)) names

abbrev pub unknown_in : Section → Data → List (List ℕ)
unknown_in section row = unknown_among section (names_under (as_table row))
