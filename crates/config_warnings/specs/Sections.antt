-- The tables of a configuration, and the names that mean something in each (own).
use Rattle.std.specs.Prelude.{Bool, ℕ, List, [], ◌∷◌, codes, option_to_list}
use Rattle.std.specs.List.{list_any}
use Rattle.std.specs.Str.{bytes_eq}
use Rattle.toml.specs.Data.{Data, get}
use Rattle.config.specs.Rows.{rows_of}
use Rattle.config.specs.declared.key.Part.{Part}
use Rattle.config.specs.declared.key.Part.TheVariants as parts
use Rattle.config_warnings.specs.declared.section.Section.{Section}
use Rattle.config_warnings.specs.declared.section.Section.TheVariants.{Whole, Nodes, Accounts, Routes, Own}

abbrev pub names_in : Section → List (List ℕ)
names_in Whole =
    codes "system_id" ∷ codes "default_validity" ∷ codes "first_serial" ∷ codes "stop_after" ∷ codes "node" ∷ codes "account" ∷ codes "route"
    ∷ codes "own" ∷ []
names_in Nodes = codes "number" ∷ codes "listen" ∷ codes "store" ∷ []
names_in Accounts = codes "system_id" ∷ codes "password" ∷ codes "transmit" ∷ codes "receive" ∷ []
names_in Routes = codes "prefix" ∷ codes "account" ∷ []
names_in Own =
    codes "idle_seconds" ∷ codes "bind_seconds" ∷ codes "write_seconds" ∷ codes "linger_seconds" ∷ codes "sessions" ∷ codes "part_entries"
    ∷ codes "full" ∷ codes "status" ∷ []

abbrev pub is_known : Section → List ℕ → Bool
is_known section name = list_any (bytes_eq name) (names_in section)

-- the section in whose tables the keys of a part stand
abbrev pub section_of : Part → Section
section_of parts.Whole = Whole
section_of parts.Nodes = Nodes
section_of parts.Accounts = Accounts
section_of parts.Routes = Routes

-- the tables of a section in a document: itself, what is in an array of it, or what stands under `own`
abbrev pub tables_of : Section → Data → List Data
tables_of Whole document = rows_of document parts.Whole
tables_of Nodes document = rows_of document parts.Nodes
tables_of Accounts document = rows_of document parts.Accounts
tables_of Routes document = rows_of document parts.Routes
tables_of Own document = option_to_list (get (codes "own") document)
