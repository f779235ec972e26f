-- What the statements mean where `whose` and `known` stand behind the two tables.
use Rattle.std.proofs.Common.{◌≡◌, ℕ, List, [], ◌∷◌, codes, false, refl}
use Rattle.sqlite.specs.declared.types.Value.TheVariants.{Null}
use Rattle.sqlite.specs.Command.{Command}
use Rattle.sqlite.specs.Command.TheVariants.{InsertOr, Select}
use Rattle.sqlite.specs.Source.TheVariants.{Values}
use Rattle.sqlite.specs.Term.{Term, lit, col}
use Rattle.sqlite.specs.Listing.{understood, reads_listing}
use Rattle.sqlite.specs.Schema.{Schema}
use Rattle.sqlite.specs.Table.{Table}
use Rattle.sqlite_schema.specs.declared.command.Conflict.TheVariants.{Replace}
use Rattle.sqlite.proofs.Callers.{IsPlain, command_of}
use Rattle.sqlite_tied.specs.Compute.{everything}
use Rattle.sqlite.specs.Collation.TheVariants.{Binary}
use Rattle.sqlite_value.specs.Keys.{ascending}
use Rattle.sqlite_value.specs.declared.keys.Key.{Key}
use Rattle.record_rows.specs.Beside.{known, table_of, whose}
use Rattle.record_rows.specs.Tables.{Layout, life_first, schema_of, slots_first}
use Rattle.record_rows.proofs.QueryLemmas.{on_table}

abbrev pub with_known : Layout → List Table → Schema
with_known layout rest = schema_of layout (table_of whose 3 ∷ table_of known 4 ∷ rest)

-- ---- writing

abbrev pub put_text : List ℕ
put_text = codes "INSERT OR REPLACE INTO known (id, place, voted, voters, chain) VALUES (?1, ?2, ?3, ?4, ?5)"

abbrev pub put_terms : List Term
put_terms = col 0 0 ∷ lit Null ∷ col 0 1 ∷ col 0 2 ∷ col 0 3 ∷ col 0 4 ∷ []

abbrev pub put_command : Command
put_command = InsertOr 3 Replace (Values put_terms 6) []

pub put_is : (layout : Layout) (rest : List Table) → command_of (understood (with_known layout rest) put_text) ≡ put_command
unfolding understood everything
put_is life_first rest = refl
put_is slots_first rest = refl

pub put_plain : (layout : Layout) (rest : List Table) → IsPlain (understood (with_known layout rest) put_text)
unfolding understood everything
put_plain life_first rest = (refl, refl)
put_plain slots_first rest = (refl, refl)

-- ---- reading

abbrev pub read_text : List ℕ
read_text = codes "SELECT id, place, voted, voters, chain FROM known ORDER BY id"

abbrev pub shown_terms : List Term
shown_terms = col 1 0 ∷ col 1 2 ∷ col 1 3 ∷ col 1 4 ∷ col 1 5 ∷ []

abbrev pub by_id : List (Term × Key)
by_id = (col 1 0, ascending Binary) ∷ []

abbrev pub read_command : Command
read_command =
    Select (record { lets = []; body = on_table 4 [] shown_terms by_id })
    (codes "id" ∷ codes "place" ∷ codes "voted" ∷ codes "voters" ∷ codes "chain" ∷ [])

pub read_is : (layout : Layout) (rest : List Table) → (command_of (understood (with_known layout rest) read_text) ≡ read_command)
    × (reads_listing (with_known layout rest) read_text ≡ false)
unfolding understood everything
read_is life_first rest = (refl, refl)
read_is slots_first rest = (refl, refl)

pub read_plain : (layout : Layout) (rest : List Table) → IsPlain (understood (with_known layout rest) read_text)
unfolding understood everything
read_plain life_first rest = (refl, refl)
read_plain slots_first rest = (refl, refl)
