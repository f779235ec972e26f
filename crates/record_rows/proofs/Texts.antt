-- What the statements mean under the schemas of the two tables, whatever stands behind them.
use Rattle.std.proofs.Common.{◌≡◌, ◌≤◌, ℕ, pos, List, [], ◌∷◌, ◌++◌, codes, length, Some, false, refl}
use Rattle.sqlite.specs.declared.types.Value.TheVariants.{Null, Int}
use Rattle.sqlite.specs.Command.{Command}
use Rattle.sqlite.specs.Command.TheVariants.{Insert, InsertOr, Select, Update}
use Rattle.sqlite.specs.Source.TheVariants.{Values}
use Rattle.sqlite.specs.Term.{Term, lit, col, op2}
use Rattle.sqlite.specs.Query.{Query}
use Rattle.sqlite.specs.Listing.{understood, reads_listing}
use Rattle.sqlite.specs.Table.{Table}
use Rattle.sqlite.specs.Collation.TheVariants.{Binary}
use Rattle.sqlite_sql.specs.declared.ops.BinaryOp.TheVariants.{Compare}
use Rattle.sqlite_sql.specs.declared.ops.CompareOp.TheVariants.{Eq}
use Rattle.sqlite_schema.specs.declared.command.Conflict.TheVariants.{Abort}
use Rattle.sqlite_schema.specs.declared.command.Upsert.{Upsert}
use Rattle.sqlite_value.specs.Keys.{ascending}
use Rattle.sqlite_value.specs.declared.keys.Key.{Key}
use Rattle.sqlite.proofs.Callers.{IsPlain, command_of}
use Rattle.sqlite_tied.specs.Compute.{everything}
use Rattle.record_rows.proofs.QueryLemmas.{on_table}
use Rattle.record_rows.proofs.Few.{of_few}
use Rattle.record_rows.specs.Beside.{most_beside}
use Rattle.record_rows.specs.Tables.{Layout, life_first, slots_first, life_tree, slots_tree, schema_of}

abbrev pub put_text : List ℕ
put_text =
    codes "INSERT INTO slots (id, place, promised, voted, chain) VALUES (?1, ?2, ?3, ?4, ?5) ON CONFLICT (id, place) "
    ++ codes "DO UPDATE SET promised = excluded.promised, voted = excluded.voted, chain = excluded.chain"

-- the places of the tables in the schema
abbrev pub life_at : Layout → ℕ
life_at life_first = 0
life_at slots_first = 1

abbrev pub slots_at : Layout → ℕ
slots_at life_first = 1
slots_at slots_first = 0

abbrev pub put_terms : List Term
put_terms = lit Null ∷ col 0 0 ∷ col 0 1 ∷ col 0 2 ∷ col 0 3 ∷ col 0 4 ∷ []

-- the row with the rowid that is given, with the promise, the vote and the chain of the one that is not inserted
abbrev pub change_test : List Term
change_test = op2 (Compare Eq Binary) (col 1 0) (col 0 5) ∷ []

abbrev pub change_shown : List Term
change_shown = col 1 0 ∷ col 1 0 ∷ col 1 1 ∷ col 1 2 ∷ col 0 9 ∷ col 0 10 ∷ col 0 11 ∷ []

abbrev pub change : ℕ → Query
change tree = on_table tree change_test change_shown []

abbrev pub clause : ℕ → Upsert
clause tree = record { target = Some (1 ∷ 2 ∷ []); update = Some (record { lets = []; body = change tree }) }

abbrev pub put_command : Layout → Command
put_command layout = InsertOr (slots_at layout) Abort (Values put_terms 6) (clause (slots_tree layout) ∷ [])

-- the row that is not inserted is read as a table behind all others, so their number has to be known
abbrev MeansPut : Layout → List Table → Type 0
MeansPut layout beside = command_of (understood (schema_of layout beside) put_text) ≡ put_command layout

abbrev IsPutPlain : Layout → List Table → Type 0
IsPutPlain layout beside = IsPlain (understood (schema_of layout beside) put_text)

pub put_is : (layout : Layout) (beside : List Table) → length beside ≤ most_beside → MeansPut layout beside
unfolding understood everything
put_is life_first = of_few (MeansPut life_first) refl (λ a. refl) (λ a b. refl) (λ a b c. refl) (λ a b c d. refl)
    (λ a b c d e. refl) (λ a b c d e f. refl) (λ a b c d e f g. refl) (λ a b c d e f g h. refl)
put_is slots_first = of_few (MeansPut slots_first) refl (λ a. refl) (λ a b. refl) (λ a b c. refl) (λ a b c d. refl)
    (λ a b c d e. refl) (λ a b c d e f. refl) (λ a b c d e f g. refl) (λ a b c d e f g h. refl)

pub put_plain : (layout : Layout) (beside : List Table) → length beside ≤ most_beside → IsPutPlain layout beside
unfolding understood everything
put_plain life_first = of_few (IsPutPlain life_first) (refl, refl) (λ a. (refl, refl)) (λ a b. (refl, refl)) (λ a b c. (refl, refl)) (λ a b c d. (refl, refl))
    (λ a b c d e. (refl, refl)) (λ a b c d e f. (refl, refl)) (λ a b c d e f g. (refl, refl)) (λ a b c d e f g h. (refl, refl))
put_plain slots_first = of_few (IsPutPlain slots_first) (refl, refl) (λ a. (refl, refl)) (λ a b. (refl, refl)) (λ a b c. (refl, refl)) (λ a b c d. (refl, refl))
    (λ a b c d e. (refl, refl)) (λ a b c d e f. (refl, refl)) (λ a b c d e f g. (refl, refl)) (λ a b c d e f g h. (refl, refl))

-- ---- the incarnation

abbrev pub first_text : List ℕ
first_text = codes "INSERT INTO life (one, incarnation) VALUES (1, ?1)"

abbrev pub next_text : List ℕ
next_text = codes "UPDATE life SET incarnation = ?1"

abbrev pub first_terms : List Term
first_terms = lit (Int (pos 1)) ∷ lit Null ∷ col 0 0 ∷ []

abbrev pub first_command : Layout → Command
first_command layout = Insert (life_at layout) (Values first_terms 3)

abbrev pub next_shown : List Term
next_shown = col 1 0 ∷ col 1 0 ∷ lit Null ∷ col 0 0 ∷ []

abbrev pub next_command : Layout → Command
next_command layout = Update (life_at layout) (record { lets = []; body = on_table (life_tree layout) [] next_shown [] })

pub first_is : (layout : Layout) (beside : List Table) → command_of (understood (schema_of layout beside) first_text) ≡ first_command layout
unfolding understood everything
first_is life_first beside = refl
first_is slots_first beside = refl

pub first_plain : (layout : Layout) (beside : List Table) → IsPlain (understood (schema_of layout beside) first_text)
unfolding understood everything
first_plain life_first beside = (refl, refl)
first_plain slots_first beside = (refl, refl)

pub next_is : (layout : Layout) (beside : List Table) → command_of (understood (schema_of layout beside) next_text) ≡ next_command layout
unfolding understood everything
next_is life_first beside = refl
next_is slots_first beside = refl

pub next_plain : (layout : Layout) (beside : List Table) → IsPlain (understood (schema_of layout beside) next_text)
unfolding understood everything
next_plain life_first beside = (refl, refl)
next_plain slots_first beside = (refl, refl)

-- ---- reading

abbrev pub read_life_text : List ℕ
read_life_text = codes "SELECT one, incarnation FROM life"

abbrev pub read_slots_text : List ℕ
read_slots_text = codes "SELECT rowid, id, place, promised, voted, chain FROM slots ORDER BY id, place"

abbrev pub life_shown : List Term
life_shown = col 1 0 ∷ col 1 2 ∷ []

abbrev pub slots_shown : List Term
slots_shown = col 1 0 ∷ col 1 1 ∷ col 1 2 ∷ col 1 3 ∷ col 1 4 ∷ col 1 5 ∷ []

abbrev pub by_slot : List (Term × Key)
by_slot = (col 1 1, ascending Binary) ∷ (col 1 2, ascending Binary) ∷ []

abbrev pub read_life_command : Layout → Command
read_life_command layout = Select (record { lets = []; body = on_table (life_tree layout) [] life_shown [] }) (codes "one" ∷ codes "incarnation" ∷ [])

abbrev pub read_slots_command : Layout → Command
read_slots_command layout =
    Select (record { lets = []; body = on_table (slots_tree layout) [] slots_shown by_slot })
    (codes "rowid" ∷ codes "id" ∷ codes "place" ∷ codes "promised" ∷ codes "voted" ∷ codes "chain" ∷ [])

pub read_life_is : (layout : Layout) (beside : List Table) → (command_of (understood (schema_of layout beside) read_life_text) ≡ read_life_command layout)
    × (reads_listing (schema_of layout beside) read_life_text ≡ false)
unfolding understood everything
read_life_is life_first beside = (refl, refl)
read_life_is slots_first beside = (refl, refl)

pub read_life_plain : (layout : Layout) (beside : List Table) → IsPlain (understood (schema_of layout beside) read_life_text)
unfolding understood everything
read_life_plain life_first beside = (refl, refl)
read_life_plain slots_first beside = (refl, refl)

pub read_slots_is : (layout : Layout) (beside : List Table) → (command_of (understood (schema_of layout beside) read_slots_text) ≡ read_slots_command layout)
    × (reads_listing (schema_of layout beside) read_slots_text ≡ false)
unfolding understood everything
read_slots_is life_first beside = (refl, refl)
read_slots_is slots_first beside = (refl, refl)

pub read_slots_plain : (layout : Layout) (beside : List Table) → IsPlain (understood (schema_of layout beside) read_slots_text)
unfolding understood everything
read_slots_plain life_first beside = (refl, refl)
read_slots_plain slots_first beside = (refl, refl)
