-- What is read of whose a store is.
use Rattle.std.proofs.Common.{◌≡◌, inl, inr, IfOk, Result, Ok, Err, true, false, List, [], ◌∷◌, map, length, codes, Option, None, Some, refl, sym, ap, subst, ◌∙◌, arith}
use Rattle.std.specs.List.Sorted.{IsPermutation}
use Rattle.std.proofs.lemmas.List.Sorted.{IsPermutation-map, length_permutation}
use Rattle.sqlite_trees.proofs.ListLemmas.{map-map}
use Rattle.sqlite.specs.Order.{Row}
use Rattle.sqlite.specs.Schema.{Schema}
use Rattle.sqlite.specs.Table.{Table}
use Rattle.sqlite.specs.Term.{Term, col}
use Rattle.sqlite.specs.Query.{Output, output}
use Rattle.sqlite.specs.Command.{Command}
use Rattle.sqlite.specs.Command.TheVariants.{Select}
use Rattle.sqlite.specs.Listing.{understood, reads_listing}
use Rattle.sqlite.specs.State.{State, Shown}
use Rattle.sqlite.proofs.Callers.{IsPlain, command_of, one_permutation, reads_as}
use Rattle.sqlite_tied.specs.Compute.{everything}
use Rattle.record_rows.specs.declared.whose.WhoseRow.{WhoseRow}
use Rattle.record_rows.specs.Tables.{Layout, life_first, slots_first}
use Rattle.record_rows.specs.Whose.{AreFoundWhose, AreShownWhose, HasFoundWhose, HasReadWhose, HasWhose, IsShownWhose, is_named, read_whose_text, shown_of}
use Rattle.record_rows.proofs.QueryLemmas.{IsShown, on_table, shows}
use Rattle.record_rows.proofs.ReadLemmas.{every}
use Rattle.record_rows.proofs.WhoseStates.{with_whose}

abbrev whose_shown : List Term
whose_shown = col 1 2 ∷ col 1 3 ∷ col 1 4 ∷ col 1 5 ∷ []

abbrev read_command : Command
read_command = Select (record { lets = []; body = on_table 3 [] whose_shown [] }) (codes "cluster" ∷ codes "node" ∷ codes "nodes" ∷ codes "at" ∷ [])

read_is : (layout : Layout) (rest : List Table) → (command_of (understood (with_whose layout rest) read_whose_text) ≡ read_command)
    × (reads_listing (with_whose layout rest) read_whose_text ≡ false)
unfolding understood everything
read_is life_first rest = (refl, refl)
read_is slots_first rest = (refl, refl)

pub read_plain : (layout : Layout) (rest : List Table) → IsPlain (understood (with_whose layout rest) read_whose_text)
unfolding understood everything
read_plain life_first rest = (refl, refl)
read_plain slots_first rest = (refl, refl)

shown_ofs : (found rows : List Row) → IsShown (on_table 3 [] whose_shown []) [] found rows → IsPermutation (map shown_of found) rows
shown_ofs found rows it = subst (IsPermutation (map shown_of found)) (sym it.are) (subst (λ xs. IsPermutation xs (map (λ
    (o : Output). o.1) it.ordered)) (map-map (λ (o : Output). o.1) (λ r. output (on_table 3 [] whose_shown []) ([] ∷ r ∷ [])) found)
    (IsPermutation-map (λ (o : Output). o.1) (map (λ r. output (on_table 3 [] whose_shown []) ([] ∷ r ∷ [])) found) it.ordered it.same))

whose_from : (found rows : List Row) (row : Option WhoseRow) → IsPermutation (map shown_of found) rows → AreShownWhose rows row → AreFoundWhose found row
whose_from [] rows None same is = refl
whose_from (r ∷ found) rows None same is = absurd (omega (arith, length_permutation (map shown_of (r ∷ found)) rows same, ap length is))
whose_from [] rows (Some row) same is = absurd (omega (arith, length_permutation [] rows same, ap length is.1))
whose_from (r ∷ []) rows (Some row) same is =
    let one : is.0 ∷ [] ≡ shown_of r ∷ [] = sym is.1 ∙ one_permutation (shown_of r) rows same in
    let it : is.0 ≡ shown_of r = cc in
    (r, refl, subst (λ x. IsShownWhose x row) it is.2)
whose_from (r ∷ s ∷ found) rows (Some row) same is = absurd (omega (arith, length_permutation (map shown_of (r ∷ s ∷ found)) rows same, ap length is.1))

has_read_whose : (layout : Layout) (old new : State) (rows : List Row) (row : Option WhoseRow) → HasWhose layout old
    → Shown read_whose_text [] old new rows → AreShownWhose rows row → AreFoundWhose (old.now.trees 3) row
has_read_whose layout old new rows row has h is =
    let read = reads_as read_whose_text [] old new (with_whose layout has.0) has.1 read_command (read_is layout has.0).0
    (read_plain layout has.0) (read_is layout has.0).1 rows h in
    let it = shows 3 [] whose_shown [] old.now.trees [] rows (λ _. true) (λ r. refl) read.answer in
    let same = subst (λ xs. IsPermutation (map shown_of xs) rows) (every (old.now.trees 3)) (shown_ofs _ rows it) in
    whose_from (old.now.trees 3) rows row same is

named_there : (layout : Layout) (rest : List Table) → is_named (codes "whose") (with_whose layout rest).tables ≡ true
named_there life_first rest = refl
named_there slots_first rest = refl

-- what was read is what is stored
found_whose : (old new : State) (row : Option WhoseRow) → HasReadWhose old new row → HasFoundWhose old row
found_whose old new row (inl none) layout has =
    let there : is_named (codes "whose") old.now.schema.tables ≡ true = ap (λ (s : Schema). is_named (codes "whose") s.tables) has.1
    ∙ named_there layout has.0 in
    absurd (let e : true ≡ false = sym there ∙ none.0 in cc)
found_whose old new row (inr read) layout has = has_read_whose layout old new read.0 row has read.1 read.2

pub if_found : {E : Type 0} (old new : State) (r : Result (Option WhoseRow) E) → IfOk r (HasReadWhose old new) → IfOk r (HasFoundWhose old)
if_found old new (Ok row) read = found_whose old new row read
if_found old new (Err e) read = tt
