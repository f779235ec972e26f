-- What rows that are read or put say of records.
use Rattle.std.proofs.Common.{◌≡◌, List, [], ◌∷◌, map, Option, Some, None, Ok, Err, Result, IfOk, OnOk, refl, sym, ap, ◌∙◌}
use Rattle.std.specs.Prelude.{Vec}
use Rattle.std.specs.declared.alloc.Global.{Global}
use Rattle.mc_model.specs.synod.Acceptor.{Records}
use Rattle.mc_model.specs.synod.Lists.{In}
use Rattle.synod_acceptor.specs.declared.record.Change.{Change}
use Rattle.synod_acceptor.specs.Records.{entries_of, record_at}
use Rattle.synod_acceptor.specs.Votes.{Record}
use Rattle.sqlite.specs.Order.{Row}
use Rattle.sqlite.specs.Tree.{Trees}
use Rattle.sqlite.specs.State.{State}
use Rattle.record_rows.specs.declared.row.SlotRow.{SlotRow}
use Rattle.record_rows.specs.declared.fault.ReadFault.{ReadFault}
use Rattle.record_rows.specs.Content.{AreAscending, AreSlots, Body, Entry, Slot, Slots, entry_of, slots_of, values_at, with_row}
use Rattle.record_rows.specs.Ours.{HasPut, HasRead, HoldsNoSlots, IsOurs, PutsRow}
use Rattle.record_rows.specs.Group.{HasPutRows, PutsRows, with_rows}
use Rattle.record_rows.specs.Tables.{Layout}
use Rattle.stable_store.specs.Stored.{afters, changed, changed_all}
use Rattle.sql_records.specs.Calls.{HasPutAll, HasPutRecord, HoldsNone, PutsAll, PutsRecord}
use Rattle.sql_records.specs.Standing.{StandFor, StandForEach, StandsFor, StandsForNone}
use Rattle.sql_records.specs.Stores.{HasRecords}
use Rattle.sql_records.proofs.Standings.{stand_along, stand_for_none, stand_listed, stand_put}

-- ---- rows hold one thing at each key

body_by : (a b : Body) → a.promised ≡ b.promised → a.voted ≡ b.voted → a.chain ≡ b.chain → a ≡ b
body_by a b promised voted chain = λ i. record { promised = promised i; voted = voted i; chain = chain i }

values_of_one : (slot : Slot) (a b : Option Body) → values_at slot a ≡ values_at slot b → a ≡ b
values_of_one slot None None is = refl
values_of_one slot None (Some b) is = absurd (cc)
values_of_one slot (Some a) None is = absurd (cc)
values_of_one slot (Some a) (Some b) is =
    let promised : a.promised ≡ b.promised = cc in
    let voted : a.voted ≡ b.voted = cc in
    let chain : a.chain ≡ b.chain = cc in
    ap (λ body. Some body) (body_by a b promised voted chain)

pub slots_are_one : (rows : List Row) (a b : Slots) → AreSlots rows a → AreSlots rows b → (slot : Slot) → a slot ≡ b slot
slots_are_one rows a b one other slot = values_of_one slot (a slot) (b slot) (sym (one.exact slot) ∙ other.exact slot)

-- ---- reading

module _ (s : State) (rows : List SlotRow) (read : HasRead (map entry_of rows) s) where
  pub records_found : (layout : Layout) (records : List Record) → StandForEach (map entry_of rows) records → IsOurs layout s
      → HasRecords layout s.now.trees (record_at (entries_of records))
  records_found layout records each ours = record {
    slots = slots_of (map entry_of rows);
    are = read layout ours;
    stand = stand_listed (map entry_of rows) records each;
  }

  pub none_found : AreAscending (map entry_of rows) → (row : Entry) → In row (map entry_of rows) → StandsForNone row → HoldsNone s
  none_found ascend row stands none layout records ours has =
      stand_for_none (map entry_of rows) row records ascend stands none (stand_along has.slots (slots_of (map entry_of rows)) records
      (slots_are_one _ has.slots (slots_of (map entry_of rows)) has.are (read layout ours)) has.stand)

pub holds_none : (s : State) → HoldsNoSlots s → HoldsNone s
holds_none s none layout records ours has = none layout ours has.slots has.are

pub if_read : {P Q : Vec Record Global → Type 0} (r : Result (Vec Record Global) ReadFault) → ((records : _) → P records → Q records)
    → IfOk r P → IfOk r Q
if_read (Ok records) so is = so records is
if_read (Err fault) so is = tt

-- ---- putting a row

pub puts_record : (old : State) (db : Trees) (row : SlotRow) (kept : Record) → StandsFor (entry_of row) kept → PutsRow row old db
    → PutsRecord kept old db
puts_record old db row kept stands puts = record {
  records = λ layout records ours has. record {
    slots = with_row row has.slots;
    are = puts.slots layout has.slots ours has.are;
    stand = stand_put has.slots records kept row stands has.stand;
  };
  life = puts.life;
}

pub has_put_record : (old new : State) (row : SlotRow) (kept : Record) → StandsFor (entry_of row) kept → HasPut row old new
    → HasPutRecord kept old new
has_put_record old new row kept stands put = record { puts = puts_record old new.now.trees row kept stands put.puts; ours = put.ours }

-- ---- putting the rows of a group

stand_all : (rows : List SlotRow) (changes : List Change) (slots : Slots) (records : Records) → StandForEach (map entry_of rows) (afters changes)
    → StandFor slots records → StandFor (with_rows rows slots) (changed_all changes records)
stand_all [] [] slots records each stand = stand
stand_all [] (change ∷ changes) slots records each stand = absurd each
stand_all (row ∷ rows) [] slots records each stand = absurd each
stand_all (row ∷ rows) (change ∷ changes) slots records each stand =
    stand_all rows changes (with_row row slots) (changed change records) each.1 (stand_put slots records change.after row each.0 stand)

pub puts_all : (old : State) (db : Trees) (rows : List SlotRow) (changes : List Change) → StandForEach (map entry_of rows) (afters changes)
    → PutsRows rows old db → PutsAll changes old db
puts_all old db rows changes each puts = record {
  records = λ layout records ours has. record {
    slots = with_rows rows has.slots;
    are = puts.slots layout has.slots ours has.are;
    stand = stand_all rows changes has.slots records each has.stand;
  };
  life = puts.life;
}

pub has_put_all : (old new : State) (rows : List SlotRow) (changes : List Change) → StandForEach (map entry_of rows) (afters changes)
    → HasPutRows rows old new → HasPutAll changes old new
has_put_all old new rows changes each put = record { puts = puts_all old new.now.trees rows changes each put.puts; ours = put.ours }

pub has_put_none : (s : State) → HasPutAll [] s s
has_put_none s = record {
  puts = record { records = λ layout records ours has. has; life = λ layout ours. refl };
  ours = λ layout ours. ours;
}

pub on_put : {P Q : Type 0} {F : Type 0} (r : Result (Unit {0}) F) → (P → Q) → OnOk r P → OnOk r Q
on_put (Ok done) so is = so is
on_put (Err fault) so is = tt
