-- Lists of rows and of the records that they stand for.
use Rattle.std.proofs.Common.{◌≡◌, inl, inr, ℕ, zero, suc, ◌+◌, ◌<◌, List, [], ◌∷◌, ◌++◌, map, take, length, get_or, ap, arith}
use Rattle.std.proofs.lemmas.List.{take_more, map-append}
use Rattle.mc_model.specs.synod.Lists.{In}
use Rattle.synod_acceptor.specs.declared.record.Change.{Change}
use Rattle.synod_acceptor.specs.Votes.{Record}
use Rattle.stable_store.specs.Stored.{afters}
use Rattle.record_rows.specs.declared.row.SlotRow.{SlotRow}
use Rattle.record_rows.specs.Content.{Entry, entry_of}
use Rattle.sql_records.specs.Standing.{StandForEach, StandsFor}

each_more : (rows : List Entry) (records : List Record) (row : Entry) (new : Record) → StandForEach rows records → StandsFor row new
    → StandForEach (rows ++ row ∷ []) (records ++ new ∷ [])
each_more [] [] row new all one = (one, tt)
each_more [] (r ∷ records) row new all one = absurd all
each_more (e ∷ rows) [] row new all one = absurd all
each_more (e ∷ rows) (r ∷ records) row new all one = (all.0, each_more rows records row new all.1 one)

pub stand_more : (rows : List SlotRow) (at : ℕ) (row : SlotRow) (records : List Record) (new : Record) → at < length rows → row ≡ get_or rows at row
    → StandForEach (map entry_of (take at rows)) records → StandsFor (entry_of row) new
    → StandForEach (map entry_of (take (at + 1) rows)) (records ++ new ∷ [])
stand_more rows at row records new low is so one =
    rw (take_more rows at row low, ← is, map-append entry_of (take at rows) (row ∷ [])) (each_more (map entry_of (take at rows)) records
    (entry_of row) new so one)

pub stand_beside : (rows : List SlotRow) (changes : List Change) (at : ℕ) (row : SlotRow) (change : Change) → at < length changes
    → change ≡ get_or changes at change → StandForEach (map entry_of rows) (afters (take at changes)) → StandsFor (entry_of row) change.after
    → StandForEach (map entry_of (rows ++ row ∷ [])) (afters (take (at + 1) changes))
stand_beside rows changes at row change low is so one =
    rw (take_more changes at change low, ← is, map-append entry_of rows (row ∷ []), map-append (λ (c : Change). c.after) (take at changes) (change ∷ []))
    (each_more (map entry_of rows) (afters (take at changes)) (entry_of row) change.after so one)

pub row_in : (rows : List SlotRow) (at : ℕ) (row : SlotRow) → at < length rows → row ≡ get_or rows at row → In (entry_of row) (map entry_of rows)
row_in [] at row low is = absurd (omega arith)
row_in (r ∷ rows) zero row low is = inl (ap entry_of is)
row_in (r ∷ rows) (suc at) row low is = inr (row_in rows at row (omega arith) is)
