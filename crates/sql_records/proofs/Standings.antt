-- Rows stand for one set of records, also when a row is put in, and when they are read.
use Rattle.std.proofs.Common.{◌≡◌, ℕ, ℤ, pos, negsuc, int_lt, Bool, true, false, cond, List, [], ◌∷◌, Option, Some, None, refl, sym, ap, subst, ◌∙◌, arith}
use Rattle.std.proofs.Common.{inl, inr}
use Rattle.std.specs.List.{AllByRecursion}
use Rattle.std.proofs.lemmas.Bool.Decides.{nat_tests}
use Rattle.mc_model.specs.message.Chain.{Chain}
use Rattle.mc_model.specs.synod.Acceptor.{Records, SlotRecord, blank, with_record}
use Rattle.mc_model.specs.synod.Ballot.{IsBallot}
use Rattle.mc_model.specs.synod.Lists.{In}
use Rattle.mc_model.specs.synod.OneSlot.{Vote}
use Rattle.mc_model.specs.synod.Packet.{Slot, same_slot}
use Rattle.mc_parts.proofs.Membership.{slot_self, slots_same}
use Rattle.fate_chain.proofs.Outcomes.{one-chain}
use Rattle.synod_acceptor.specs.Records.{entries_of, held_at, or_blank, record_at}
use Rattle.synod_acceptor.specs.Votes.{Record, record_of, slot_recorded}
use Rattle.record_rows.specs.declared.row.SlotRow.{SlotRow}
use Rattle.record_rows.specs.Content.{AreAscending, Body, Entry, body_of, entry_of, with_row, Slot as Key, Slots, is_below, same_slot as same_key, slots_of}
use Rattle.record_rows.proofs.SlotLemmas.{slots_are_one as keys_are_one, same_itself}
use Rattle.stable_store.specs.Stored.{AreSame}
use Rattle.sql_records.specs.Standing.{IsRowOf, IsVoteBy, StandFor, StandForEach, StandsFor, StandsForNone, chain_in, key_of}
use Rattle.sql_records.proofs.Keys.{keys_are_apart, same_number}

-- ---- a row is of one record

no_ballot : (ballot : ℕ) → IsBallot ballot → pos 0 ≡ pos ballot → ⊥
no_ballot ballot is zero = let none = same_number 0 ballot zero in omega (arith, is.round.least)

vote_by : (one other : Vote) → one.ballot ≡ other.ballot → one.chain ≡ other.chain → one ≡ other
vote_by one other ballot chain = λ i. record { ballot = ballot i; chain = chain i }

votes_are_one : (one other : Option Vote) (slot : Slot) (number : ℤ) (octets : List ℕ) → IsVoteBy one slot number octets
    → IsVoteBy other slot number octets → one ≡ other
votes_are_one None None slot number octets is also = refl
votes_are_one None (Some vote) slot number octets is also = absurd (no_ballot vote.ballot also.ballot (sym is.voted ∙ also.voted))
votes_are_one (Some vote) None slot number octets is also = absurd (no_ballot vote.ballot is.ballot (sym also.voted ∙ is.voted))
votes_are_one (Some vote) (Some other) slot number octets is also =
    let same = one-chain octets (chain_in slot vote) (chain_in slot other) is.chain.spelled also.chain.spelled in
    ap (λ v. Some v) (vote_by vote other (same_number vote.ballot other.ballot (sym is.voted ∙ also.voted)) (ap (λ (c : Chain). c.decrees) same))

record_by : (one other : SlotRecord) → one.promised ≡ other.promised → one.vote ≡ other.vote → one ≡ other
record_by one other promised vote = λ i. record { promised = promised i; vote = vote i }

pub row_of_one : (slot : Slot) (one other : SlotRecord) (row : Entry) → IsRowOf slot one row → IsRowOf slot other row → one ≡ other
row_of_one slot one other row is also =
    record_by one other (same_number one.promised other.promised (sym is.promised ∙ also.promised)) (votes_are_one one.vote other.vote slot
    row.1.voted row.1.chain is.vote also.vote)

-- ---- rows are of one set of records

module _ (slots : Slots) (one other : Records) (is : StandFor slots one) (also : StandFor slots other) (slot : Slot) where
  at_row : (body : Body) → slots (key_of slot) ≡ Some body → one slot ≡ other slot
  at_row body found =
      let first = is.rows (key_of slot) body found in
      let second = also.rows (key_of slot) body found in
      let row : Entry = (key_of slot, body) in
      let here = subst (λ s. IsRowOf s (one s) row) (sym (keys_are_apart slot first.0 first.1.key.is)) first.1 in
      let there = subst (λ s. IsRowOf s (other s) row) (sym (keys_are_apart slot second.0 second.1.key.is)) second.1 in
      row_of_one slot (one slot) (other slot) row here there

  at_key : (found : Option Body) → slots (key_of slot) ≡ found → one slot ≡ other slot
  at_key None found = is.blanks slot found ∙ sym (also.blanks slot found)
  at_key (Some body) found = at_row body found

pub stand_for_one : (slots : Slots) (one other : Records) → StandFor slots one → StandFor slots other → AreSame one other
stand_for_one slots one other is also = record { each = λ slot. at_key slots one other is also slot (slots (key_of slot)) refl }

-- rows that hold the same stand for the same
pub stand_along : (slots others : Slots) (records : Records) → ((key : Key) → slots key ≡ others key) → StandFor slots records → StandFor others records
stand_along slots others records same is = record {
  rows = λ key body found. is.rows key body (same key ∙ found);
  blanks = λ slot none. is.blanks slot (same (key_of slot) ∙ none);
}

-- ---- one row more

never_both : (b : Bool) → b ≡ true → b ≡ false → ⊥
never_both b holds fails = cc

by_test : (b t : Bool) → b ≡ t → (b ≡ true → ⊥) → b ≡ false
by_test b true is not = absurd (not is)
by_test b false is not = is

-- slots whose keys differ
differ : (a b : Slot) → same_key (key_of a) (key_of b) ≡ false → same_slot a b ≡ false
differ a b keys = by_test (same_slot a b) (same_slot a b) refl (λ same.
    never_both (same_key (key_of a) (key_of b)) (subst (λ s. same_key (key_of a) (key_of s) ≡ true) (slots_same a b same) (same_itself (key_of a))) keys)

differ_back : (a b : Slot) → same_key (key_of a) (key_of b) ≡ false → same_slot b a ≡ false
differ_back a b keys = by_test (same_slot b a) (same_slot b a) refl (λ same.
    never_both (same_key (key_of a) (key_of b)) (subst (λ s. same_key (key_of a) (key_of s) ≡ true) (sym (slots_same b a same)) (same_itself (key_of a)))
    keys)

-- what holds this row at its key, and the others at theirs
record IsOneMore (row : Entry) (here : Slot) (r : SlotRecord) (old : Slots) (before : Records) (new : Slots) (after : Records) : Type 0 where
  at : (key : Key) → same_key row.0 key ≡ true → new key ≡ Some row.1
  others : (key : Key) → same_key row.0 key ≡ false → new key ≡ old key
  now : after here ≡ r
  left : (slot : Slot) → same_key (key_of here) (key_of slot) ≡ false → after slot ≡ before slot

module _ (row : Entry) (here : Slot) (r : SlotRecord) (old : Slots) (before : Records) (new : Slots) (after : Records) (is : IsRowOf here r row)
    (more : IsOneMore row here r old before new after) (all : StandFor old before) where
  at_it : (key : Key) (body : Body) → same_key row.0 key ≡ true → new key ≡ Some body → (slot : Slot) × IsRowOf slot (after slot) (key, body)
  at_it key body same found =
      let place : row.0 ≡ key = keys_are_one row.0 key same in
      let known : Some row.1 ≡ Some body = sym (more.at key same) ∙ found in
      let what : row.1 ≡ body = cc in
      (here, subst (λ n. IsRowOf here n (key, body)) (sym more.now) (subst (λ (e : Entry). IsRowOf here r e) (λ i. (place i, what i)) is))

  at_other : (key : Key) (body : Body) → same_key row.0 key ≡ false → new key ≡ Some body → (slot : Slot) × IsRowOf slot (after slot) (key, body)
  at_other key body other found =
      let it = all.rows key body (sym (more.others key other) ∙ found) in
      let keys = subst (λ k. same_key k (key_of it.0) ≡ false) is.key.is (subst (λ k. same_key row.0 k ≡ false) it.1.key.is other) in
      (it.0, subst (λ n. IsRowOf it.0 n (key, body)) (sym (more.left it.0 keys)) it.1)

  rows_at : (key : Key) (body : Body) (t : Bool) → same_key row.0 key ≡ t → new key ≡ Some body → (slot : Slot) × IsRowOf slot (after slot) (key, body)
  rows_at key body true test found = at_it key body test found
  rows_at key body false test found = at_other key body test found

  blank_at : (slot : Slot) (t : Bool) → same_key row.0 (key_of slot) ≡ t → new (key_of slot) ≡ None → after slot ≡ blank
  blank_at slot true test none = let clash = sym (more.at (key_of slot) test) ∙ none in absurd (cc)
  blank_at slot false test none =
      more.left slot (subst (λ k. same_key k (key_of slot) ≡ false) is.key.is test)
      ∙ all.blanks slot (sym (more.others (key_of slot) test) ∙ none)

  one_more : StandFor new after
  one_more = record {
    rows = λ key body found. rows_at key body (same_key row.0 key) refl found;
    blanks = λ slot none. blank_at slot (same_key row.0 (key_of slot)) refl none;
  }

-- a row that is put in
pub stand_put : (slots : Slots) (records : Records) (new : Record) (row : SlotRow) → StandsFor (entry_of row) new → StandFor slots records
    → StandFor (with_row row slots) (with_record records (slot_recorded new) (record_of new))
stand_put slots records new row is all =
    one_more (entry_of row) (slot_recorded new) (record_of new) slots records (with_row row slots) (with_record records (slot_recorded new) (record_of new))
    is (record {
      at = λ key same. ap (λ t. cond t (Some (body_of row)) (slots key)) same;
      others = λ key other. ap (λ t. cond t (Some (body_of row)) (slots key)) other;
      now = ap (λ t. cond t (record_of new) (records (slot_recorded new))) (slot_self (slot_recorded new));
      left = λ slot keys. ap (λ t. cond t (record_of new) (records slot)) (differ_back (slot_recorded new) slot keys);
    }) all

-- rows that were read
pub stand_listed : (rows : List Entry) (records : List Record) → StandForEach rows records → StandFor (slots_of rows) (record_at (entries_of records))
stand_listed [] [] each = record { rows = λ key body found. absurd (cc); blanks = λ slot none. refl }
stand_listed [] (r ∷ records) each = absurd each
stand_listed (e ∷ rows) [] each = absurd each
stand_listed (e ∷ rows) (r ∷ records) each =
    let held = λ (slot : Slot). held_at (entries_of records) slot in
    one_more e (slot_recorded r) (record_of r) (slots_of rows) (record_at (entries_of records)) (slots_of (e ∷ rows)) (record_at (entries_of (r ∷ records)))
    each.0 (record {
      at = λ key same. ap (λ t. cond t (Some e.1) (slots_of rows key)) same;
      others = λ key other. ap (λ t. cond t (Some e.1) (slots_of rows key)) other;
      now = ap (λ t. or_blank (cond t (Some (record_of r)) (held (slot_recorded r)))) (slot_self (slot_recorded r));
      left = λ slot keys. ap (λ t. or_blank (cond t (Some (record_of r)) (held slot))) (differ (slot_recorded r) slot keys);
    }) (stand_listed rows records each.1)

-- ---- a row that stands for nothing

not_below_itself : (n : ℤ) → int_lt n n ≡ false
not_below_itself (pos n) = grind (arith, nat_tests)
not_below_itself (negsuc n) = grind (arith, nat_tests)

not_below : (key : Key) → is_below key key ≡ false
not_below key = rw (not_below_itself key.id, not_below_itself key.place)

below_differs : (a b : Key) → is_below a b ≡ true → same_key a b ≡ false
below_differs a b below = by_test (same_key a b) (same_key a b) refl (λ same.
    never_both (is_below a a) (subst (λ k. is_below a k ≡ true) (sym (keys_are_one a b same)) below) (not_below a))

below_each : (key : Key) (rows : List Entry) (row : Entry) → AllByRecursion (λ (e : Entry). is_below key e.0 ≡ true) rows → In row rows
    → is_below key row.0 ≡ true
below_each key [] row all none = absurd none
below_each key (e ∷ rows) row all (inl is) = subst (λ (r : Entry). is_below key r.0 ≡ true) (sym is) all.0
below_each key (e ∷ rows) row all (inr further) = below_each key rows row all.1 further

found_in : (rows : List Entry) (row : Entry) → AreAscending rows → In row rows → slots_of rows row.0 ≡ Some row.1
found_in [] row ascend none = absurd none
found_in (e ∷ rows) row ascend (inl is) =
    subst (λ (r : Entry). slots_of (e ∷ rows) r.0 ≡ Some r.1) (sym is) (ap (λ t. cond t (Some e.1) (slots_of rows e.0)) (same_itself e.0))
found_in (e ∷ rows) row ascend (inr further) =
    ap (λ t. cond t (Some e.1) (slots_of rows row.0)) (below_differs e.0 row.0 (below_each e.0 rows row ascend.0 further))
    ∙ found_in rows row ascend.1 further

pub stand_for_none : (rows : List Entry) (row : Entry) (records : Records) → AreAscending rows → In row rows → StandsForNone row
    → StandFor (slots_of rows) records → ⊥
stand_for_none rows row records ascend stands none is =
    let it = is.rows row.0 row.1 (found_in rows row ascend stands) in none it.0 (records it.0) it.1
