-- What a list stores once a group was put behind it.
use Rattle.std.proofs.Common.{◌≡◌, inl, inr, ℕ, Bool, true, false, List, [], ◌∷◌, ◌++◌, reverse, Option, Some, if◌then◌else◌, refl, sym, ap, ◌∙◌}
use Rattle.std.proofs.Common.{◌==◌, ◌&&◌, append_assoc, append-nil, eqb-true}
use Rattle.std.proofs.lemmas.Bool.{cases_Bool, eq-eqb}
use Rattle.std.proofs.lemmas.List.{reverse-append}
use Rattle.mc_model.specs.synod.Packet.{Slot, same_slot}
use Rattle.mc_model.specs.synod.Acceptor.{Records, SlotRecord}
use Rattle.synod_acceptor.specs.declared.record.Change.{Change}
use Rattle.synod_acceptor.specs.Records.{entries_of, entry_of, held_at, or_blank, record_at}
use Rattle.synod_acceptor.specs.Votes.{Record, record_of, slot_recorded}
use Rattle.stable_store.specs.Stored.{AreSame, Listed, afters, changed, changed_all, SavesAll, LeavesSavedAll, stored_in}

equals_both : (a b : ℕ) → (a == b) ≡ (b == a)
equals_both a b = elim (cases_Bool (a == b)) [
  | inl same ↦ same ∙ sym (eq-eqb b a (sym (eqb-true a b same)))
  | inr differs ↦ elim (cases_Bool (b == a)) [
    | inl same ↦ absurd (let e : true ≡ false = sym (eq-eqb a b (sym (eqb-true b a same))) ∙ differs in cc)
    | inr other ↦ differs ∙ sym other
  ]
]

same_both : (a b : Slot) → same_slot a b ≡ same_slot b a
same_both a b = ap (λ test. test && (a.place == b.place)) (equals_both a.id b.id) ∙ ap (λ test. (b.id == a.id) && test) (equals_both a.place b.place)

first_or : (test : Bool) (new : SlotRecord) (others : Option SlotRecord) → or_blank (if test then Some new else others) ≡
    (if test then new else or_blank others)
first_or true new others = refl
first_or false new others = refl

-- the record that stands first is that of the change
first_is : (change : Change) (entries : List (Slot × SlotRecord)) → record_at (entry_of change.after ∷ entries) ≡ changed change (record_at entries)
first_is change entries = λ i slot. (first_or (same_slot (slot_recorded change.after) slot) (record_of change.after) (held_at entries slot)
    ∙ ap (λ test. if test then record_of change.after else record_at entries slot) (same_both (slot_recorded change.after) slot)) i

pub put_behind : (changes : List Change) (saved : List Record) → record_at (entries_of (reverse (saved ++ afters changes)))
    ≡ changed_all changes (record_at (entries_of (reverse saved)))
put_behind [] saved = ap (λ (all : List Record). record_at (entries_of (reverse all))) (append-nil saved)
put_behind (change ∷ more) saved =
    ap (λ (all : List Record). record_at (entries_of (reverse all))) (sym (append_assoc saved (change.after ∷ []) (afters more)))
    ∙ put_behind more (saved ++ change.after ∷ [])
    ∙ ap (λ (all : List Record). changed_all more (record_at (entries_of all))) (reverse-append saved (change.after ∷ []))
    ∙ ap (changed_all more) (first_is change (entries_of (reverse saved)))

pub group_put : (changes : List Change) (saved more all : List Record) → more ≡ afters changes → all ≡ saved ++ more
    → record_at (entries_of (reverse all)) ≡ changed_all changes (record_at (entries_of (reverse saved)))
group_put changes saved more all are is =
    ap (λ (records : List Record). record_at (entries_of (reverse records))) (is ∙ ap (λ (records : List Record). saved ++ records) are)
    ∙ put_behind changes saved

records_same : (one other : Records) → AreSame one other → one ≡ other
records_same one other same = λ i slot. same.each slot i

module _ (changes : List Change) (old new : Listed) (before after : ℕ) (is : record_at new.entries ≡ changed_all changes (record_at old.entries)) where
  saved_from : (records : Records) → AreSame (record_at old.entries) records → record_at new.entries ≡ changed_all changes records
  saved_from records holds = is ∙ ap (changed_all changes) (records_same _ records holds)

  pub saves_group : SavesAll changes (stored_in old before) (stored_in new after)
  saves_group records holds = record { each = λ slot. ap (λ (r : Records). r slot) (saved_from records holds) }

  pub leaves_group : new.started ≡ old.started → LeavesSavedAll changes (stored_in old before) (stored_in new after)
  leaves_group kept = record {
    records = λ left found. inr (λ records holds. record {
      each = λ slot. sym (found.each slot) ∙ ap (λ (r : Records). r slot) (saved_from records holds);
    });
    started = λ left found. sym kept ∙ found;
  }
