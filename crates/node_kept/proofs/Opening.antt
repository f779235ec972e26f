-- What a node keeps that opens over the records of its store.
use Rattle.std.proofs.Common.{◌≡◌, ◌≢◌, ◌<◌, ◌≤◌, ℕ, Bool, true, false, cond, List, [], ◌∷◌, ◌++◌, map, Option, Some, None, refl, sym}
use Rattle.std.proofs.Common.{ap, append_assoc, subst, suc, ◌∙◌, inl, inr, arith}
use Rattle.std.specs.Prelude.{if◌then◌else◌}
use Rattle.std.specs.Option.{unwrap_or}
use Rattle.std.specs.Map.{keys_of, lookup}
use Rattle.std.specs.Ordering.{nat_cmp, match_ordering}
use Rattle.std.specs.declared.cmp.Ordering.{Ordering}
use Rattle.std.specs.declared.cmp.Ordering.TheVariants.{Less, Equal, Greater}
use Rattle.std.specs.BTreeMap.{is_at}
use Rattle.std.proofs.lemmas.Bool.{cases_Bool, true≢false}
use Rattle.std.proofs.lemmas.Bool.Decides.{nat_tests}
use Rattle.std.proofs.lemmas.List.{append-nil, map-append}
use Rattle.mc_model.specs.synod.Packet.{Slot, same_slot, slot_at}
use Rattle.mc_model.specs.synod.Acceptor.{Records, SlotRecord, blank, with_record}
use Rattle.mc_model.specs.node.Actor.{opening_clock}
use Rattle.mc_model.specs.node.Setup.{Setup}
use Rattle.mc_parts.proofs.Membership.{slots_same}
use Rattle.node_model.specs.Message.{unseen}
use Rattle.node_model.specs.Recorded.{AreRecorded, named_places}
use Rattle.waiting_requests.specs.Waiting.{held_in}
use Rattle.shelf.specs.Shelved.{with_value}
use Rattle.synod_acceptor.proofs.Slots.{by_first, held_first, held_later, is_same, records_pushed}
use Rattle.synod_acceptor.specs.Records.{entries_of, entry_of, held_at, or_blank, record_at}
use Rattle.synod_acceptor.specs.Votes.{Record, record_of, slot_recorded}
use Rattle.node_parts.specs.declared.message.Message.{Message as Filed}
use Rattle.node_parts.specs.Messages.{IsOf, message_of}
use Rattle.node_kept.specs.declared.kept.Kept.{Kept as Holding}
use Rattle.node_kept.specs.declared.step.Next.{Next}
use Rattle.node_kept.specs.Keeping.{AreOf, AreUnseen, HasFiled, IsFiled, IsFirstFiled, IsOpen, IsTaken, filed_as, records_of}
use Rattle.node_kept.specs.Steps.{IsInstalled, IsNext}
use Rattle.node_kept.proofs.Answering.{next_entries}
use Rattle.node_kept.proofs.Listing.{listed_of, listed_put, none_listed}
use Rattle.node_kept.proofs.Queueing.{asked_none, asked_still, held_same}
use Rattle.node_kept.proofs.Entries.{own_put, records_put}

-- ---- nothing was heard

pub unseen_at : (entries : List (ℕ × Filed)) (id : ℕ) → AreUnseen entries → unwrap_or (lookup (is_at (nat_cmp id)) (map filed_as entries)) unseen ≡ unseen
unseen_at [] id fresh = refl
unseen_at (e ∷ es) id fresh = by_test (is_at (nat_cmp id) e.0) (unseen_at es id fresh.1)
  where
    by_test : (test : Bool) → unwrap_or (lookup (is_at (nat_cmp id)) (map filed_as es)) unseen ≡ unseen →
        unwrap_or (cond test (Some (message_of e.0 e.1)) (lookup (is_at (nat_cmp id)) (map filed_as es))) unseen ≡ unseen
    by_test true rest = fresh.0
    by_test false rest = rest

pub unseen_put : (entries : List (ℕ × Filed)) (id : ℕ) (m : Filed) → message_of id m ≡ unseen → AreUnseen entries → AreUnseen (with_value entries id m)
unseen_put [] id m is fresh = (is, tt)
unseen_put (e ∷ es) id m is fresh = at_order (nat_cmp id e.0) refl (unseen_put es id m is fresh.1)
  where
    at_order : (o : Ordering) → nat_cmp id e.0 ≡ o → AreUnseen (with_value es id m) →
        AreUnseen (match_ordering o ((id, m) ∷ e ∷ es) ((e.0, m) ∷ es) (e ∷ with_value es id m))
    at_order Less order rest = (is, fresh)
    at_order Equal order rest = let same : e.0 ≡ id = grind (arith, nat_tests) in (subst (λ (key : ℕ). message_of key m ≡ unseen) (sym same) is, fresh.1)
    at_order Greater order rest = (fresh.0, rest)

-- ---- one record more

pub filed : (old new : Holding) (kept : Record) (id : ℕ) (taken m : Filed) (next : Next) → id ≡ (slot_recorded kept).id →
    (record_of kept ≢ blank) → (slot_recorded kept).place < named_places →
    IsTaken old id taken →
    ((slot : Slot) → record_at m.acceptor slot ≡ with_record (record_at taken.acceptor) (slot_recorded kept) (record_of kept) slot) →
    ((id : ℕ) → message_of id m ≡ message_of id taken) →
    (IsOf old.setup.node old.incarnation old.setup.nodes id taken → IsOf old.setup.node old.incarnation old.setup.nodes id m) →
    IsNext old id m next → IsInstalled old next new → IsFiled old kept new
filed old new kept id taken m next about promised within is_taken records same of is_next is =
    let entries = is.entries ∙ next_entries old id m next is_next in record {
      setup = is.setup;
      incarnation = is.incarnation;
      clock = is.clock ∙ is_next.clock;
      serial = is.serial ∙ is_next.serial;
      given = is.given ∙ is_next.given;
      held = is.queue ∙ held_same old next is_next.queue;
      records = stored entries;
      listed = λ listed.
          subst (λ (es : List (ℕ × Filed)). AreRecorded (records_of new.messages.entries) (keys_of es)) (sym entries)
          (listed_put (records_of old.messages.entries) (records_of new.messages.entries) old.messages.entries (slot_recorded kept)
          (record_of kept) id m about promised within (stored entries) listed);
      own = λ own. record {
        each = subst (λ (es : List (ℕ × Filed)). AreOf new.setup new.incarnation es) (sym entries)
            (subst (λ (s : Setup). AreOf s new.incarnation (with_value old.messages.entries id m)) (sym is.setup)
            (subst (λ (starts : ℕ). AreOf old.setup starts (with_value old.messages.entries id m)) (sym is.incarnation)
            (own_put old.setup old.incarnation old.messages.entries id m (of (is_taken.own own)) own.each)));
        asked = asked_still old new is.setup is.incarnation (is.given ∙ is_next.given) (is.queue ∙ held_same old next is_next.queue) own;
        serial = subst (λ (n : ℕ). 1 ≤ n) (sym (is.serial ∙ is_next.serial)) own.serial;
      };
      fresh = λ fresh. subst AreUnseen (sym entries) (unseen_put old.messages.entries id m
          (same id ∙ is_taken.message ∙ unseen_at old.messages.entries id fresh) fresh);
    }
  where
    stored : new.messages.entries ≡ with_value old.messages.entries id m →
        (slot : Slot) → records_of new.messages.entries slot ≡ with_record (records_of old.messages.entries) (slot_recorded kept) (record_of kept) slot
    stored entries slot =
        ap (λ (es : List (ℕ × Filed)). records_of es slot) entries
        ∙ records_put old.messages.entries id m (slot_recorded kept) (record_of kept) (sym about)
        (λ place. records (slot_at id place) ∙ ap (λ (r : SlotRecord). if same_slot (slot_at id place)
        (slot_recorded kept) then record_of kept else r) (is_taken.records place))
        slot

-- ---- records over others

-- of several of a slot the first counts
abbrev pub over : List (Slot × SlotRecord) → Records → Slot → SlotRecord
over entries records slot = unwrap_or (held_at entries slot) (records slot)

over_same : (entries : List (Slot × SlotRecord)) (one other : Records) (slot : Slot) → one slot ≡ other slot → over entries one slot ≡ over entries other slot
over_same entries one other slot is = ap (λ (r : SlotRecord). unwrap_or (held_at entries slot) r) is

over_last : (entries : List (Slot × SlotRecord)) (last : Slot × SlotRecord) (records : Records) (slot : Slot) →
    over (entries ++ last ∷ []) records slot ≡ over entries (with_record records last.0 last.1) slot
over_last [] last records slot = elim (cases_Bool (same_slot last.0 slot)) [
  | inl same ↦
      let slots : last.0 ≡ slot = slots_same last.0 slot same in
      ap (λ (test : Bool). unwrap_or (cond test (Some last.1) None) (records slot)) same
      ∙ sym (ap (λ (test : Bool). cond test last.1 (records slot)) (is_same slot last.0 (sym slots)))
  | inr differs ↦
      ap (λ (test : Bool). unwrap_or (cond test (Some last.1) None) (records slot)) differs
      ∙ sym (ap (λ (test : Bool). cond test last.1 (records slot)) (apart differs))
]
  where
    apart : same_slot last.0 slot ≡ false → same_slot slot last.0 ≡ false
    apart differs = elim (cases_Bool (same_slot slot last.0)) [
      | inl same ↦ absurd (true≢false (sym (is_same last.0 slot (sym (slots_same slot last.0 same))) ∙ differs))
      | inr other ↦ other
    ]
over_last (first ∷ others) last records slot = by_test (same_slot first.0 slot) (over_last others last records slot)
  where
    by_test : (test : Bool) → over (others ++ last ∷ []) records slot ≡ over others (with_record records last.0 last.1) slot →
        unwrap_or (cond test (Some first.1) (held_at (others ++ last ∷ []) slot)) (records slot) ≡ unwrap_or
        (cond test (Some first.1) (held_at others slot)) (with_record records last.0 last.1 slot)
    by_test true rest = refl
    by_test false rest = rest

-- the last of the records is taken in
pub over_filed : (records front : List Record) (last : Record) (old new : Holding) (slot : Slot) → records ≡ front ++ last ∷ [] →
    IsFiled old last new →
    over (entries_of front) (records_of new.messages.entries) slot ≡ over (entries_of records) (records_of old.messages.entries) slot
over_filed records front last old new slot split is_filed =
    over_same (entries_of front) (records_of new.messages.entries)
    (with_record (records_of old.messages.entries) (slot_recorded last) (record_of last)) slot (is_filed.records slot)
    ∙ sym (over_last (entries_of front) (entry_of last) (records_of old.messages.entries) slot)
    ∙ sym (ap (λ (es : List (Slot × SlotRecord)). over es (records_of old.messages.entries) slot) (ap entries_of split ∙ map-append entry_of front (last ∷ [])))

-- ---- a node that opens over these records, or the same

pub open_over : (with : Setup) (starts : ℕ) (one other : Records) (k : Holding) → IsOpen with starts one k → ((slot : Slot) → one slot ≡ other slot) →
    IsOpen with starts other k
open_over with starts one other k is same = record {
  setup = is.setup;
  incarnation = is.incarnation;
  clock = is.clock;
  serial = is.serial;
  given = is.given;
  held = is.held;
  kept = λ slot. is.kept slot ∙ same slot;
  fresh = is.fresh;
  listed = listed_of one other (keys_of k.messages.entries) same is.listed;
  own = is.own;
}

open_still : (with : Setup) (starts : ℕ) (records : Records) (k : Holding) → IsOpen with starts records k →
    IsOpen with starts (records_of k.messages.entries) k
open_still with starts records k is = open_over with starts records (records_of k.messages.entries) k is (λ slot. sym (is.kept slot))

-- one that keeps nothing
pub opens_empty : (with : Setup) (starts : ℕ) (k : Holding) → k.setup ≡ with → k.incarnation ≡ starts → k.clock ≡ opening_clock →
    k.serial ≡ with.first_serial → k.given ≡ 0 → held_in k.queue ≡ [] → k.messages.entries ≡ [] → 1 ≤ with.first_serial →
    IsOpen with starts (λ slot. blank) k
opens_empty with starts k setup incarnation clock serial given held entries first = record {
  setup = setup;
  incarnation = incarnation;
  clock = clock;
  serial = serial;
  given = given;
  held = held;
  kept = λ slot. ap (λ (es : List (ℕ × Filed)). records_of es slot) entries;
  fresh = subst AreUnseen (sym entries) tt;
  listed = subst (λ (es : List (ℕ × Filed)). AreRecorded (λ slot. blank) (keys_of es)) (sym entries) none_listed;
  own = record {
    each = subst (λ (es : List (ℕ × Filed)). AreOf k.setup k.incarnation es) (sym entries) tt;
    asked = asked_none k.setup.node k.incarnation (suc k.given) (held_in k.queue) held;
    serial = subst (λ (n : ℕ). 1 ≤ n) (sym serial) first;
  };
}

-- ---- while records are taken in

open_filed : (with : Setup) (starts : ℕ) (old new : Holding) (kept : Record) → IsFiled old kept new →
    IsOpen with starts (records_of old.messages.entries) old → IsOpen with starts (records_of new.messages.entries) new
open_filed with starts old new kept is_filed is = record {
  setup = is_filed.setup ∙ is.setup;
  incarnation = is_filed.incarnation ∙ is.incarnation;
  clock = is_filed.clock ∙ is.clock;
  serial = is_filed.serial ∙ is.serial;
  given = is_filed.given ∙ is.given;
  held = is_filed.held ∙ is.held;
  kept = λ slot. refl;
  fresh = is_filed.fresh is.fresh;
  listed = is_filed.listed is.listed;
  own = is_filed.own is.own;
}

-- the records that are left count before those that were taken in
pub record IsFilling (with : Setup) (starts : ℕ) (left all : List Record) (k : Holding) : Type 0 where
  pub is_open : IsOpen with starts (records_of k.messages.entries) k
  pub records : (slot : Slot) → over (entries_of left) (records_of k.messages.entries) slot ≡ record_at (entries_of all) slot

abbrev pub Fills : List Record → List Record → Holding → Holding → Type 0
Fills left all first now = (with : Setup) (starts : ℕ) → IsOpen with starts (λ slot. blank) first → IsFilling with starts left all now

over_none : (entries : List (Slot × SlotRecord)) (slot : Slot) → unwrap_or (held_at entries slot) blank ≡ record_at entries slot
over_none entries slot = by_held (held_at entries slot)
  where
    by_held : (held : Option SlotRecord) → unwrap_or held blank ≡ or_blank held
    by_held None = refl
    by_held (Some r) = refl

pub fills_first : (all left : List Record) (k : Holding) → left ≡ all → Fills left all k k
fills_first all left k same with starts is = record {
  is_open = open_still with starts (λ slot. blank) k is;
  records = λ slot.
      over_same (entries_of left) (records_of k.messages.entries) (λ other. blank) slot (is.kept slot)
      ∙ over_none (entries_of left) slot
      ∙ ap (λ (rs : List Record). record_at (entries_of rs) slot) same;
}

pub fills_on : (left front all : List Record) (last : Record) (first old new : Holding) → left ≡ front ++ last ∷ [] → IsFiled old last new →
    Fills left all first old → Fills front all first new
fills_on left front all last first old new split is_filed filling with starts is =
    let was = filling with starts is in record {
      is_open = open_filed with starts old new last is_filed was.is_open;
      records = λ slot. over_filed left front last old new slot split is_filed ∙ was.records slot;
    }

pub fills_all : (left all : List Record) (first now : Holding) → left ≡ [] → Fills left all first now → HasFiled (record_at (entries_of all)) first now
fills_all left all first now none filling with starts is =
    let was = filling with starts is in
    open_over with starts (records_of now.messages.entries) (record_at (entries_of all)) now was.is_open
    (λ slot. sym (ap (λ (rs : List Record). over (entries_of rs) (records_of now.messages.entries) slot) none) ∙ was.records slot)

-- ---- from the first to the last, the first of a slot alone

abbrev first_held : Option SlotRecord → Option SlotRecord → Option SlotRecord
first_held None other = other
first_held (Some r) other = Some r

held_joined : (front others : List (Slot × SlotRecord)) (slot : Slot) → held_at (front ++ others) slot ≡ first_held (held_at front slot) (held_at others slot)
held_joined [] others slot = refl
held_joined (first ∷ more) others slot = by_test (same_slot first.0 slot) (held_joined more others slot)
  where
    by_test : (test : Bool) → held_at (more ++ others) slot ≡ first_held (held_at more slot) (held_at others slot) →
        cond test (Some first.1) (held_at (more ++ others) slot) ≡ first_held (cond test (Some first.1) (held_at more slot)) (held_at others slot)
    by_test true rest = refl
    by_test false rest = rest

-- there is a record in a slot if it is not blank
abbrev ArePromised : List (Slot × SlotRecord) → Type 0
ArePromised entries = (slot : Slot) → record_at entries slot ≡ blank → held_at entries slot ≡ None

promised_more : (entries : List (Slot × SlotRecord)) (entry : Slot × SlotRecord) → entry.1 ≢ blank → ArePromised entries →
    ArePromised (entries ++ entry ∷ [])
promised_more entries entry some promised slot is =
    held_joined entries (entry ∷ []) slot
    ∙ by_held (held_at entries slot) refl (sym (ap or_blank (held_joined entries (entry ∷ []) slot)) ∙ is)
  where
    by_held : (held : Option SlotRecord) → held_at entries slot ≡ held → or_blank (first_held held (held_at (entry ∷ []) slot)) ≡ blank →
        first_held held (held_at (entry ∷ []) slot) ≡ None
    by_held (Some r) there is_blank = let none : held_at entries slot ≡ None = promised slot (ap or_blank there ∙ is_blank) in absurd (cc)
    by_held None there is_blank = elim (by_first entry slot) [
      | inl same ↦ absurd (some (sym (ap or_blank (held_first entry [] slot same)) ∙ is_blank))
      | inr differs ↦ held_later entry [] slot differs
    ]

still_first : (entries : List (Slot × SlotRecord)) (entry : Slot × SlotRecord) (slot : Slot) → (held_at entries entry.0 ≡ None → ⊥) →
    record_at (entries ++ entry ∷ []) slot ≡ record_at entries slot
still_first entries entry slot there = ap or_blank (held_joined entries (entry ∷ []) slot) ∙ by_held (held_at entries slot) refl
  where
    by_held : (held : Option SlotRecord) → held_at entries slot ≡ held → or_blank (first_held held (held_at (entry ∷ []) slot)) ≡ or_blank held
    by_held (Some r) is = refl
    by_held None is =
        ap or_blank (held_later entry [] slot (λ same. there (ap (λ (s : Slot). held_at entries s) same ∙ is)))

-- those that are done are what it keeps
pub record IsRising (with : Setup) (starts : ℕ) (left all : List Record) (k : Holding) : Type 0 where
  pub is_open : IsOpen with starts (records_of k.messages.entries) k
  pub done : List Record
  pub all_are : all ≡ done ++ left
  pub records : (slot : Slot) → records_of k.messages.entries slot ≡ record_at (entries_of done) slot
  pub promised : ArePromised (entries_of done)

abbrev pub Rises : List Record → List Record → Holding → Holding → Type 0
Rises left all first now = (with : Setup) (starts : ℕ) → IsOpen with starts (λ slot. blank) first → IsRising with starts left all now

pub rises_first : (all left : List Record) (k : Holding) → left ≡ all → Rises left all k k
rises_first all left k same with starts is = record {
  is_open = open_still with starts (λ slot. blank) k is;
  done = [];
  all_are = sym same;
  records = is.kept;
  promised = λ slot none. refl;
}

module _ (with : Setup) (starts : ℕ) (left rest all : List Record) (next : Record) (split : left ≡ next ∷ rest) (some : record_of next ≢ blank) where
  all_with : (done : List Record) → all ≡ done ++ left → all ≡ (done ++ next ∷ []) ++ rest
  all_with done are = are ∙ ap (λ (rs : List Record). done ++ rs) split ∙ sym (append_assoc done (next ∷ []) rest)

  promised_with : (done : List Record) → ArePromised (entries_of done) → ArePromised (entries_of (done ++ next ∷ []))
  promised_with done promised =
      subst ArePromised (sym (map-append entry_of done (next ∷ []))) (promised_more (entries_of done) (entry_of next) some promised)

  -- it is of a slot of which there is none
  rising_with : (old new : Holding) → records_of old.messages.entries (slot_recorded next) ≡ blank → IsFiled old next new →
      IsRising with starts left all old → IsRising with starts rest all new
  rising_with old new none is_filed is =
      let unheld : held_at (entries_of is.done) (slot_recorded next) ≡ None =
      is.promised (slot_recorded next) (sym (is.records (slot_recorded next)) ∙ none) in record {
        is_open = open_filed with starts old new next is_filed is.is_open;
        done = is.done ++ next ∷ [];
        all_are = all_with is.done is.all_are;
        records = λ slot.
            is_filed.records slot
            ∙ ap (λ (r : SlotRecord). if same_slot slot (slot_recorded next) then record_of next else r) (is.records slot)
            ∙ sym (records_pushed is.done next unheld slot);
        promised = promised_with is.done is.promised;
      }

  -- there is one of its slot
  rising_without : (k : Holding) → records_of k.messages.entries (slot_recorded next) ≢ blank → IsRising with starts left all k →
      IsRising with starts rest all k
  rising_without k there is = record {
    is_open = is.is_open;
    done = is.done ++ next ∷ [];
    all_are = all_with is.done is.all_are;
    records = λ slot.
        is.records slot
        ∙ sym (still_first (entries_of is.done) (entry_of next) slot
        (λ none. there (is.records (slot_recorded next) ∙ ap or_blank none)))
        ∙ sym (ap (λ (es : List (Slot × SlotRecord)). record_at es slot) (map-append entry_of is.done (next ∷ [])));
    promised = promised_with is.done is.promised;
  }

pub rises_on : (left rest all : List Record) (next : Record) (first old new : Holding) → left ≡ next ∷ rest → IsFirstFiled old next new →
    Rises left all first old → Rises rest all first new
rises_on left rest all next first old new split is_filed rising with starts is =
    let was = rising with starts is in
    elim is_filed.filed [
      | inl taken ↦ rising_with with starts left rest all next split is_filed.promised old new taken.0 taken.1 was
      | inr there ↦
          subst (λ (k : Holding). IsRising with starts rest all k) (sym there.1)
          (rising_without with starts left rest all next split is_filed.promised old there.0 was)
    ]

pub rises_all : (left all : List Record) (first now : Holding) → left ≡ [] → Rises left all first now → HasFiled (record_at (entries_of all)) first now
rises_all left all first now none rising with starts is =
    let was = rising with starts is in
    let all_done : all ≡ was.done = was.all_are ∙ ap (λ (rs : List Record). was.done ++ rs) none ∙ append-nil was.done in
    open_over with starts (records_of now.messages.entries) (record_at (entries_of all)) now was.is_open
    (λ slot. was.records slot ∙ ap (λ (rs : List Record). record_at (entries_of rs) slot) (sym all_done))
