-- What a change of one message leaves as it was.
use Rattle.std.proofs.Common.{◌≡◌, ℕ, ◌<◌, Bool, true, false, List, [], ◌∷◌, get_or, length, refl, sym, ap, subst, ◌∙◌, arith, Option, pred}
use Rattle.std.specs.Prelude.{◌==◌}
use Rattle.std.proofs.lemmas.Bool.{and_left, and_right, eqb-false, eqb-true, ne_eqb}
use Rattle.std.proofs.lemmas.Bool.Decides.{Decides-eqb, nat_tests}
use Rattle.std.specs.Option.{unwrap_or}
use Rattle.std.specs.Ordering.{match_ordering, nat_cmp}
use Rattle.std.specs.declared.cmp.Ordering.{Ordering}
use Rattle.std.specs.declared.cmp.Ordering.TheVariants.{Less, Equal, Greater}
use Rattle.std.specs.Map.{keys_of}
use Rattle.std.specs.BTreeMap.{insert_entry}
use Rattle.std.specs.BTreeSet.{insert_key}
use Rattle.mc_model.specs.message.Decree.{Decree}
use Rattle.mc_model.specs.synod.Packet.{Slot, same_slot, slot_at}
use Rattle.mc_model.specs.synod.Acceptor.{Records, SlotRecord, with_record}
use Rattle.node_model.specs.Message.{Message}
use Rattle.node_model.specs.Kept.{Held, Kept, message_at, saved, with_message}
use Rattle.node_model.specs.Packets.{was_given}
use Rattle.node_model.proofs.Places.{elsewhere, here, message_elsewhere, message_here}
use Rattle.table_laws.specs.Tables.{Entry, Table, entry_at, nothing, with_entry}
use Rattle.table_laws.specs.Resting.{HasVotes, IsAtRest, IsTakenIfAny, IsFresh, IsReady}

-- ---- numbers and slots

pub eqb_self : (n : ℕ) → (n == n) ≡ true
eqb_self n = (Decides-eqb n n).1 refl

-- ---- entries of a table

pub entry_here : (table : Table) (id : ℕ) (entry : Entry) → entry_at (with_entry table id entry) id ≡ entry
entry_here table id entry = ap (λ (o : Option Entry). unwrap_or o nothing) (here id entry table)

pub entry_elsewhere : (table : Table) (id other : ℕ) (entry : Entry) → (other ≡ id → ⊥) → entry_at (with_entry table id entry) other ≡ entry_at table other
entry_elsewhere table id other entry apart = ap (λ (o : Option Entry). unwrap_or o nothing) (elsewhere id entry other apart table)

-- an entry that another one replaces is gone
same_key : (key : ℕ) → nat_cmp key key ≡ Equal
same_key key = grind (arith, nat_tests)

entries_again : (table : Table) (id : ℕ) (one other : Entry) → insert_entry nat_cmp (insert_entry nat_cmp table id one) id other ≡ insert_entry nat_cmp table id other
entries_again [] id one other = rw (same_key id) refl
entries_again (first ∷ table) id one other = at_order (nat_cmp id first.0) refl (entries_again table id one other)
  where
    at_order : (o : Ordering) → nat_cmp id first.0 ≡ o →
        insert_entry nat_cmp (insert_entry nat_cmp table id one) id other ≡ insert_entry nat_cmp table id other →
        insert_entry nat_cmp (match_ordering o ((id, one) ∷ first ∷ table) ((first.0, one) ∷ table) (first ∷ insert_entry nat_cmp table id one)) id other
        ≡ match_ordering o ((id, other) ∷ first ∷ table) ((first.0, other) ∷ table) (first ∷ insert_entry nat_cmp table id other)
    at_order Less is rest = rw (same_key id) refl
    at_order Equal is rest = rw is refl
    at_order Greater is rest = rw is (ap (λ (es : Table). first ∷ es) rest)

pub entry_again : (table : Table) (id : ℕ) (one other : Entry) → with_entry (with_entry table id one) id other ≡ with_entry table id other
entry_again table id one other = entries_again table id one other

-- ---- a record is saved

pub record_of_other : (records : Records) (slot other : Slot) (r : SlotRecord) → (other.id ≡ slot.id → ⊥) → with_record records slot r other ≡ records other
record_of_other records slot other r apart =
    let differs : same_slot other slot ≡ false = and_left (other.id == slot.id) (other.place == slot.place) (ne_eqb other.id slot.id apart) in
    rw differs refl

pub record_at_other : (records : Records) (slot other : Slot) (r : SlotRecord) → (other.place ≡ slot.place → ⊥) →
    with_record records slot r other ≡ records other
record_at_other records slot other r apart =
    let differs : same_slot other slot ≡ false = and_right (other.id == slot.id) (other.place == slot.place) (ne_eqb other.place slot.place apart) in
    rw differs refl

-- the messages stay
pub message_saved : (k : Kept) (slot : Slot) (r : SlotRecord) (other : ℕ) → message_at (saved k slot r) other ≡ message_at k other
message_saved k slot r other = by_id (other == slot.id) refl
  where
    by_id : (same : Bool) → (other == slot.id) ≡ same → message_at (saved k slot r) other ≡ message_at k other
    by_id true same =
        let is : other ≡ slot.id = eqb-true other slot.id same in
        rw is (message_here k slot.id (message_at k slot.id))
    by_id false differs = message_elsewhere k slot.id other (message_at k slot.id) (eqb-false other slot.id differs)

-- ---- the ids

module _ {V : Type 0} where
  pub keys_with : (es : List (ℕ × V)) (id : ℕ) (value : V) → keys_of (insert_entry nat_cmp es id value) ≡ insert_key nat_cmp (keys_of es) id
  keys_with [] id value = refl
  keys_with (e ∷ es) id value = by_order (nat_cmp id e.0) (keys_with es id value)
    where
      by_order : (o : Ordering) → keys_of (insert_entry nat_cmp es id value) ≡ insert_key nat_cmp (keys_of es) id →
          keys_of (match_ordering o ((id, value) ∷ e ∷ es) ((e.0, value) ∷ es) (e ∷ insert_entry nat_cmp es id value))
          ≡ match_ordering o (id ∷ e.0 ∷ keys_of es) (e.0 ∷ keys_of es) (e.0 ∷ insert_key nat_cmp (keys_of es) id)
      by_order Less rest = refl
      by_order Equal rest = refl
      by_order Greater rest = ap (λ (ids : List ℕ). e.0 ∷ ids) rest

pub insert_again : (ids : List ℕ) (id : ℕ) → insert_key nat_cmp (insert_key nat_cmp ids id) id ≡ insert_key nat_cmp ids id
insert_again [] id = let same : nat_cmp id id ≡ Equal = grind (arith, nat_tests) in rw same refl
insert_again (first ∷ ids) id = by_order (nat_cmp id first) refl (insert_again ids id)
  where
    by_order : (o : Ordering) → nat_cmp id first ≡ o → insert_key nat_cmp (insert_key nat_cmp ids id) id ≡ insert_key nat_cmp ids id →
        insert_key nat_cmp (match_ordering o (id ∷ first ∷ ids) (first ∷ ids) (first ∷ insert_key nat_cmp ids id)) id
        ≡ match_ordering o (id ∷ first ∷ ids) (first ∷ ids) (first ∷ insert_key nat_cmp ids id)
    by_order Less is rest = let same : nat_cmp id id ≡ Equal = grind (arith, nat_tests) in rw same refl
    by_order Equal is rest = rw is refl
    by_order Greater is rest = rw is (ap (λ (xs : List ℕ). first ∷ xs) rest)

-- ---- all but one message is as it was

pub record IsSameBut (id : ℕ) (k new : Kept) : Type 0 where
  pub up : new.up ≡ k.up
  pub incarnation : new.incarnation ≡ k.incarnation
  pub clock : new.clock ≡ k.clock
  pub serial : new.serial ≡ k.serial
  pub ticket : new.ticket ≡ k.ticket
  pub message : (other : ℕ) → (other ≡ id → ⊥) → message_at new other ≡ message_at k other
  pub records : (other : ℕ) → (other ≡ id → ⊥) → (place : ℕ) → new.records (slot_at other place) ≡ k.records (slot_at other place)
  -- and its id is listed
  pub ids : keys_of new.messages ≡ insert_key nat_cmp (keys_of k.messages) id

pub same_then : (id : ℕ) (k mid new : Kept) → IsSameBut id k mid → IsSameBut id mid new → IsSameBut id k new
same_then id k mid new one two = record {
  up = two.up ∙ one.up;
  incarnation = two.incarnation ∙ one.incarnation;
  clock = two.clock ∙ one.clock;
  serial = two.serial ∙ one.serial;
  ticket = two.ticket ∙ one.ticket;
  message = λ other apart. two.message other apart ∙ one.message other apart;
  records = λ other apart place. two.records other apart place ∙ one.records other apart place;
  ids = two.ids ∙ (ap (λ (ids : List ℕ). insert_key nat_cmp ids id) one.ids ∙ insert_again (keys_of k.messages) id);
}

-- one message is another, and others wait
pub same_with : (k : Kept) (id : ℕ) (m : Message) (held : List Held) → IsSameBut id k (record (with_message k id m) { held = held })
same_with k id m held = record {
  up = refl;
  incarnation = refl;
  clock = refl;
  serial = refl;
  ticket = refl;
  message = λ other apart. message_elsewhere k id other m apart;
  records = λ other apart place. refl;
  ids = keys_with k.messages id m;
}

pub same_saved : (k : Kept) (slot : Slot) (r : SlotRecord) → IsSameBut slot.id k (saved k slot r)
same_saved k slot r = record {
  up = refl;
  incarnation = refl;
  clock = refl;
  serial = refl;
  ticket = refl;
  message = λ other apart. message_saved k slot r other;
  records = λ other apart place. record_of_other k.records slot (slot_at other place) r apart;
  ids = keys_with k.messages slot.id (message_at k slot.id);
}

-- ---- what holds of a message still holds

pub votes_as : (old new : Records) (id : ℕ) (chain : List Decree) → ((place : ℕ) → place < length chain → new (slot_at id place) ≡ old (slot_at id place)) →
    HasVotes old id chain → HasVotes new id chain
votes_as old new id [] same votes = tt
votes_as old new id (newest ∷ older) same votes = (
  (votes.0.0, ap (λ (r : SlotRecord). r.vote) (same (length older) (omega arith)) ∙ votes.0.1),
  votes_as old new id older (λ place below. same place (omega (arith, below))) votes.1,
)

pub given_as : (k new : Kept) (id : ℕ) → new.incarnation ≡ k.incarnation → new.serial ≡ k.serial → was_given k id ≡ true → was_given new id ≡ true
given_as k new id incarnation serial given = rw (incarnation, serial) given

pub taken_as : (k new : Kept) (id : ℕ) (chain : List Decree) → (was_given k id ≡ true → was_given new id ≡ true) → IsTakenIfAny k id chain →
    IsTakenIfAny new id chain
taken_as k new id [] given taken = tt
taken_as k new id (newest ∷ older) given taken = record { message = taken.message; taken = taken.taken; given = given taken.given }

pub fresh_as : (k new : Kept) (id place : ℕ) → message_at new id ≡ message_at k id → new.records (slot_at id place) ≡ k.records (slot_at id place) →
    IsFresh k id place → IsFresh new id place
fresh_as k new id place message records fresh = record {
  record_is = records ∙ fresh.record_is;
  seen = ap (λ (m : Message). get_or m.seen place 0) message ∙ fresh.seen;
  ungranted = ap (λ (m : Message). m.granted place) message ∙ fresh.ungranted;
  unclosed = ap (λ (m : Message). m.closed place) message ∙ fresh.unclosed;
}

pub ready_as : (k new : Kept) (id : ℕ) (chain : List Decree) → message_at new id ≡ message_at k id →
    ((place : ℕ) → new.records (slot_at id place) ≡ k.records (slot_at id place)) → IsReady k id chain → IsReady new id chain
ready_as k new id chain message records ready = record {
  known = ap (λ (m : Message). m.known) message ∙ ready.known;
  idle = ap (λ (m : Message). m.round) message ∙ ready.idle;
  votes = votes_as k.records new.records id chain (λ place below. records place) ready.votes;
  beyond = λ place from. fresh_as k new id place message (records place) (ready.beyond place from);
}

pub rest_as : (k new : Kept) (id : ℕ) (entry : Entry) → message_at new id ≡ message_at k id →
    ((place : ℕ) → new.records (slot_at id place) ≡ k.records (slot_at id place)) → (was_given k id ≡ true → was_given new id ≡ true) →
    IsAtRest k id entry → IsAtRest new id entry
rest_as k new id entry message records given rest = record {
  ready = ready_as k new id entry.chain message records rest.ready;
  taken = taken_as k new id entry.chain given rest.taken;
  granted = ap (λ (m : Message). m.granted (pred (length entry.chain))) message ∙ rest.granted;
  unclosed = ap (λ (m : Message). m.closed (pred (length entry.chain))) message ∙ rest.unclosed;
}

pub rest_but : (id : ℕ) (k new : Kept) → IsSameBut id k new → (other : ℕ) → (other ≡ id → ⊥) → (entry : Entry) → IsAtRest k other entry →
    IsAtRest new other entry
rest_but id k new same other apart entry rest =
    rest_as k new other entry (same.message other apart) (same.records other apart) (given_as k new other same.incarnation same.serial) rest

-- each message is at rest with the table in which one entry is another
pub each_at_rest : (k : Kept) (table : Table) (id : ℕ) (entry : Entry) → IsAtRest k id entry →
    ((other : ℕ) → (other ≡ id → ⊥) → IsAtRest k other (entry_at table other)) → (other : ℕ) → IsAtRest k other (entry_at (with_entry table id entry) other)
each_at_rest k table id entry now before other = by_id (other == id) refl
  where
    by_id : (same : Bool) → (other == id) ≡ same → IsAtRest k other (entry_at (with_entry table id entry) other)
    by_id true same =
        let is : other ≡ id = eqb-true other id same in
        subst (λ (i : ℕ). IsAtRest k i (entry_at (with_entry table id entry) i)) (sym is) (subst (IsAtRest k id) (sym (entry_here table id entry)) now)
    by_id false differs =
        let apart : other ≡ id → ⊥ = eqb-false other id differs in
        subst (IsAtRest k other) (sym (entry_elsewhere table id other entry apart)) (before other apart)
