-- The messages that the code keeps, as a list of the model's, and their records.
use Rattle.std.proofs.Common.{◌≡◌, ℕ, Bool, true, false, cond, List, [], ◌∷◌, map, Option, Some, refl, sym, ap, subst, ◌∙◌, ◌<◌, inl, inr, arith}
use Rattle.std.specs.Prelude.{◌==◌, option_map, if◌then◌else◌}
use Rattle.std.specs.Map.{keys_of, lookup}
use Rattle.std.specs.Ordering.{nat_cmp, match_ordering}
use Rattle.std.specs.declared.cmp.Ordering.{Ordering}
use Rattle.std.specs.declared.cmp.Ordering.TheVariants.{Less, Equal, Greater}
use Rattle.std.specs.BTreeMap.{insert_entry, is_at}
use Rattle.std.proofs.lemmas.Bool.{and_parts, cases_Bool, eq-eqb, true≢false}
use Rattle.std.proofs.lemmas.Bool.Decides.{Decides-eqb, nat_tests}
use Rattle.mc_model.specs.synod.Packet.{Slot, same_slot, slot_at}
use Rattle.mc_model.specs.synod.Acceptor.{SlotRecord, with_record}
use Rattle.node_model.specs.Message.{Message}
use Rattle.mc_model.specs.node.Setup.{Setup}
use Rattle.node_model.proofs.Records.{same_record}
use Rattle.node_model.proofs.Places.{here, elsewhere}
use Rattle.shelf.specs.Shelved.{value_at, with_value}
use Rattle.synod_acceptor.specs.Records.{record_at}
use Rattle.node_model.proofs.Keys.{same_key}
use Rattle.node_parts.specs.declared.message.Message.{Message as Filed}
use Rattle.node_parts.specs.Messages.{IsOf, message_of}
use Rattle.node_parts.specs.Rising.{AreRising}
use Rattle.node_parts.proofs.Living.{listed_key}
use Rattle.node_parts.proofs.Rising.{each}
use Rattle.node_kept.specs.Keeping.{AreOf, acceptor_in, filed_as, records_of}

-- ---- what is kept of an id

pub message_looked_up : (entries : List (ℕ × Filed)) (id : ℕ) →
    lookup (is_at (nat_cmp id)) (map filed_as entries) ≡ option_map (message_of id) (value_at entries id)
message_looked_up [] id = refl
message_looked_up (e ∷ es) id = by_test (is_at (nat_cmp id) e.0) refl (message_looked_up es id)
  where
    by_test : (test : Bool) → is_at (nat_cmp id) e.0 ≡ test → lookup (is_at (nat_cmp id)) (map filed_as es) ≡ option_map (message_of id) (value_at es id) →
        cond test (Some (message_of e.0 e.1)) (lookup (is_at (nat_cmp id)) (map filed_as es)) ≡ option_map (message_of id)
        (cond test (Some e.1) (value_at es id))
    by_test true is rest = ap (λ (key : ℕ). Some (message_of key e.1)) (sym (same_key id e.0 is))
    by_test false differs rest = rest

-- ---- a message in the place of what was kept of its id

pub message_put : (entries : List (ℕ × Filed)) (id : ℕ) (m : Filed) →
    map filed_as (with_value entries id m) ≡ insert_entry nat_cmp (map filed_as entries) id (message_of id m)
message_put [] id m = refl
message_put (e ∷ es) id m = at_order (nat_cmp id e.0) refl (message_put es id m)
  where
    at_order : (o : Ordering) → nat_cmp id e.0 ≡ o → map filed_as (with_value es id m) ≡ insert_entry nat_cmp (map filed_as es) id (message_of id m) →
        map filed_as (match_ordering o ((id, m) ∷ e ∷ es) ((e.0, m) ∷ es) (e ∷ with_value es id m))
        ≡ match_ordering o ((id, message_of id m) ∷ filed_as e ∷ map filed_as es) ((e.0, message_of id m) ∷ map filed_as es)
        (filed_as e ∷ insert_entry nat_cmp (map filed_as es) id (message_of id m))
    at_order Less is rest = refl
    at_order Equal is rest =
        let same : e.0 ≡ id = grind (arith, nat_tests) in
        ap (λ (key : ℕ). (e.0, message_of key m) ∷ map filed_as es) same
    at_order Greater is rest = ap (λ (others : List (ℕ × Message)). filed_as e ∷ others) rest

-- one that is kept, in its own place
pub put_same : (entries : List (ℕ × Filed)) (id : ℕ) (m : Filed) → AreRising (keys_of entries) → value_at entries id ≡ Some m → with_value entries id m ≡ entries
put_same [] id m rise found = absurd (cc)
put_same (e ∷ es) id m rise found = at_order (nat_cmp id e.0) refl found (put_same es id m rise.1)
  where
    at_order : (o : Ordering) → nat_cmp id e.0 ≡ o → value_at (e ∷ es) id ≡ Some m → (value_at es id ≡ Some m → with_value es id m ≡ es) →
        match_ordering o ((id, m) ∷ e ∷ es) ((e.0, m) ∷ es) (e ∷ with_value es id m) ≡ e ∷ es
    at_order Less is at rest = elim (listed_key (e ∷ es) id m at) [
      | inl same ↦ absurd (let below : id < e.0 = grind (arith, nat_tests) in omega (arith, below, same))
      | inr later ↦
          let below : id < e.0 = grind (arith, nat_tests) in
          let above = each (λ (y : ℕ). e.0 < y) (keys_of es) rise.0 id later in
          absurd (omega (arith, below, above))
    ]
    at_order Equal is at rest =
        let it : Some e.1 ≡ Some m = rw is at at in
        let same : m ≡ e.1 = cc in
        ap (λ (n : Filed). (e.0, n) ∷ es) same
    at_order Greater is at rest = ap (λ (others : List (ℕ × Filed)). e ∷ others) (rest (rw is at at))

-- the records change in its slots alone
pub records_put : (entries : List (ℕ × Filed)) (id : ℕ) (m : Filed) (slot : Slot) (after : SlotRecord) → slot.id ≡ id →
    ((place : ℕ) → record_at m.acceptor (slot_at id place) ≡ with_record (records_of entries) slot after (slot_at id place)) →
    (other : Slot) → records_of (with_value entries id m) other ≡ with_record (records_of entries) slot after other
records_put entries id m slot after of is other = elim (cases_Bool (other.id == id)) [
  | inl same ↦
      let ids : other.id ≡ id = (Decides-eqb other.id id).0 same in
      let found : value_at (with_value entries id m) other.id ≡ Some m = subst
      (λ (key : ℕ). value_at (with_value entries id m) key ≡ Some m) (sym ids) (here id m entries) in
      let slots : slot_at id other.place ≡ other = λ i. slot_at (sym ids i) other.place in
      ap (λ (found : Option Filed). record_at (acceptor_in found) other) found
      ∙ subst (λ (s : Slot). record_at m.acceptor s ≡ with_record (records_of entries) slot after s) slots (is other.place)
  | inr differs ↦
      let apart : other.id ≡ id → ⊥ = λ ids. true≢false (sym (eq-eqb other.id id ids) ∙ differs) in
      let kept : value_at (with_value entries id m) other.id ≡ value_at entries other.id = elsewhere id m other.id apart entries in
      ap (λ (found : Option Filed). record_at (acceptor_in found) other) kept
      ∙ ap (λ (test : Bool). if test then after else records_of entries other) (sym (not_same apart))
]
  where
    not_same : (other.id ≡ id → ⊥) → same_slot other slot ≡ false
    not_same apart = elim (cases_Bool (same_slot other slot)) [
      | inl same ↦ absurd (apart ((Decides-eqb other.id slot.id).0 (and_parts (other.id == slot.id) (other.place == slot.place) same).0 ∙ of))
      | inr differs ↦ differs
    ]

-- ---- the node of messages

pub own_at : (setup : Setup) (starts : ℕ) (entries : List (ℕ × Filed)) (id : ℕ) (m : Filed) → AreOf setup starts entries →
    value_at entries id ≡ Some m → IsOf setup.node starts setup.nodes id m
own_at setup starts [] id m own found = absurd (cc)
own_at setup starts (e ∷ es) id m own found = by_test (is_at (nat_cmp id) e.0) refl found (own_at setup starts es id m own.1)
  where
    by_test : (test : Bool) → is_at (nat_cmp id) e.0 ≡ test → cond test (Some e.1) (value_at es id) ≡ Some m →
        (value_at es id ≡ Some m → IsOf setup.node starts setup.nodes id m) → IsOf setup.node starts setup.nodes id m
    by_test true at is rest =
        let same : e.1 ≡ m = cc in
        let key : e.0 ≡ id = sym (same_key id e.0 at) in
        subst (λ (n : Filed). IsOf setup.node starts setup.nodes id n) same (subst (λ (i : ℕ). IsOf setup.node starts setup.nodes i e.1) key own.0)
    by_test false at is rest = rest is

pub own_put : (setup : Setup) (starts : ℕ) (entries : List (ℕ × Filed)) (id : ℕ) (m : Filed) → IsOf setup.node starts setup.nodes id m →
    AreOf setup starts entries → AreOf setup starts (with_value entries id m)
own_put setup starts [] id m is own = (is, tt)
own_put setup starts (e ∷ es) id m is own = at_order (nat_cmp id e.0) refl (own_put setup starts es id m is own.1)
  where
    at_order : (o : Ordering) → nat_cmp id e.0 ≡ o → AreOf setup starts (with_value es id m) →
        AreOf setup starts (match_ordering o ((id, m) ∷ e ∷ es) ((e.0, m) ∷ es) (e ∷ with_value es id m))
    at_order Less order rest = (is, own)
    at_order Equal order rest =
        let key : id ≡ e.0 = grind (arith, nat_tests) in (subst (λ (i : ℕ). IsOf setup.node starts setup.nodes i m) key is, own.1)
    at_order Greater order rest = (own.0, rest)

-- the records stay, if the message has the same
pub records_kept : (entries : List (ℕ × Filed)) (id : ℕ) (m : Filed) →
    ((place : ℕ) → record_at m.acceptor (slot_at id place) ≡ records_of entries (slot_at id place)) → (other : Slot) →
    records_of (with_value entries id m) other ≡ records_of entries other
records_kept entries id m is other =
    let first = slot_at id 0 in
    records_put entries id m first (records_of entries first) refl (λ place. is place ∙ same_record (records_of entries) first (slot_at id place)) other
    ∙ sym (same_record (records_of entries) first other)
