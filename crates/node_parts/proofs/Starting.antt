-- A round that starts is the model's.
use Rattle.std.proofs.Common.{◌≡◌, ℕ, Bool, true, false, List, [], ◌∷◌, Option, Some, None, refl, ap, ◌∙◌, arith}
use Rattle.std.specs.Prelude.{◌&&◌, not, is_some, nat_lt, suc, if◌then◌else◌}
use Rattle.std.specs.Ordering.{match_ordering, nat_cmp}
use Rattle.std.specs.declared.cmp.Ordering.{Ordering}
use Rattle.std.specs.declared.cmp.Ordering.TheVariants.{Less, Equal, Greater}
use Rattle.std.specs.BTreeMap.{insert_entry}
use Rattle.std.proofs.lemmas.Bool.Decides.{nat_tests}
use Rattle.mc_model.specs.message.Decree.{Decree}
use Rattle.mc_model.specs.synod.Ballot.{ballot_of}
use Rattle.mc_model.specs.synod.Packet.{Prepare, Slot, slot_at}
use Rattle.mc_model.specs.synod.Acceptor.{Records}
use Rattle.mc_model.specs.node.Setup.{Setup}
use Rattle.node_model.specs.Kept.{Kept, with_message}
use Rattle.node_model.specs.Message.{Message}
use Rattle.node_model.specs.Proposer.{Prepared, Start, highest_round, last_round, started, started_at}
use Rattle.node_model.proofs.Places.{message_here}
use Rattle.node_parts.specs.Lists.{listed}
use Rattle.node_parts.specs.Messages.{may_start, next_round, prepare_from, with_start}

-- ---- one entry, put twice

pub put_twice : {V : Type 0} (es : List (ℕ × V)) (key : ℕ) (one other : V) →
    insert_entry nat_cmp (insert_entry nat_cmp es key one) key other ≡ insert_entry nat_cmp es key other
put_twice [] key one other = let same : nat_cmp key key ≡ Equal = grind (arith, nat_tests) in rw same refl
put_twice (e ∷ es) key one other = at_order (nat_cmp key e.0) refl (put_twice es key one other)
  where
    at_order : (o : Ordering) → nat_cmp key e.0 ≡ o →
        insert_entry nat_cmp (insert_entry nat_cmp es key one) key other ≡ insert_entry nat_cmp es key other →
        insert_entry nat_cmp (match_ordering o ((key, one) ∷ e ∷ es) ((e.0, one) ∷ es) (e ∷ insert_entry nat_cmp es key one)) key other
        ≡ match_ordering o ((key, other) ∷ e ∷ es) ((e.0, other) ∷ es) (e ∷ insert_entry nat_cmp es key other)
    at_order Less is rest = let same : nat_cmp key key ≡ Equal = grind (arith, nat_tests) in rw same refl
    at_order Equal is rest = rw is refl
    at_order Greater is rest = rw is (ap (λ (others : List _). e ∷ others) rest)

-- ---- a round that starts, by the records of its message alone

module _ (me starts : ℕ) (one other : Records) (m : Message) (id : ℕ) (same : (place : ℕ) → one (slot_at id place) ≡ other (slot_at id place)) where
  highest : (place : ℕ) → highest_round one m (slot_at id place) ≡ highest_round other m (slot_at id place)
  highest place = ap (λ r. highest_round (λ slot. r) m (slot_at id place)) (same place)

  pub start_same : (start : Option Start) → with_start me starts one m id start ≡ with_start me starts other m id start
  start_same None = refl
  start_same (Some start) =
      ap (λ (highest : ℕ). if not (is_some m.round) && nat_lt highest last_round
      then started_at m (slot_at id start.place) (suc highest) (ballot_of (suc highest) starts me) start.chain else m) (highest start.place)

  pub prepare_same : (start : Option Start) → prepare_from me starts one m id start ≡ prepare_from me starts other m id start
  prepare_same None = refl
  prepare_same (Some start) =
      ap (λ (highest : ℕ). if not (is_some m.round) && nat_lt highest last_round
      then Some (Prepare me (slot_at id start.place) (ballot_of (suc highest) starts me)) else None) (highest start.place)

-- what the model keeps and sends, once this is kept of the message
module _ (setup : Setup) (k : Kept) (id : ℕ) (m : Message) where
  abbrev pub started_so : Option Start → Prepared
  started_so start = record {
    kept = with_message k id (with_start setup.node k.incarnation k.records m id start);
    packets = listed (prepare_from setup.node k.incarnation k.records m id start);
  }

  abbrev ballot_for : Message → Slot → ℕ
  ballot_for n slot = ballot_of (next_round k.records n slot) k.incarnation setup.node

  abbrev begun : Message → Slot → List Decree → Prepared
  begun n slot chain = record {
    kept = with_message (with_message k id m) id (started_at n slot (next_round k.records n slot) (ballot_for n slot) chain);
    packets = Prepare setup.node slot (ballot_for n slot) ∷ [];
  }

  abbrev alone : Prepared
  alone = record { kept = with_message k id m; packets = [] }

  abbrev then_so : Slot → List Decree → Bool → Prepared
  then_so slot chain test = record {
    kept = with_message k id (if test then started_at m slot (next_round k.records m slot) (ballot_for m slot) chain else m);
    packets = listed (if test then Some (Prepare setup.node slot (ballot_for m slot)) else None);
  }

  by_test : (slot : Slot) (chain : List Decree) (test : Bool) → (if test then begun m slot chain else alone) ≡ then_so slot chain test
  by_test slot chain true = λ i. record {
    kept = record k { messages = put_twice k.messages id m (started_at m slot (next_round k.records m slot) (ballot_for m slot) chain) i };
    packets = Prepare setup.node slot (ballot_for m slot) ∷ [];
  }
  by_test slot chain false = refl

  pub started_with : (start : Option Start) → started setup (with_message k id m) id start ≡ started_so start
  started_with None = refl
  started_with (Some start) =
      let slot = slot_at id start.place in
      ap (λ (n : Message). if may_start k.records n slot then begun n slot start.chain else alone) (message_here k id m)
      ∙ by_test slot start.chain (may_start k.records m slot)
