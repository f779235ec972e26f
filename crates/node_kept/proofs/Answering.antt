-- A step that answers by a verdict is the model's.
use Rattle.std.proofs.Common.{◌≡◌, ◌≤◌, suc, ℕ, Bool, true, List, [], ◌∷◌, map, Option, Some, None, refl, sym, ap, subst, ◌∙◌, arith}
use Rattle.std.proofs.Math.Path.{fun_ext}
use Rattle.std.specs.Prelude.{IfOk, Result, Ok, Err, option_map, if◌then◌else◌}
use Rattle.std.specs.Option.{unwrap_or}
use Rattle.std.specs.Ordering.{nat_cmp}
use Rattle.std.specs.BTreeMap.{insert_entry}
use Rattle.std.specs.List.Sorted.{IsStrictlySortedBy}
use Rattle.std.specs.Map.{keys_of}
use Rattle.mc_model.specs.synod.Packet.{Packet, Slot, same_slot, slot_at}
use Rattle.mc_model.specs.synod.Acceptor.{Records, SlotRecord, blank, with_record}
use Rattle.mc_model.specs.node.Setup.{Setup}
use Rattle.node_model.specs.Acceptor.{Judgement}
use Rattle.node_model.specs.Kept.{Kept, message_at, saved}
use Rattle.node_model.specs.Message.{Message, unseen}
use Rattle.node_model.specs.Outputs.{Stepped, leaves, nothing}
use Rattle.node_model.specs.Packets.{if_member, is_member, judged}
use Rattle.node_model.proofs.Places.{here}
use Rattle.node_model.proofs.Records.{same_record}
use Rattle.shelf.specs.Shelved.{value_at, with_value}
use Rattle.synod_acceptor.specs.Records.{record_at}
use Rattle.synod_acceptor.specs.Verdicts.{Changes}
use Rattle.synod_acceptor.specs.Votes.{record_of, slot_recorded}
use Rattle.synod_acceptor.proofs.Applied.{record_then}
use Rattle.synod_acceptor.specs.declared.acceptor.Verdict.{Verdict}
use Rattle.synod_acceptor.specs.declared.record.Change.{Change}
use Rattle.synod_acceptor.specs.declared.room.RecordRoom.{RecordRoom}
use Rattle.node_parts.specs.declared.message.Message.{Message as Filed}
use Rattle.node_parts.specs.Messages.{IsJudged, IsOf, changed_by, message_of}
use Rattle.node_parts.specs.Recording.{recorded_at, recorded_in}
use Rattle.node_parts.proofs.Recording.{recorded_there}
use Rattle.node_parts.proofs.Rising.{rise_of}
use Rattle.node_parts.proofs.Starting.{put_twice}
use Rattle.node_kept.specs.declared.kept.Kept.{Kept as Holding}
use Rattle.node_kept.specs.declared.step.Next.{Next}
use Rattle.node_kept.specs.declared.step.Step.{Step}
use Rattle.node_kept.specs.Keeping.{AreOf, IsTaken, acceptor_in, filed_as, kept_of, records_of}
use Rattle.node_kept.specs.Steps.{Alters, HasPlaceFor, HasRoom, IsAnswer, IsNext, IsStep, MayCount, MayRecord}
use Rattle.node_kept.specs.Steps.{counted_if, entries_after, entries_before, installed, kept_then, recorded_if, rested_if}
use Rattle.node_kept.proofs.Queueing.{asked_same, held_same, place_same}
use Rattle.node_kept.proofs.Entries.{message_looked_up, message_put, own_at, own_put, put_same, records_put}

-- ---- a message that is taken out

pub taken_there : (k : Holding) (id : ℕ) (m : Filed) → value_at k.messages.entries id ≡ Some m → IsTaken k id m
taken_there k id m found = record {
  own = λ own. own_at k.setup k.incarnation k.messages.entries id m own.each found;
  message = sym (ap (λ (o : Option Message). unwrap_or o unseen)
      (message_looked_up k.messages.entries id ∙ ap (λ (o : Option Filed). option_map (message_of id) o) found));
  records = λ place. ap (λ (o : Option Filed). record_at (acceptor_in o) (slot_at id place)) (sym found);
}

pub none_kept : (k : Holding) (id : ℕ) → value_at k.messages.entries id ≡ None → message_at (kept_of k) id ≡ unseen
none_kept k id none =
    ap (λ (o : Option Message). unwrap_or o unseen) (message_looked_up k.messages.entries id ∙ ap (λ (o : Option Filed). option_map (message_of id) o) none)

pub taken_fresh : (k : Holding) (id : ℕ) (m : Filed) → value_at k.messages.entries id ≡ None → message_of id m ≡ unseen →
    ((slot : Slot) → record_at m.acceptor slot ≡ blank) → IsOf k.setup.node k.incarnation k.setup.nodes id m → IsTaken k id m
taken_fresh k id m none is empty of = record {
  own = λ own. of;
  message = is ∙ sym (none_kept k id none);
  records = λ place. empty (slot_at id place) ∙ ap (λ (o : Option Filed). record_at (acceptor_in o) (slot_at id place)) (sym none);
}

-- ---- what is kept then

-- with these entries instead of its own
abbrev pub holding : Holding → List (ℕ × Filed) → Holding
holding k entries = record k { messages = record k.messages { entries = entries } }

pub none_made : (k : Holding) (next : Next) → next.change ≡ None → MayRecord (entries_before k.messages.entries next) next.change next.records
none_made k next none = subst (λ (change : Option Change). MayRecord (entries_before k.messages.entries next) change next.records) (sym none) tt

pub next_entries : (k : Holding) (id : ℕ) (m : Filed) (next : Next) → IsNext k id m next →
    (installed k next).messages.entries ≡ with_value k.messages.entries id m
next_entries k id m next is =
    (λ i. recorded_if (is.change i) (entries_after (rested_if (is.drops i) (counted_if next.counted k.messages.entries)) next.messages.items)) ∙ is.entries

-- it makes no change in place
pub next_records : (k : Holding) (id : ℕ) (m : Filed) (next : Next) → IsNext k id m next →
    MayRecord (entries_before k.messages.entries next) next.change next.records
next_records k id m next is = none_made k next is.change

pub nexts : (k : Holding) (id : ℕ) (m : Filed) (next : Next) → IsNext k id m next →
    kept_then k next ≡ kept_of (holding k (with_value k.messages.entries id m))
nexts k id m next is = let entries = next_entries k id m next is in λ i. record (kept_of k) {
  records = records_of (entries i);
  clock = is.clock i;
  serial = is.serial i;
  ticket = suc (is.given i);
  held = held_same k next is.queue i;
  messages = map filed_as (entries i);
}

-- ---- a verdict

-- the records after its change are those that it leaves
changed_is : (records : Records) (slot : Slot) (after : SlotRecord) (change : Option Change) → Changes slot (records slot) after change →
    (other : Slot) → changed_by change records other ≡ with_record records slot after other
changed_is records slot after None same other = same_record records slot other ∙ ap (λ (r : SlotRecord). with_record records slot r other) (sym same)
changed_is records slot after (Some change) is other =
    ap (λ (s : Slot). with_record records s (record_of change.after) other) is.0 ∙ ap (λ (r : SlotRecord). with_record records slot r other) is.1

-- and it changes one
alters_so : (records : Records) (slot : Slot) (after : SlotRecord) (change : Option Change) → Changes slot (records slot) after change → Alters change records
alters_so records slot after None same = tt
alters_so records slot after (Some change) is = λ same. is.2 (sym is.1 ∙ same ∙ ap records is.0)

-- ---- the change is made in what is kept of the message

abbrev changed_in : Filed → Option Change → Filed
changed_in m None = m
changed_in m (Some change) = recorded_in m change

message_changed : (id : ℕ) (m : Filed) (change : Option Change) → message_of id (changed_in m change) ≡ message_of id m
message_changed id m None = refl
message_changed id m (Some change) = refl

records_changed : (m : Filed) (slot : Slot) (after : SlotRecord) (change : Option Change) → Changes slot (record_at m.acceptor slot) after change →
    (other : Slot) → record_at (changed_in m change).acceptor other ≡ with_record (record_at m.acceptor) slot after other
records_changed m slot after None is other = changed_is (record_at m.acceptor) slot after None is other
records_changed m slot after (Some change) is other =
    record_then (slot_recorded change.after) (record_of change.after) m.acceptor other
    ∙ changed_is (record_at m.acceptor) slot after (Some change) is other

of_changed : (me starts nodes id : ℕ) (m : Filed) (change : Option Change) → IsOf me starts nodes id m → IsOf me starts nodes id (changed_in m change)
of_changed me starts nodes id m None of = of
of_changed me starts nodes id m (Some change) of = record {
  learner = of.learner;
  node = of.node;
  incarnation = of.incarnation;
  proposer = of.proposer;
  named = of.named;
  backed = of.backed;
}

change_made : (entries : List (ℕ × Filed)) (slot : Slot) (m : Filed) (old after : SlotRecord) (change : Option Change) →
    value_at entries slot.id ≡ Some m → with_value entries slot.id m ≡ entries → Changes slot old after change →
    recorded_if change entries ≡ with_value entries slot.id (changed_in m change)
change_made entries slot m old after None found same is = sym same
change_made entries slot m old after (Some change) found same is =
    ap (λ (s : Slot). recorded_at entries s.id change) is.0 ∙ recorded_there entries slot.id change m found

may_change : (entries : List (ℕ × Filed)) (slot : Slot) (m : Filed) (old after : SlotRecord) (change : Option Change) (room : RecordRoom) →
    value_at entries slot.id ≡ Some m → HasPlaceFor m change room → Changes slot old after change → MayRecord entries change room
may_change entries slot m old after None room found place is = tt
may_change entries slot m old after (Some change) room found place is = record {
  message = m;
  kept = ap (λ (s : Slot). value_at entries s.id) is.0 ∙ found;
  place = place;
}

-- the messages once that is put which was never heard of, if it was not; and the change is made then
module _ (k : Holding) (slot : Slot) (taken : Filed) (before : List (ℕ × Filed)) (judgement : SlotRecord → Judgement) (verdict : Verdict) (step : Step)
    (is_taken : IsTaken k slot.id taken) (is_judged : IsJudged taken slot (judgement (record_at taken.acceptor slot)) verdict)
    (is_answer : IsAnswer k taken verdict step) (puts : entries_after k.messages.entries step.next.messages.items ≡ before)
    (stands : value_at before slot.id ≡ Some taken) (same : with_value before slot.id taken ≡ before)
    (over : (m : Filed) → with_value before slot.id m ≡ with_value k.messages.entries slot.id m) (room : HasRoom k.messages step.next) where
  abbrev Entries : List (ℕ × Filed)
  Entries = k.messages.entries

  abbrev New : Filed
  New = changed_in taken verdict.change

  before_is : entries_before Entries step.next ≡ before
  before_is = (λ i. entries_after (rested_if (is_answer.drops i) (counted_if (is_answer.counted i) Entries)) step.next.messages.items) ∙ puts

  entries_new : (installed k step.next).messages.entries ≡ with_value Entries slot.id New
  entries_new =
      (λ i. recorded_if (is_answer.change i) (before_is i))
      ∙ change_made before slot taken _ _ verdict.change stands same is_judged.change
      ∙ over New

  same_here : record_at taken.acceptor slot ≡ records_of Entries slot
  same_here = is_taken.records slot.place

  abbrev Judged : Judgement
  Judged = judgement (records_of Entries slot)

  judged_here : judgement (record_at taken.acceptor slot) ≡ Judged
  judged_here = ap judgement same_here

  records_new : (place : ℕ) → record_at New.acceptor (slot_at slot.id place) ≡ with_record (records_of Entries) slot Judged.after (slot_at slot.id place)
  records_new place =
      records_changed taken slot _ verdict.change is_judged.change (slot_at slot.id place)
      ∙ ap (λ (j : Judgement). with_record (record_at taken.acceptor) slot j.after (slot_at slot.id place)) judged_here
      ∙ ap (λ (r : SlotRecord). if same_slot (slot_at slot.id place) slot then Judged.after else r) (is_taken.records place)

  records_then : (other : Slot) → records_of (with_value Entries slot.id New) other ≡ with_record (records_of Entries) slot Judged.after other
  records_then = records_put Entries slot.id New slot Judged.after refl records_new

  message_new : message_of slot.id New ≡ message_at (kept_of k) slot.id
  message_new = message_changed slot.id taken verdict.change ∙ is_taken.message

  kept_new : kept_of (holding k (with_value Entries slot.id New)) ≡ saved (kept_of k) slot Judged.after
  kept_new = λ i. record (kept_of k) {
    records = fun_ext records_then i;
    messages = (message_put Entries slot.id New ∙ ap (λ (m : Message). insert_entry nat_cmp (map filed_as Entries) slot.id m) message_new) i;
  }

  all_kept : kept_then k step.next ≡ kept_of (holding k (with_value Entries slot.id New))
  all_kept = λ i. record (kept_of k) {
    records = records_of (entries_new i);
    clock = is_answer.clock i;
    serial = is_answer.serial i;
    ticket = suc (is_answer.given i);
    held = held_same k step.next is_answer.queue i;
    messages = map filed_as (entries_new i);
  }

  change_is : Changes slot (records_of Entries slot) Judged.after verdict.change
  change_is = subst (λ (r : SlotRecord). Changes slot r (judgement r).after verdict.change) same_here is_judged.change

  answered : IsStep k (judged (kept_of k) slot Judged) step
  answered = record {
    kept = all_kept ∙ kept_new;
    outputs = is_answer.outputs ∙ ap (λ (packet : Packet). record nothing { packets = packet ∷ [] })
        (is_judged.answer ∙ ap (λ (j : Judgement). j.answer) judged_here);
    saves = λ other.
        ap (λ (es : List (ℕ × Filed)). records_of es other) entries_new
        ∙ records_then other
        ∙ sym (ap (λ (change : Option Change). changed_by change (records_of Entries) other) is_answer.change ∙ changed_is
        (records_of Entries) slot Judged.after verdict.change change_is other);
    alters = subst (λ (change : Option Change). Alters change (records_of Entries)) (sym is_answer.change)
        (alters_so (records_of Entries) slot Judged.after verdict.change change_is);
    own = λ own. record {
      each = subst (λ (es : List (ℕ × Filed)). AreOf k.setup k.incarnation es) (sym entries_new)
          (own_put k.setup k.incarnation Entries slot.id New
          (of_changed k.setup.node k.incarnation k.setup.nodes slot.id taken verdict.change (is_taken.own own)) own.each);
      asked = asked_same k step.next is_answer.queue is_answer.given own;
      serial = subst (λ (n : ℕ). 1 ≤ n) (sym is_answer.serial) own.serial;
    };
    room = room;
    place = place_same k.queue step.next.queue is_answer.queue;
    count = subst (MayCount Entries) (sym is_answer.counted) tt;
    change = subst (λ (es : List (ℕ × Filed)). MayRecord es step.next.change step.next.records) (sym before_is)
        (subst (λ (change : Option Change). MayRecord before change step.next.records) (sym is_answer.change)
        (may_change before slot taken _ _ verdict.change step.next.records stands is_answer.place is_judged.change));
  }

module _ (k : Holding) (slot : Slot) (taken : Filed) (judgement : SlotRecord → Judgement) (verdict : Verdict) (step : Step)
    (is_judged : IsJudged taken slot (judgement (record_at taken.acceptor slot)) verdict) (is_answer : IsAnswer k taken verdict step) where
  -- the message is kept
  pub answered_there : IsStrictlySortedBy nat_cmp (keys_of k.messages.entries) → value_at k.messages.entries slot.id ≡ Some taken →
      step.next.messages.items ≡ [] → IsStep k (judged (kept_of k) slot (judgement (records_of k.messages.entries slot))) step
  answered_there ascends found none =
      answered k slot taken k.messages.entries judgement verdict step (taken_there k slot.id taken found) is_judged is_answer
      (ap (entries_after k.messages.entries) none) found (put_same k.messages.entries slot.id taken (rise_of _ ascends) found) (λ m. refl)
      (rw none (omega arith, omega arith))

  -- it was never heard of
  pub answered_first : IsTaken k slot.id taken →
      entries_after k.messages.entries step.next.messages.items ≡ with_value k.messages.entries slot.id taken → HasRoom k.messages step.next →
      IsStep k (judged (kept_of k) slot (judgement (records_of k.messages.entries slot))) step
  answered_first is_taken puts room =
      answered k slot taken (with_value k.messages.entries slot.id taken) judgement verdict step is_taken is_judged is_answer puts
      (here slot.id taken k.messages.entries) (put_twice k.messages.entries slot.id taken taken)
      (λ m. put_twice k.messages.entries slot.id taken m) room

-- what is said of a step in two clauses
pub if_both : {T E : Type 0} (r : Result T E) (P Q R : T → Type 0) → ((x : T) → P x → Q x → R x) → IfOk r P → IfOk r Q → IfOk r R
if_both (Ok x) P Q R so p q = so x p q
if_both (Err e) P Q R so p q = tt

-- ---- what comes from a node of the cluster

pub of_member : (setup : Setup) (k : Kept) (sender : ℕ) (to : Stepped) → is_member setup sender ≡ true → to ≡ if_member setup k sender to
of_member setup k sender to is = sym (ap (λ (test : Bool). if test then to else leaves k) is)
