-- A step that keeps a message and saves nothing is the model's.
use Rattle.std.proofs.Common.{◌≡◌, ◌≤◌, ℕ, Bool, true, false, List, [], ◌∷◌, map, Option, Some, None, refl, sym, ap, subst, ◌∙◌}
use Rattle.std.proofs.Math.Path.{fun_ext}
use Rattle.std.specs.Prelude.{◌==◌, ◌&&◌, option_map, if◌then◌else◌}
use Rattle.std.proofs.lemmas.Bool.{true≢false}
use Rattle.std.specs.Ordering.{nat_cmp}
use Rattle.std.specs.BTreeMap.{insert_entry}
use Rattle.mc_model.specs.synod.Ballot.{incarnation_in, proposer_of}
use Rattle.mc_model.specs.synod.OneSlot.{Vote}
use Rattle.mc_model.specs.synod.Packet.{Packet, Propose, Slot, slot_at}
use Rattle.mc_model.specs.node.Outputs.{Outputs}
use Rattle.mc_model.specs.node.Setup.{Setup}
use Rattle.node_model.specs.Kept.{Kept, message_at, with_message}
use Rattle.node_model.specs.Message.{Message, Round}
use Rattle.node_model.specs.Outputs.{Stepped, leaves, nothing, sends}
use Rattle.node_model.specs.Packets.{on_promise, on_refused, promised_in, proposals}
use Rattle.node_model.specs.Proposer.{completes, is_own_ballot, offered, promised_by, refused, runs_at}
use Rattle.synod_acceptor.specs.Packets.{packet_of}
use Rattle.synod_acceptor.specs.Records.{record_at}
use Rattle.synod_acceptor.specs.declared.packet.Packet.{Packet as Cast}
use Rattle.synod_acceptor.specs.declared.record.Change.{Change}
use Rattle.shelf.specs.Shelved.{with_value}
use Rattle.node_parts.specs.Proposing.{counted_in, is_own, proposed_in}
use Rattle.node_parts.specs.declared.message.Message.{Message as Filed}
use Rattle.node_parts.specs.Messages.{IsOfSame, IsPromised, IsRefused, changed_by, message_of}
use Rattle.node_parts.specs.Lists.{listed}
use Rattle.node_kept.specs.declared.kept.Kept.{Kept as Holding}
use Rattle.node_kept.specs.declared.step.Counted.{Counted}
use Rattle.node_kept.specs.declared.step.Step.{Step}
use Rattle.node_kept.specs.Keeping.{AreOf, AreOwn, IsAs, IsTaken, filed_as, kept_of, records_of}
use Rattle.node_kept.specs.Steps.{Alters, IsLeft, IsQuietStep, IsStep, MayCount, counted_if, giving}
use Rattle.node_kept.proofs.Answering.{holding, next_entries, next_records, nexts}
use Rattle.node_kept.proofs.Queueing.{asked_same, place_same}
use Rattle.node_kept.proofs.Entries.{message_put, own_put, records_kept}

-- a message that was taken out and changed
pub as_changed : (k : Holding) (id : ℕ) (old new : Filed) (was to : Message) → IsAs k id old was → IsOfSame id old new →
    message_of id new ≡ to →
    IsAs k id new to
as_changed k id old new was to is same message = record {
  own = λ own. same.of k.setup.node k.incarnation k.setup.nodes (is.own own);
  message = message;
  records = λ place. ap (λ a. record_at a (slot_at id place)) same.acceptor ∙ is.records place;
}

module _ (k : Holding) (id : ℕ) (new : Filed) (to : Message) (is : IsAs k id new to) where
  abbrev Entries : List (ℕ × Filed)
  Entries = k.messages.entries

  records_then : (other : Slot) → records_of (with_value Entries id new) other ≡ records_of Entries other
  records_then = records_kept Entries id new is.records

  kept_new : kept_of (holding k (with_value Entries id new)) ≡ with_message (kept_of k) id to
  kept_new = λ i. record (kept_of k) {
    records = fun_ext records_then i;
    messages = (message_put Entries id new ∙ ap (λ (m : Message). insert_entry nat_cmp (map filed_as Entries) id m) is.message) i;
  }

  -- it is kept by a vote that is counted anew
  pub put_quietly : (counted : Option Counted) → counted_if counted Entries ≡ with_value Entries id new → MayCount Entries counted →
      IsQuietStep k (leaves (with_message (kept_of k) id to)) (record { counted = counted })
  put_quietly counted entries may = record {
    kept = (λ i. record (kept_of k) { records = records_of (entries i); messages = map filed_as (entries i) }) ∙ kept_new;
    gives = refl;
    records = ap records_of entries ∙ fun_ext records_then;
    own = λ own. record {
      each = subst (λ (es : List (ℕ × Filed)). AreOf k.setup k.incarnation es) (sym entries)
          (own_put k.setup k.incarnation Entries id new (is.own own) own.each);
      asked = own.asked;
      serial = own.serial;
    };
    count = may;
  }

  pub left_as : (outputs : Outputs) (step : Step) → IsLeft k id new outputs step →
      IsStep k (record { kept = with_message (kept_of k) id to; outputs = outputs }) step
  left_as outputs step is_left = record {
    kept = nexts k id new step.next is_left.next ∙ kept_new;
    outputs = is_left.gives;
    saves = λ other.
        ap (λ (es : List (ℕ × Filed)). records_of es other) (next_entries k id new step.next is_left.next)
        ∙ records_then other
        ∙ sym (ap (λ (change : Option Change). changed_by change (records_of Entries) other) is_left.next.change);
    alters = subst (λ (change : Option Change). Alters change (records_of Entries)) (sym is_left.next.change) tt;
    own = λ own. record {
      each = subst (λ (es : List (ℕ × Filed)). AreOf k.setup k.incarnation es) (sym (next_entries k id new step.next is_left.next))
          (own_put k.setup k.incarnation Entries id new (is.own own) own.each);
      asked = asked_same k step.next is_left.next.queue is_left.next.given own;
      serial = subst (λ (n : ℕ). 1 ≤ n) (sym is_left.next.serial) own.serial;
    };
    room = is_left.next.room;
    count = is_left.next.count;
    change = next_records k id new step.next is_left.next;
    place = place_same k.queue step.next.queue is_left.next.queue;
  }

pub left : (k : Holding) (id : ℕ) (taken new : Filed) (to : Message) (outputs : Outputs) (step : Step) → IsTaken k id taken → IsOfSame id taken new →
    message_of id new ≡ to → IsLeft k id new outputs step → IsStep k (record { kept = with_message (kept_of k) id to; outputs = outputs }) step
left k id taken new to outputs step is_taken same is is_left =
    left_as k id new to (as_changed k id taken new (message_at (kept_of k) id) to is_taken same is) outputs step is_left

-- ---- a refusal

pub refused_own : (k : Holding) (slot : Slot) (ballot promised : ℕ) (taken new : Filed) (step : Step) → AreOwn k →
    is_own_ballot k.setup (kept_of k) ballot ≡ true → IsTaken k slot.id taken → IsRefused taken slot ballot promised new →
    IsLeft k slot.id new nothing step → IsStep k (on_refused k.setup (kept_of k) slot ballot promised) step
refused_own k slot ballot promised taken new step own test is_taken is_refused is_left =
    let of = is_taken.own own in
    let also : is_own taken.proposer ballot ≡ true = (λ i. (proposer_of ballot == of.node i) && (incarnation_in ballot == of.incarnation i)) ∙ test in
    let message = is_refused.message slot.id also ∙ ap (λ (m : Message). refused m slot ballot promised) is_taken.message in
    subst (λ (s : Stepped). IsStep k s step) (sym (ap
    (λ (b : Bool). if b then leaves (with_message (kept_of k) slot.id
    (refused (message_at (kept_of k) slot.id) slot ballot promised)) else leaves (kept_of k)) test))
    (left k slot.id taken new (refused (message_at (kept_of k) slot.id) slot ballot promised) nothing step is_taken (is_refused.same slot.id) message is_left)

-- ---- a promise

proposal_is : (setup : Setup) (r : Round) (sender : ℕ) (report : Option Vote) (test : Bool) →
    listed (if test then Some (Propose setup.node r.slot (offered (promised_by r sender report))) else None) ≡
    (if test then Propose setup.node r.slot (offered (promised_by r sender report)) ∷ [] else [])
proposal_is setup r sender report true = refl
proposal_is setup r sender report false = refl

promise_counted : (setup : Setup) (k : Kept) (m : Message) (round : Option Round) (sender : ℕ) (slot : Slot) (ballot : ℕ) (report : Option Vote) →
    runs_at round slot ballot ≡ true →
    sends (with_message k slot.id (record m { round = option_map (λ r. promised_by r sender report) round }))
    (listed (proposed_in setup.node setup.nodes round sender report)) [] [] ≡ promised_in setup k m round sender slot ballot report
promise_counted setup k m None sender slot ballot report test = absurd (true≢false (sym test))
promise_counted setup k m (Some r) sender slot ballot report test =
    ap (λ (packets : List Packet). sends (with_message k slot.id (record m { round = Some (promised_by r sender report) })) packets [] [])
    (proposal_is setup r sender report (completes setup.nodes r sender))
    ∙ sym (ap (λ (b : Bool). if b then sends (with_message k slot.id (record m { round = Some (promised_by r sender report) }))
    (proposals setup r sender report) [] [] else leaves k) test)

pub promised_here : (k : Holding) (sender : ℕ) (slot : Slot) (ballot : ℕ) (report : Option Vote) (taken new : Filed) (packet : Option Cast) (step : Step) →
    AreOwn k → runs_at (message_at (kept_of k) slot.id).round slot ballot ≡ true → IsTaken k slot.id taken →
    IsPromised taken sender ballot slot report new packet → IsLeft k slot.id new (giving (listed (option_map packet_of packet)) []) step →
    IsStep k (on_promise k.setup (kept_of k) sender slot ballot report) step
promised_here k sender slot ballot report taken new packet step own test is_taken is_promised is_left =
    let m = message_at (kept_of k) slot.id in
    let of = is_taken.own own in
    let runs : runs_at (message_of slot.id taken).round slot ballot ≡ true = ap (λ (n : Message). runs_at n.round slot ballot) is_taken.message ∙ test in
    let message = is_promised.message slot.id runs ∙ ap (λ (n : Message). counted_in n sender report) is_taken.message in
    let packets : option_map packet_of packet ≡ proposed_in k.setup.node k.setup.nodes m.round sender report =
    is_promised.proposes slot.id runs ∙ (λ i. proposed_in (of.node i) (of.proposer i) (is_taken.message i).round sender report) in
    subst (λ (s : Stepped). IsStep k s step) (promise_counted k.setup (kept_of k) m m.round sender slot ballot report test)
    (left k slot.id taken new (counted_in m sender report)
    (giving (listed (proposed_in k.setup.node k.setup.nodes m.round sender report)) []) step is_taken (is_promised.same slot.id) message
    (subst (λ (p : Option Packet). IsLeft k slot.id new (giving (listed p) []) step) packets is_left))
