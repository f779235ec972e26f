-- A step that answers for one message is the model's, whatever is kept of others.
use Rattle.std.proofs.Common.{◌≡◌, ◌≤◌, lit≤, ℕ, Bool, inl, inr, true, List, [], length, Option, Some, None, sym, ap, subst, ◌∙◌}
use Rattle.std.specs.Prelude.{IfOk, Result, Ok, Err, option_map, if◌then◌else◌}
use Rattle.std.specs.List.{AllByRecursion}
use Rattle.std.specs.Option.{unwrap_or}
use Rattle.std.proofs.lemmas.Bool.{cases_Bool}
use Rattle.mc_model.specs.synod.Acceptor.{SlotRecord}
use Rattle.mc_model.specs.synod.OneSlot.{Vote}
use Rattle.mc_model.specs.synod.Packet.{Packet, Prepare, Propose, Slot, slot_at}
use Rattle.mc_model.specs.node.Input.{Delivery}
use Rattle.mc_model.specs.node.Setup.{Setup}
use Rattle.node_model.specs.Acceptor.{Judgement}
use Rattle.node_model.specs.Kept.{Kept, message_at}
use Rattle.node_model.specs.Message.{Message, unseen}
use Rattle.node_model.specs.Outputs.{Stepped}
use Rattle.node_model.specs.Packets.{if_member, is_member, judged, on_packet, on_prepare, on_propose}
use Rattle.node_model.specs.Stepped.{stepped}
use Rattle.shelf.specs.Shelved.{value_at}
use Rattle.synod_acceptor.specs.Records.{record_at}
use Rattle.synod_acceptor.specs.Verdicts.{Changes}
use Rattle.synod_acceptor.specs.declared.acceptor.Verdict.{Verdict}
use Rattle.synod_acceptor.specs.declared.record.Change.{Change}
use Rattle.node_parts.specs.declared.message.Message.{Message as Filed}
use Rattle.node_parts.specs.declared.message_room.MessageRoom.{MessageRoom}
use Rattle.node_parts.specs.Lists.{listed}
use Rattle.node_parts.specs.Messages.{IsJudged, IsOf, message_of}
use Rattle.node_parts.specs.Recording.{id_changed}
use Rattle.node_kept.specs.declared.kept.Kept.{Kept as Holding}
use Rattle.node_kept.specs.declared.step.Put.{Put}
use Rattle.node_kept.specs.declared.step.Step.{Step}
use Rattle.node_kept.specs.Grouping.{IsAlike, IsAlone, IsOfOne, asked_by, roomed}
use Rattle.node_kept.specs.Keeping.{AreOwn, IsTaken, acceptor_in, kept_of}
use Rattle.node_kept.specs.Steps.{IsAnswer, IsStep, PutsOne}
use Rattle.node_kept.proofs.Answering.{answered_first, answered_there, of_member}
use Rattle.node_kept.proofs.Entries.{message_looked_up}

change_of : (slot : Slot) (old after : SlotRecord) (change : Option Change) → Changes slot old after change →
    AllByRecursion (λ (change : Change). id_changed change ≡ slot.id) (listed change)
change_of slot old after None is = tt
change_of slot old after (Some change) is = (ap (λ (s : Slot). s.id) is.0, tt)

message_alike : (id : ℕ) (k other : Holding) → IsAlike id k other → message_at (kept_of other) id ≡ message_at (kept_of k) id
message_alike id k other alike =
    ap (λ (o : Option Message). unwrap_or o unseen)
    (message_looked_up other.messages.entries id
    ∙ ap (λ (o : Option Filed). option_map (message_of id) o) alike.message
    ∙ sym (message_looked_up k.messages.entries id))

taken_alike : (id : ℕ) (k other : Holding) (m : Filed) → AreOwn k → IsAlike id k other → IsTaken k id m → IsTaken other id m
taken_alike id k other m own alike is = record {
  own = λ others_own. subst (λ (s : Setup). IsOf s.node other.incarnation s.nodes id m) (sym alike.setup)
      (subst (λ (starts : ℕ). IsOf k.setup.node starts k.setup.nodes id m) (sym alike.incarnation) (is.own own));
  message = is.message ∙ sym (message_alike id k other alike);
  records = λ place. is.records place ∙ ap (λ (o : Option Filed). record_at (acceptor_in o) (slot_at id place)) (sym alike.message);
}

module _ (k : Holding) (slot : Slot) (taken : Filed) (judgement : Setup → SlotRecord → Judgement) (verdict : Verdict) (step : Step)
    (is_judged : IsJudged taken slot (judgement k.setup (record_at taken.acceptor slot)) verdict) (is_answer : IsAnswer k taken verdict step) where
  abbrev To : Setup → Kept → Stepped
  To setup kept = judged kept slot (judgement setup (kept.records slot))

  judged_alike : (other : Holding) → IsAlike slot.id k other → IsJudged taken slot (judgement other.setup (record_at taken.acceptor slot)) verdict
  judged_alike other alike = subst (λ (s : Setup). IsJudged taken slot (judgement s (record_at taken.acceptor slot)) verdict) (sym alike.setup) is_judged

  answer_alike : (other : Holding) (room : Option MessageRoom) → IsAlike slot.id k other → IsAnswer other taken verdict (roomed step room)
  answer_alike other room alike = record {
    outputs = is_answer.outputs;
    change = is_answer.change;
    place = is_answer.place;
    clock = is_answer.clock ∙ sym alike.clock;
    serial = is_answer.serial ∙ sym alike.serial;
    given = is_answer.given ∙ sym alike.given;
    counted = is_answer.counted;
    drops = is_answer.drops;
    queue = is_answer.queue;
  }

  of_one : AllByRecursion (λ (put : Put). put.id ≡ slot.id) step.next.messages.items → length step.next.messages.items ≤ 1 → IsOfOne slot.id k step.next
  of_one puts once = record {
    clock = is_answer.clock;
    serial = is_answer.serial;
    given = is_answer.given;
    counted = is_answer.counted;
    drops = is_answer.drops;
    queue = is_answer.queue;
    puts = puts;
    once = once;
    changes = subst (λ (change : Option Change). AllByRecursion (λ (change : Change). id_changed change ≡ slot.id) (listed change)) (sym is_answer.change)
        (change_of slot _ _ verdict.change is_judged.change);
  }

  -- the message is kept
  pub alone_there : value_at k.messages.entries slot.id ≡ Some taken → step.next.messages.items ≡ [] → IsAlone slot.id k To step
  alone_there found none = record {
    of = of_one (subst (λ (puts : List Put). AllByRecursion (λ (put : Put). put.id ≡ slot.id) puts) (sym none) tt)
        (subst (λ (puts : List Put). length puts ≤ 1) (sym none) (lit≤ tt));
    is = λ other alike room has. answered_there other slot taken (judgement other.setup) verdict (roomed step room) (judged_alike other alike)
        (answer_alike other room alike) alike.ascend (alike.message ∙ found) none;
  }

  -- it was never heard of
  pub alone_first : AreOwn k → IsTaken k slot.id taken → PutsOne slot.id taken step.next.messages.items → IsAlone slot.id k To step
  alone_first own is_taken puts = record {
    of = of_one puts.ids puts.once;
    is = λ other alike room has. answered_first other slot taken (judgement other.setup) verdict (roomed step room) (judged_alike other alike)
        (answer_alike other room alike) (taken_alike slot.id k other taken own alike is_taken) (puts.entries other.messages.entries) has;
  }

-- ---- what comes from a node of the cluster

module _ (id : ℕ) (k : Holding) (sender : ℕ) (to : Setup → Kept → Stepped) (step : Step) (member : is_member k.setup sender ≡ true) where
  pub alone_of_member : IsAlone id k to step → IsAlone id k (λ setup kept. if_member setup kept sender (to setup kept)) step
  alone_of_member alone = record {
    of = alone.of;
    is = λ other alike room has. subst (λ (s : Stepped). IsStep other s (roomed step room))
        (of_member other.setup (kept_of other) sender (to other.setup (kept_of other)) (ap (λ (s : Setup). is_member s sender) alike.setup ∙ member))
        (alone.is other alike room has);
  }

-- who asks is a member, and of this message
pub asks_member : (setup : Setup) (sender : ℕ) (slot : Slot) (id : ℕ) → asked_by setup sender slot ≡ Some id → (is_member setup sender ≡ true) × (slot.id ≡ id)
asks_member setup sender slot id asks = elim (cases_Bool (is_member setup sender)) [
  | inl member ↦
      let is : Some slot.id ≡ Some id = sym (ap (λ (b : Bool). if b then Some slot.id else None) member) ∙ asks in
      (member, cc)
  | inr stranger ↦
      let is : None ≡ Some id = sym (ap (λ (b : Bool). if b then Some slot.id else None) stranger) ∙ asks in
      absurd (cc)
]

module _ {T E : Type 0} where
  pub if_more : (r : Result T E) (P Q : T → Type 0) → ((x : T) → P x → Q x) → IfOk r P → IfOk r Q
  if_more (Ok x) P Q so is = so x is
  if_more (Err e) P Q so is = tt

-- it is the step of a packet that comes
alone_delivered : (id : ℕ) (k : Holding) (packet : Packet) (step : Step) → IsAlone id k (λ setup kept. on_packet setup kept packet) step →
    IsAlone id k (λ setup kept. stepped setup kept (Delivery packet)) step
alone_delivered id k packet step alone = record { of = alone.of; is = λ other alike room has. alone.is other alike room has }

module _ (k : Holding) (sender : ℕ) (slot : Slot) (id : ℕ) (step : Step) (asks : asked_by k.setup sender slot ≡ Some id) where
  by : (is_member k.setup sender ≡ true) × (slot.id ≡ id)
  by = asks_member k.setup sender slot id asks

  pub alone_prepare : (ballot : ℕ) → IsAlone slot.id k (λ setup kept. on_prepare setup kept slot ballot) step →
      IsAlone id k (λ setup kept. stepped setup kept (Delivery (Prepare sender slot ballot))) step
  alone_prepare ballot alone =
      subst (λ (i : ℕ). IsAlone i k (λ setup kept. stepped setup kept (Delivery (Prepare sender slot ballot))) step) by.1
      (alone_delivered slot.id k (Prepare sender slot ballot) step
      (alone_of_member slot.id k sender (λ setup kept. on_prepare setup kept slot ballot) step by.0 alone))

  pub alone_propose : (vote : Vote) → IsAlone slot.id k (λ setup kept. on_propose setup kept slot vote) step →
      IsAlone id k (λ setup kept. stepped setup kept (Delivery (Propose sender slot vote))) step
  alone_propose vote alone =
      subst (λ (i : ℕ). IsAlone i k (λ setup kept. stepped setup kept (Delivery (Propose sender slot vote))) step) by.1
      (alone_delivered slot.id k (Propose sender slot vote) step
      (alone_of_member slot.id k sender (λ setup kept. on_propose setup kept slot vote) step by.0 alone))
