-- A step that gives nothing out and saves nothing is the model's, taken at once or prepared.
use Rattle.std.proofs.Common.{◌≡◌, ◌≤◌, ℕ, suc, List, map, Option, refl, sym, ap, subst, ◌∙◌, arith}
use Rattle.mc_model.specs.node.Input.{Delivery}
use Rattle.mc_model.specs.synod.Acceptor.{Records}
use Rattle.node_model.specs.Outputs.{Stepped}
use Rattle.node_model.specs.Stepped.{stepped}
use Rattle.synod_acceptor.specs.Packets.{packet_of}
use Rattle.synod_acceptor.specs.declared.packet.Packet.{Packet as Came}
use Rattle.synod_acceptor.specs.declared.record.Change.{Change}
use Rattle.node_parts.specs.Living.{Listed}
use Rattle.node_parts.specs.Messages.{changed_by}
use Rattle.node_parts.specs.declared.message.Message.{Message as Filed}
use Rattle.node_kept.specs.declared.kept.Kept.{Kept as Holding}
use Rattle.node_kept.specs.declared.step.QuietStep.{QuietStep}
use Rattle.node_kept.specs.declared.step.Step.{Step}
use Rattle.node_kept.specs.Keeping.{AreOf, AreOwn, filed_as, kept_of, records_of}
use Rattle.node_kept.specs.Steps.{Alters, IsCounting, IsQuietStep, IsStep, IsTakenQuietly, MayCount, counted_if, entries_after, entries_then, recorded_if, rested_if}
use Rattle.node_kept.proofs.Answering.{none_made}
use Rattle.node_kept.proofs.Queueing.{asked_same, held_same, place_same}

-- it is taken at once
pub taken_quietly : (k : Holding) (messages : Listed) (packet : Came) (quiet : QuietStep) → AreOwn k →
    IsQuietStep k (stepped k.setup (kept_of k) (Delivery (packet_of packet))) quiet → messages.entries ≡ counted_if quiet.counted k.messages.entries →
    IsTakenQuietly k packet (record k { messages = messages })
taken_quietly k messages packet quiet own is entries = let then = is.own own in record {
  kept = (λ i. record (kept_of k) { records = records_of (entries i); messages = map filed_as (entries i) }) ∙ is.kept;
  gives = is.gives;
  records = ap records_of entries ∙ is.records;
  own = record {
    each = subst (λ (es : List (ℕ × Filed)). AreOf k.setup k.incarnation es) (sym entries) then.each;
    asked = then.asked;
    serial = then.serial;
  };
  setup = refl;
  incarnation = refl;
}

-- it is prepared
pub prepared_quietly : (k : Holding) (to : Stepped) (quiet : QuietStep) (step : Step) → IsCounting k quiet.counted step → IsQuietStep k to quiet →
    IsStep k to step
prepared_quietly k to quiet step does is =
    let old = k.messages.entries in
    let entries : entries_then old step.next ≡ counted_if quiet.counted old =
    λ i. recorded_if (does.change i) (entries_after (rested_if (does.drops i) (counted_if (does.counted_is i) old)) (does.messages i)) in
    record {
      kept = (λ i. record (kept_of k) {
        records = records_of (entries i);
        clock = does.clock i;
        serial = does.serial i;
        ticket = suc (does.given i);
        held = held_same k step.next does.queue i;
        messages = map filed_as (entries i);
      }) ∙ is.kept;
      outputs = does.gives ∙ sym is.gives;
      saves = λ slot.
          ap (λ (es : List (ℕ × Filed)). records_of es slot) entries
          ∙ ap (λ (records : Records). records slot) is.records
          ∙ sym (ap (λ (change : Option Change). changed_by change (records_of old) slot) does.change);
      alters = subst (λ (change : Option Change). Alters change (records_of old)) (sym does.change) tt;
      own = λ own. record {
        each = subst (λ (es : List (ℕ × Filed)). AreOf k.setup k.incarnation es) (sym entries) (is.own own).each;
        asked = asked_same k step.next does.queue does.given own;
        serial = subst (λ (n : ℕ). 1 ≤ n) (sym does.serial) own.serial;
      };
      room = rw does.messages (omega arith, omega arith);
      place = place_same k.queue step.next.queue does.queue;
      count = subst (MayCount old) (sym does.counted_is) is.count;
      change = none_made k step.next does.change;
    }
