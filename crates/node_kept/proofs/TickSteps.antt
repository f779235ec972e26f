-- The step of a tick is the model's.
use Rattle.std.proofs.Common.{◌≡◌, ◌⊎◌, ◌+◌, ℕ, suc, ◌≤◌, ◌-◌, max, true, List, [], map, None, Option, sym, ap, subst, ◌∙◌, inl, inr, arith}
use Rattle.std.proofs.Math.Path.{fun_ext}
use Rattle.std.specs.Prelude.{◌++◌, filter, option_map}
use Rattle.mc_model.specs.synod.Packet.{Packet, Slot}
use Rattle.mc_model.specs.node.Outputs.{Outputs}
use Rattle.mc_model.specs.node.Reach.{Reach}
use Rattle.node_model.specs.Kept.{Held}
use Rattle.node_model.specs.Outputs.{nothing}
use Rattle.node_model.specs.Proposer.{Prepared}
use Rattle.node_model.specs.Ticks.{asked_again, ids_of, is_late, late_reply, on_tick, ticked}
use Rattle.waiting_requests.specs.Queues.{timely}
use Rattle.pdu_tables.specs.StatusCodes.{status_code}
use Rattle.waiting_requests.specs.Replying.{reply_given}
use Rattle.waiting_requests.specs.Waiting.{held_in}
use Rattle.synod_acceptor.specs.declared.record.Change.{Change}
use Rattle.node_parts.specs.declared.message.Message.{Message as Filed}
use Rattle.node_parts.specs.Messages.{changed_by}
use Rattle.node_kept.specs.declared.kept.Kept.{Kept as Holding}
use Rattle.node_kept.specs.declared.queue_change.QueueChange.{QueueChange}
use Rattle.node_kept.specs.declared.queue_change.QueueChange.TheVariants as changes
use Rattle.node_kept.specs.Queueing.{AreAsked, HasPlace, requeued}
use Rattle.node_kept.proofs.Answering.{none_made}
use Rattle.node_kept.proofs.TickTurns.{asked_timely}
use Rattle.node_kept.specs.declared.step.Step.{Step}
use Rattle.synod_acceptor.specs.Packets.{packet_of}
use Rattle.node_kept.specs.declared.turn_list.TurnList.{TurnList}
use Rattle.node_kept.specs.Keeping.{AreOf, filed_as, kept_of, records_of}
use Rattle.node_kept.specs.Steps.{Alters, HasRoom, IsStep, MayCount, counted_if, entries_after, granted_of, held_then, installed, kept_then, outputs_of, recorded_if, rested_if}
use Rattle.node_model.specs.Reported.{receipt_of}
use Rattle.node_kept.specs.Ticking.{IsTurned, entries_turned, kept_turned}

-- what serves for so many is room for them
pub room_serves : (have entries more room : ℕ) → (more ≤ have) ⊎ (entries + more ≤ room) → more ≤ max have (room - entries)
room_serves have entries more room (inl enough) = omega (arith, enough)
room_serves have entries more room (inr enough) = omega (arith, enough)

-- a step leaves and sends what a tick makes of the messages and of the requests that wait
pub record IsTickStep (k : Holding) (clock : ℕ) (turns : TurnList) (step : Step) : Type 0 where
  pub clock_is : step.next.clock ≡ clock
  pub serial : step.next.serial ≡ k.serial
  pub given : step.next.given ≡ k.given
  pub counted : step.next.counted ≡ None
  pub drops : step.next.drops_rounds ≡ true
  pub queue : step.next.queue ≡ changes.Expire clock
  pub messages : step.next.messages.items ≡ turns.messages.items
  pub room : HasRoom k.messages step.next
  pub ticket : step.outputs.ticket ≡ None
  pub refused : step.outputs.refused ≡ None
  pub packets : map packet_of step.outputs.packets.items ≡ asked_again k.setup (ticked (kept_of k) clock) ++ map packet_of turns.packets.items
  pub replies : map reply_given step.outputs.replies.items ≡ map late_reply (filter (is_late clock) (held_in k.queue))
  pub receipts : step.outputs.receipts.items ≡ []
  pub granted : step.outputs.granted ≡ None
  pub change : step.next.change ≡ None

module _ (k : Holding) (moment : ℕ) (reach : Reach) (turns : TurnList) (step : Step) (is : IsTickStep k (max k.clock moment) turns step)
    (turned : IsTurned k (max k.clock moment) reach (ids_of (ticked (kept_of k) (max k.clock moment))) turns) where
  abbrev Clock : ℕ
  Clock = max k.clock moment

  entries_then : (installed k step.next).messages.entries ≡ entries_turned k turns
  entries_then = λ i. recorded_if (is.change i) (entries_after (rested_if (is.drops i) (counted_if (is.counted i) k.messages.entries)) (is.messages i))

  saved_then : (slot : Slot) → records_of (installed k step.next).messages.entries slot ≡ records_of k.messages.entries slot
  saved_then slot = ap (λ (es : List (ℕ × Filed)). records_of es slot) entries_then ∙ turned.saved slot

  held_is : held_then k step.next ≡ timely Clock (held_in k.queue)
  held_is = ap (λ (change : QueueChange). requeued k.setup.nodes (held_in k.queue) change) is.queue

  all_kept : kept_then k step.next ≡ kept_turned k Clock turns
  all_kept = λ i. record (kept_of k) {
    records = fun_ext saved_then i;
    clock = is.clock_is i;
    serial = is.serial i;
    ticket = suc (is.given i);
    held = held_is i;
    messages = map filed_as (entries_then i);
  }

  abbrev given : List Packet → Outputs
  given packets = record nothing {
    packets = asked_again k.setup (ticked (kept_of k) Clock) ++ packets;
    replies = map late_reply (filter (is_late Clock) (held_in k.queue));
  }

  outputs_then : outputs_of step.outputs ≡ given (map packet_of turns.packets.items)
  outputs_then = λ i. record nothing {
    ticket = is.ticket i;
    refused = option_map status_code (is.refused i);
    packets = is.packets i;
    replies = is.replies i;
    receipts = map receipt_of (is.receipts i);
    granted = option_map granted_of (is.granted i);
  }

  pub ticked_step : IsStep k (on_tick k.setup (kept_of k) moment reach) step
  ticked_step = record {
    kept = all_kept ∙ sym (ap (λ (p : Prepared). p.kept) turned.made);
    outputs = outputs_then ∙ sym (ap (λ (p : Prepared). given p.packets) turned.made);
    saves = λ slot. saved_then slot ∙ sym (ap (λ (change : Option Change). changed_by change (records_of k.messages.entries) slot) is.change);
    alters = subst (λ (change : Option Change). Alters change (records_of k.messages.entries)) (sym is.change) tt;
    own = λ own. record {
      each = subst (AreOf k.setup k.incarnation) (sym entries_then) turned.own;
      asked = subst (λ (held : List Held). AreAsked k.setup.node k.incarnation (suc step.next.given) held) (sym held_is)
          (subst (λ (ticket : ℕ). AreAsked k.setup.node k.incarnation ticket (timely Clock (held_in k.queue))) (sym (ap suc is.given))
          (asked_timely k Clock own));
      serial = subst (λ (n : ℕ). 1 ≤ n) (sym is.serial) own.serial;
    };
    room = is.room;
    count = subst (MayCount k.messages.entries) (sym is.counted) tt;
    change = none_made k step.next is.change;
    place = subst (HasPlace k.queue) (sym is.queue) tt;
  }

-- at the clock of the code
pub ticked_at : (k : Holding) (moment clock : ℕ) (reach : Reach) (turns : TurnList) (step : Step) → clock ≡ max k.clock moment →
    IsTickStep k clock turns step →
    IsTurned k clock reach (ids_of (ticked (kept_of k) clock)) turns → IsStep k (on_tick k.setup (kept_of k) moment reach) step
ticked_at k moment clock reach turns step at is turned =
    ticked_step k moment reach turns step (subst (λ (c : ℕ). IsTickStep k c turns step) at is)
    (subst (λ (c : ℕ). IsTurned k c reach (ids_of (ticked (kept_of k) c)) turns) at turned)
