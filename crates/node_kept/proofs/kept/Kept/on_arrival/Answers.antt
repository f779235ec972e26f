use Rattle.std.proofs.Common.{◌≡◌, ◌∙◌, ℕ, map, ap, sym, option_map, subst, Some, suc}
use Rattle.std.specs.Box.{box_value}
use Rattle.node_model.specs.Kept.{Held}
use Rattle.std.specs.Prelude.{◌++◌, None, if◌then◌else◌}
use Rattle.mc_model.specs.node.Actor.{id_in}
use Rattle.node_model.specs.Requests.{asks, begun, id_of}
use Rattle.node_model.specs.Starts.{take_for}
use Rattle.node_model.specs.Ticks.{on_arrival, question}
use Rattle.waiting_requests.specs.Questions.{question_by}
use Rattle.synod_acceptor.specs.Packets.{packet_of}
use Rattle.node_parts.specs.Lists.{listed}
use Rattle.node_parts.specs.declared.outputs.Outputs.{Outputs}
use Rattle.node_model.specs.Reported.{receipt_of}
use Rattle.mc_model.specs.node.Effect.{next_serial}
use Rattle.waiting_requests.specs.Replying.{reply_given}
use Rattle.pdu_tables.specs.StatusCodes.{status_code}
use Rattle.waiting_requests.specs.Submits.{IsNumberedBy}
use Rattle.waiting_requests.specs.Waiting.{held_of, request_of}
use Rattle.tick_rules.specs.Standpoints.{start_of}
use Rattle.node_kept.specs.Steps.{IsStep, granted_of, outputs_of}
use Rattle.node_kept.specs.declared.queue_change.QueueChange.TheVariants as changes
use Rattle.node_kept.specs.Keeping.{kept_of}
use Rattle.node_kept.proofs.Arrivals.{arrives, sent_more}
use Rattle.node_kept.proofs.kept.Kept.on_arrival.Goals as goal

pub returns : goal.returns
returns c =
    let k = c.args.self.now in
    let request = request_of c.args.request in
    let begins : held_of c.begin-held.result ≡ begun (suc k.given) k.clock request = c.begin-held.ensures ∙
    (λ i. begun (c.next_ticket-ticket.ensures i) (c.clock.ensures i) request) in
    let is : held_of (box_value c.in_ok-held.held) ≡ begun (suc k.given) k.clock request = ap held_of c.in_ok-held.ensures.ok ∙ begins in
    let numbered = subst (λ (h : Held). IsNumberedBy k.setup.node k.incarnation h.waiting.request) (sym begins) c.requires.numbered in
    let start = c.in_ok-next.ensures.start k.setup (kept_of k) numbered ∙ ap (λ (h : Held). take_for k.setup (kept_of k) h h.waiting.request) begins in
    let id : c.id-id.result ≡ id_in request = c.id-id.ensures ∙ ap (λ (h : Held). id_of h) begins in
    let asked : option_map packet_of c.asked-question.result ≡
    (if asks request then Some (question k.setup (kept_of k) (begun (suc k.given) k.clock request)) else None) =
    c.asked-question.ensures ∙ (λ i. if asks (begins i).waiting.request then Some
    (question_by (c.node.ensures i) (c.incarnation.ensures i) (begins i)) else None) in
    let outputs : Outputs = record c.send.new.self { ticket = Some c.next_ticket-ticket.result } in
    let gives : outputs_of outputs ≡ record (outputs_of c.in_ok-step.step.outputs) {
      ticket = Some (suc k.given);
      packets = (outputs_of c.in_ok-step.step.outputs).packets ++ listed
          (if asks request then Some (question k.setup (kept_of k) (begun (suc k.given) k.clock request)) else None);
    } =
    (λ i. record {
      ticket = Some (c.next_ticket-ticket.ensures i);
      refused = option_map status_code (c.in_ok-send.ensures.refused i);
      packets = sent_more c.in_ok-step.step.outputs.packets.items c.send.new.self.packets.items c.asked-question.result
          (if asks request then Some (question k.setup (kept_of k)
          (begun (suc k.given) k.clock request)) else None) c.in_ok-send.ensures.packets asked i;
      replies = map reply_given (c.in_ok-send.ensures.replies i).items;
      receipts = map receipt_of (c.in_ok-send.ensures.receipts i).items;
      granted = option_map granted_of (c.in_ok-send.ensures.granted i);
    }) in
    let after = arrives k request c.in_ok-held.held is c.requires.own
    (option_map start_of c.in_ok-next.next) c.in_ok-step.step outputs start c.requires.room c.requires.numbered
    (rw id at c.in_ok-step.ensures.step) gives in
    subst (λ (serial : ℕ). IsStep k (on_arrival k.setup (kept_of k) request) (record {
      outputs = outputs;
      next = record c.in_ok-step.step.next { serial = serial; given = c.next_ticket-ticket.result; queue = changes.Push c.in_ok-held.held };
    })) (sym c.serial_after-serial.ensures)
    (subst (λ (given : ℕ). IsStep k (on_arrival k.setup (kept_of k) request) (record {
      outputs = outputs;
      next = record c.in_ok-step.step.next { serial = next_serial request k.serial; given = given; queue = changes.Push c.in_ok-held.held };
    })) (sym c.next_ticket-ticket.ensures) after)
