-- A request that comes waits as in the model.
use Rattle.std.proofs.Common.{◌≡◌, ℕ, suc, Bool, true, false, List, [], ◌∷◌, ◌++◌, length, Option, Some, None, refl, sym, ap, subst, ◌∙◌, arith}
use Rattle.std.specs.Prelude.{map, option_map, if◌then◌else◌}
use Rattle.std.specs.Box.{box_value}
use Rattle.std.specs.Global.{Box}
use Rattle.std.proofs.lemmas.List.{map-append}
use Rattle.mc_model.specs.synod.Packet.{Packet, slot_at}
use Rattle.mc_model.specs.node.Actor.{Cancel, Query, Request, Submit, id_in}
use Rattle.mc_model.specs.node.Effect.{next_serial}
use Rattle.mc_model.specs.node.Outputs.{Outputs}
use Rattle.mc_model.specs.node.Room.{is_busy}
use Rattle.mc_model.specs.node.Setup.{Setup}
use Rattle.node_model.specs.Kept.{Held, Kept, message_at}
use Rattle.node_model.specs.Outputs.{Stepped, nothing}
use Rattle.node_model.specs.Proposer.{Prepared, Start, highest_round, is_free, prepared_at, started}
use Rattle.node_model.specs.Requests.{asks, begun, ticket_of}
use Rattle.node_model.specs.Starts.{take_for}
use Rattle.node_model.specs.Ticks.{begun_with, on_arrival, question, waits_too}
use Rattle.waiting_requests.specs.Submits.{IsNumberedBy}
use Rattle.waiting_requests.specs.Waiting.{Waits, held_in, held_of}
use Rattle.synod_acceptor.specs.Packets.{packet_of}
use Rattle.synod_acceptor.specs.declared.packet.Packet.{Packet as Cast}
use Rattle.node_parts.specs.declared.outputs.Outputs.{Outputs as Sent}
use Rattle.node_parts.specs.Lists.{listed}
use Rattle.node_kept.specs.declared.kept.Kept.{Kept as Holding}
use Rattle.node_kept.specs.declared.queue_change.QueueChange.TheVariants as changes
use Rattle.node_kept.specs.declared.step.Step.{Step}
use Rattle.node_kept.specs.Keeping.{AreOwn, kept_of}
use Rattle.node_kept.specs.Queueing.{IsSound}
use Rattle.node_kept.specs.Steps.{IsStep, outputs_of}
use Rattle.node_kept.specs.Telling.{started_alone}
use Rattle.mc_parts.proofs.Requests.{not_busy, serials}
use Rattle.node_kept.proofs.Queueing.{arrived_step}

-- of what is kept a round reads neither the requests that wait nor the numbers that were given
module _ (setup : Setup) (k : Kept) (serial ticket : ℕ) (held : List Held) (id : ℕ) where
  abbrev begun_at : Start → Prepared
  begun_at start = prepared_at setup k (slot_at id start.place) (suc (highest_round k.records (message_at k id) (slot_at id start.place))) start.chain

  abbrev not_begun : Prepared
  not_begun = record { kept = k; packets = [] }

  abbrev over : Prepared → Prepared
  over p = record { kept = record p.kept { serial = serial; ticket = ticket; held = held }; packets = p.packets }

  begun_if : (start : Start) (test : Bool) → (if test then over (begun_at start) else over not_begun) ≡ over (if test then begun_at start else not_begun)
  begun_if start true = refl
  begun_if start false = refl

  started_over : (start : Option Start) → started setup (record k { serial = serial; ticket = ticket; held = held }) id start ≡ over (started setup k id start)
  started_over None = refl
  started_over (Some start) = begun_if start (is_free k (slot_at id start.place))

module _ (k : Holding) (request : Request) (new : Box Waits) (is : held_of (box_value new) ≡ begun (suc k.given) k.clock request) (own : AreOwn k) where
  abbrev h : Held
  h = begun (suc k.given) k.clock request

  abbrev prepared : Option Start → Prepared
  prepared start = started k.setup (kept_of k) (id_in request) start

  abbrev asked : Option Packet
  asked = if asks request then Some (question k.setup (kept_of k) h) else None

  abbrev then_so : List Packet → Prepared → Stepped
  then_so packets p = record {
    kept = record p.kept { serial = next_serial request k.serial; ticket = suc (suc k.given); held = held_in k.queue ++ h ∷ [] };
    outputs = record nothing { ticket = Some (suc k.given); packets = packets };
  }

  -- a request that asks starts no round
  packets_are : (start : Option Start) → start ≡ take_for k.setup (kept_of k) h request →
      (prepared start).packets ++ listed asked ≡ (if asks request then question k.setup (kept_of k) h ∷ [] else []) ++ (prepared start).packets
  packets_are start is = by_request request is
    where
      none : (packets : List Packet) → packets ++ [] ≡ packets
      none [] = refl
      none (p ∷ ps) = ap (λ (others : List Packet). p ∷ others) (none ps)

      by_request : (r : Request) → start ≡ take_for k.setup (kept_of k) h r →
          (prepared start).packets ++ listed (if asks r then Some (question k.setup (kept_of k) h) else None)
          ≡ (if asks r then question k.setup (kept_of k) h ∷ [] else []) ++ (prepared start).packets
      by_request (Submit id message) starts = none (prepared start).packets
      by_request (Query id account source) starts =
          ap (λ (s : Option Start). (prepared s).packets ++ question k.setup (kept_of k) h ∷ []) starts
          ∙ sym (ap (λ (s : Option Start). question k.setup (kept_of k) h ∷ (prepared s).packets) starts)
      by_request (Cancel id account source destination) starts =
          ap (λ (s : Option Start). (prepared s).packets ++ question k.setup (kept_of k) h ∷ []) starts
          ∙ sym (ap (λ (s : Option Start). question k.setup (kept_of k) h ∷ (prepared s).packets) starts)

  arrives_so : (start : Option Start) → start ≡ take_for k.setup (kept_of k) h request →
      then_so ((prepared start).packets ++ listed asked) (prepared start) ≡ on_arrival k.setup (kept_of k) request
  arrives_so start starts =
      ap (λ (packets : List Packet). then_so packets (prepared start)) (packets_are start starts)
      ∙ sym (ap (begun_with k.setup (kept_of k) h)
      (started_over k.setup (kept_of k) (next_serial request k.serial) (suc (suc k.given)) (held_in k.queue ++ h ∷ []) (id_in request) start))
      ∙ ap (λ (s : Option Start). begun_with k.setup (kept_of k) h (started k.setup (waits_too (kept_of k) request h) (id_in request) s)) starts

  pub arrives : (start : Option Start) (step0 : Step) (outputs : Sent) → start ≡ take_for k.setup (kept_of k) h request →
      is_busy (length k.queue) (suc k.given) ≡ false → IsNumberedBy k.setup.node k.incarnation request → IsStep k (started_alone (prepared start)) step0 →
      outputs_of outputs ≡ record (outputs_of step0.outputs) { ticket = Some (suc k.given); packets = (outputs_of step0.outputs).packets ++ listed asked } →
      IsStep k (on_arrival k.setup (kept_of k) request)
      (record {
        outputs = outputs;
        next = record step0.next
            { serial = next_serial request k.serial; given = suc k.given; queue = changes.Push new };
      })
  arrives start step0 outputs starts free numbered base gives =
      let after : Step = record {
        outputs = outputs;
        next = record step0.next
            { serial = next_serial request k.serial; given = suc k.given; queue = changes.Push new };
      } in
      let sound : IsSound k.setup.node k.incarnation h = record { numbered = numbered; told = tt } in
      subst (λ (s : Stepped). IsStep k s after)
      ((λ i. record {
        kept = record (prepared start).kept { serial = next_serial request k.serial; ticket = suc (suc k.given); held = held_in k.queue ++ is i ∷ [] };
        outputs = (gives ∙ ap (λ (o : Outputs). record o { ticket = Some (suc k.given); packets = o.packets ++ listed asked }) base.outputs) i;
      }) ∙ arrives_so start starts)
      (arrived_step k (started_alone (prepared start)) step0 (next_serial request k.serial) new outputs base (ap ticket_of is)
      (not_busy (length k.queue) (suc k.given) free)
      (subst (IsSound k.setup.node k.incarnation) (sym is) sound) own (omega (arith, own.serial, serials request k.serial)))

-- a packet more is sent
pub sent_more : (before after : List Cast) (one : Option Cast) (to : Option Packet) → after ≡ before ++ listed one → option_map packet_of one ≡ to →
    map packet_of after ≡ map packet_of before ++ listed to
sent_more before after one to more is =
    ap (map packet_of) more
    ∙ map-append packet_of before (listed one)
    ∙ ap (λ (ps : List Packet). map packet_of before ++ ps) (one_listed one ∙ ap listed is)
  where
    one_listed : (one : Option Cast) → map packet_of (listed one) ≡ listed (option_map packet_of one)
    one_listed None = refl
    one_listed (Some packet) = refl
