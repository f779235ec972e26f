-- Requests, attempts and stops, at a node that forgot something of other messages.
use Rattle.std.proofs.Common.{◌≡◌, Bool, true, false, List, [], ◌∷◌, Option, Some, None, refl, ap, ◌∙◌}
use Rattle.std.specs.Prelude.{◌==◌, if◌then◌else◌}
use Rattle.mc_model.specs.message.Decree.{Decree}
use Rattle.mc_model.specs.node.Actor.{Cancel, Query, Request, Submit, id_in}
use Rattle.mc_model.specs.node.Outcome.{Outcome}
use Rattle.mc_model.specs.node.Setup.{Setup}
use Rattle.mc_model.specs.synod.Packet.{Ask, Packet, Prepare, Promise, Propose, Refused, Slot, Tell, Voted}
use Rattle.node_model.specs.Acceptor.{prepare_judged, propose_judged}
use Rattle.node_model.specs.Attempts.{closed_by, concluded, concluded_then, on_grant, on_response}
use Rattle.node_model.specs.Kept.{Held, Kept, message_at, saved, with_message}
use Rattle.node_model.specs.Message.{Message}
use Rattle.node_model.specs.Outputs.{nothing}
use Rattle.node_model.specs.Packets.{is_member}
use Rattle.node_model.specs.Proposer.{started}
use Rattle.node_model.specs.Requests.{begun}
use Rattle.node_model.specs.Starts.{take_for}
use Rattle.node_model.specs.Stepped.{saved_by, sender_of, stopped}
use Rattle.node_model.specs.Ticks.{begun_with, on_arrival, waits_too}
use Rattle.rest_laws.specs.Without.{SparesPacket}
use Rattle.rest_laws.proofs.forgetting.Kept.{Forgetting, less, less_step, message_same, record_same, saved_same, started_same, with_same}

module _ (f : Forgetting) where
  -- ---- requests, attempts, stops

  pub take_same : (setup : Setup) (k : Kept) (h : Held) (request : Request) → take_for setup (less f k) h request ≡ take_for setup k h request
  take_same setup k h (Submit id message) = refl
  take_same setup k h (Query id account source) = refl
  take_same setup k h (Cancel id account source destination) = refl

  pub arrival_same : (setup : Setup) (k : Kept) (request : Request) → f.Ordered k.messages → f.some_of (id_in request) ≡ false →
      on_arrival setup (less f k) request ≡ less_step f (on_arrival setup k request)
  arrival_same setup k request ordered stays =
      let new : Held = begun k.ticket k.clock request in
      (λ i. begun_with setup (less f k) new (started setup (waits_too (less f k) request new) (id_in request) (take_same setup k new request i)))
      ∙ (λ i. begun_with setup (less f k) new
      (started_same f setup (waits_too k request new) (id_in request) (take_for setup k new request) ordered stays i))

  pub grant_same : (k : Kept) (slot : Slot) → f.Ordered k.messages → f.some_of slot.id ≡ false → on_grant (less f k) slot ≡ less_step f (on_grant k slot)
  grant_same k slot ordered stays =
      let m = message_same f k slot.id stays in
      (λ i. record {
        kept = with_message (less f k) slot.id (record (m i) { granted = λ other. if other == slot.place then true else (m i).granted other });
        outputs = record nothing { granted = Some slot };
      })
      ∙ (λ i. record {
        kept = with_same f k slot.id
            (record (message_at k slot.id) { granted = λ other. if other == slot.place then true else (message_at k slot.id).granted other }) ordered stays i;
        outputs = record nothing { granted = Some slot };
      })

  concluded_same : (setup : Setup) (k : Kept) (slot : Slot) (outcome : Outcome) (known : Option (List Decree)) →
      concluded setup (less f k) slot outcome known ≡ concluded setup k slot outcome known
  concluded_same setup k slot outcome None = refl
  concluded_same setup k slot outcome (Some []) = refl
  concluded_same setup k slot outcome (Some (newest ∷ older)) = refl

  closed_same : (k : Kept) (slot : Slot) (outcome : Outcome) → f.Ordered k.messages → f.some_of slot.id ≡ false →
      closed_by (less f k) slot outcome ≡ less f (closed_by k slot outcome)
  closed_same k slot outcome ordered stays =
      let m = message_same f k slot.id stays in
      (λ i. with_message (less f k) slot.id
      (record (m i) { closed = λ other. if other == slot.place then Some outcome else (m i).closed other }))
      ∙ with_same f k slot.id
      (record (message_at k slot.id) { closed = λ other. if other == slot.place then Some outcome else (message_at k slot.id).closed other }) ordered stays

  pub response_same : (setup : Setup) (k : Kept) (slot : Slot) (outcome : Outcome) → f.Ordered k.messages → f.some_of slot.id ≡ false →
      on_response setup (less f k) slot outcome ≡ less_step f (on_response setup k slot outcome)
  response_same setup k slot outcome ordered stays =
      let closes = closed_same k slot outcome ordered stays in
      let c : concluded setup (less f k) slot outcome (message_at (less f k) slot.id).known
      ≡ concluded setup k slot outcome (message_at k slot.id).known =
      ap (λ (m : Message). concluded setup (less f k) slot outcome m.known) (message_same f k slot.id stays)
      ∙ concluded_same setup k slot outcome (message_at k slot.id).known in
      (λ i. concluded_then (started setup (closes i) slot.id (c i)))
      ∙ (λ i. concluded_then (started_same f setup (closed_by k slot outcome) slot.id
      (concluded setup k slot outcome (message_at k slot.id).known) (f.still_ordered k.messages slot.id _ ordered) stays i))

  saved_by_same : (setup : Setup) (k : Kept) (packet : Packet) → f.Ordered k.messages → SparesPacket f.some_of packet →
      saved_by setup (less f k) packet ≡ less f (saved_by setup k packet)
  saved_by_same setup k (Prepare sender slot ballot) ordered stays =
      (λ i. saved (less f k) slot (prepare_judged setup.node slot ballot (record_same f k slot stays i)).after)
      ∙ saved_same f k slot (prepare_judged setup.node slot ballot (k.records slot)).after ordered stays
  saved_by_same setup k (Propose sender slot vote) ordered stays =
      (λ i. saved (less f k) slot (propose_judged setup.node slot vote (record_same f k slot stays i)).after)
      ∙ saved_same f k slot (propose_judged setup.node slot vote (k.records slot)).after ordered stays
  saved_by_same setup k (Promise sender slot ballot report) ordered stays = refl
  saved_by_same setup k (Voted sender slot vote) ordered stays = refl
  saved_by_same setup k (Refused sender slot ballot promised) ordered stays = refl
  saved_by_same setup k (Ask sender id name) ordered stays = refl
  saved_by_same setup k (Tell sender name told) ordered stays = refl

  pub stopped_same : (setup : Setup) (k : Kept) (packet : Packet) (after : Bool) → f.Ordered k.messages → SparesPacket f.some_of packet →
      stopped setup (less f k) packet after ≡ less f (stopped setup k packet after)
  stopped_same setup k packet false ordered stays = refl
  stopped_same setup k packet true ordered stays =
      (λ i. if is_member setup (sender_of packet) then record (saved_by_same setup k packet ordered stays i) { up = false }
      else record (less f k) { up = false })
      ∙ by (is_member setup (sender_of packet))
    where
      by : (b : Bool) → (if b then record (less f (saved_by setup k packet)) { up = false } else record (less f k) { up = false })
          ≡ less f (if b then record (saved_by setup k packet) { up = false } else record k { up = false })
      by true = refl
      by false = refl
