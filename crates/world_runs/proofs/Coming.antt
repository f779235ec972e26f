-- The step of a world that an input came by.
use Rattle.std.proofs.Common.{◌≡◌, ℕ, Bool, true, false, List, Some, Result, Ok, Err, refl, sym, ap, subst}
use Rattle.std.specs.Prelude.{if◌then◌else◌}
use Rattle.mc_model.specs.message.Decree.{Delivered}
use Rattle.mc_model.specs.synod.Packet.{Slot}
use Rattle.mc_model.specs.node.Actor.{Request}
use Rattle.mc_model.specs.node.Input.{Arrival, Delivery, Grant, Input, Refusal, Response, Restart}
use Rattle.mc_model.specs.node.Outcome.{Concluded, Outcome}
use Rattle.mc_model.specs.node.Setup.{Setup}
use Rattle.mc_model.specs.cluster.Steps.{Cluster, setup_of}
use Rattle.node_model.specs.Granted.{known_slot}
use Rattle.node_model.specs.Kept.{Kept}
use Rattle.node_model.specs.Stepped.{stepped_down, stepped_up}
use Rattle.node_laws.specs.Clusters.{KeptCluster, NodeInput, comes_to, step_at}
use Rattle.pdu_tables.specs.StatusCodes.{status_code}
use Rattle.pdu_tables.specs.declared.status.Status.{Status}
use Rattle.delivery.specs.Kept.{outcome_kept}
use Rattle.delivery.specs.declared.outcome.Outcome.{Outcome as Answered}
use Rattle.delivery.specs.declared.outcome.Outcome.TheVariants as outcomes
use Rattle.desk.specs.Admissions.{admitted}
use Rattle.desk.specs.Arrivals.{door_at, judged_as, next_id, requested}
use Rattle.desk.specs.declared.request.Request.{Request as Asked}
use Rattle.world.specs.Step.{Step}
use Rattle.world.specs.Step.TheVariants as steps
use Rattle.world.specs.Runs.{Comes}
use Rattle.world.specs.Taking.{node_at}

-- by a request no attempt is granted, none is answered, and no node starts anew
no_grant_asked : (slot : Slot) (judged : Result Request Status) → Grant slot ≡ judged_as judged → ⊥
no_grant_asked slot (Ok request) same = cc
no_grant_asked slot (Err status) same = cc

no_start_asked : (lost : ℕ) (judged : Result Request Status) → Restart lost ≡ judged_as judged → ⊥
no_start_asked lost (Ok request) same = cc
no_start_asked lost (Err status) same = cc

no_answer_asked : (slot : Slot) (outcome : Outcome) (judged : Result Request Status) → Response slot outcome ≡ judged_as judged → ⊥
no_answer_asked slot outcome (Ok request) same = cc
no_answer_asked slot outcome (Err status) same = cc

delivered_only : (outcome : Answered) → Concluded Delivered 0 ≡ outcome_kept outcome → outcome ≡ outcomes.Delivered
delivered_only outcomes.Delivered same = refl
delivered_only outcomes.Undeliverable same = absurd (cc)
delivered_only outcomes.Rejected same = absurd (cc)
delivered_only (outcomes.Failed error) same = absurd (cc)

module _ (cluster : Cluster) (behind : ℕ) (w : KeptCluster) (node : ℕ) where
  input_is : (other : ℕ) (one input : Input) → comes_to node one ≡ comes_to other input → one ≡ input
  input_is other one input same = ap (λ (x : NodeInput). x.input) same

  node_is : (other : ℕ) (one input : Input) → comes_to node one ≡ comes_to other input → other ≡ node
  node_is other one input same = ap (λ (x : NodeInput). x.node) (sym same)

  abbrev judged : ℕ → List ℕ → Asked → Result Request Status
  judged other account request = admitted (door_at (setup_of cluster other) (w.kept other)) (next_id (setup_of cluster other) (w.kept other)) account request

  pub granted_by_step : (slot : Slot) (step : Step) → Comes cluster behind w step (comes_to node (Grant slot)) → step ≡ steps.Grant node slot.id
  granted_by_step slot (steps.Deliver number other) c = let same = input_is other (Grant slot) (Delivery c.0) c.2 in absurd (cc)
  granted_by_step slot (steps.Request other account request) c = absurd (no_grant_asked slot (judged other account request) (input_is other (Grant slot) _ c))
  granted_by_step slot (steps.Tick other moment reach) c = let same = input_is other (Grant slot) _ c in absurd (cc)
  granted_by_step slot (steps.Grant other id) c =
      let slots : slot ≡ known_slot (w.kept other) id = let same = input_is other (Grant slot) (Grant (known_slot (w.kept other) id)) c in cc in
      let ids : id ≡ slot.id = ap (λ (s : Slot). s.id) (sym slots) in
      λ i. steps.Grant (node_is other (Grant slot) (Grant (known_slot (w.kept other) id)) c i) (ids i)
  granted_by_step slot (steps.Answered other place outcome) c = let same = input_is other (Grant slot) (Response place (outcome_kept outcome)) c in absurd (cc)
  granted_by_step slot (steps.Crash other number found) c = let same = input_is other (Grant slot) _ c.2 in absurd (cc)
  granted_by_step slot (steps.Restart other) c = let same = input_is other (Grant slot) (Restart c.0) c.1 in absurd (cc)

  abbrev answer : Slot → Input
  answer slot = Response slot (Concluded Delivered 0)

  pub answered_by_step : (slot : Slot) (step : Step) → Comes cluster behind w step (comes_to node (Response slot (Concluded Delivered 0))) →
      step ≡ steps.Answered node slot outcomes.Delivered
  answered_by_step slot (steps.Deliver number other) c = let same = input_is other (answer slot) (Delivery c.0) c.2 in absurd (cc)
  answered_by_step slot (steps.Request other account request) c =
      absurd (no_answer_asked slot (Concluded Delivered 0) (judged other account request) (input_is other (answer slot) _ c))
  answered_by_step slot (steps.Tick other moment reach) c = let same = input_is other (answer slot) _ c in absurd (cc)
  answered_by_step slot (steps.Grant other id) c = let same = input_is other (answer slot) (Grant (known_slot (w.kept other) id)) c in absurd (cc)
  answered_by_step slot (steps.Answered other place outcome) c =
      let same : answer slot ≡ Response place (outcome_kept outcome) = input_is other (answer slot) (Response place (outcome_kept outcome)) c in
      let places : place ≡ slot = cc in
      let outcomes_are : Concluded Delivered 0 ≡ outcome_kept outcome = cc in
      let only = delivered_only outcome outcomes_are in
      λ i. steps.Answered (node_is other (answer slot) (Response place (outcome_kept outcome)) c i) (places i) (only i)
  answered_by_step slot (steps.Crash other number found) c = let same = input_is other (answer slot) _ c.2 in absurd (cc)
  answered_by_step slot (steps.Restart other) c = let same = input_is other (answer slot) (Restart c.0) c.1 in absurd (cc)

  pub started_by_step : (lost : ℕ) (step : Step) → Comes cluster behind w step (comes_to node (Restart lost)) → step ≡ steps.Restart node
  started_by_step lost (steps.Deliver number other) c = let same = input_is other (Restart lost) (Delivery c.0) c.2 in absurd (cc)
  started_by_step lost (steps.Request other account request) c = absurd (no_start_asked lost (judged other account request) (input_is other (Restart lost) _ c))
  started_by_step lost (steps.Tick other moment reach) c = let same = input_is other (Restart lost) _ c in absurd (cc)
  started_by_step lost (steps.Grant other id) c = let same = input_is other (Restart lost) (Grant (known_slot (w.kept other) id)) c in absurd (cc)
  started_by_step lost (steps.Answered other place outcome) c =
      let same = input_is other (Restart lost) (Response place (outcome_kept outcome)) c in absurd (cc)
  started_by_step lost (steps.Crash other number found) c = let same = input_is other (Restart lost) _ c.2 in absurd (cc)
  started_by_step lost (steps.Restart other) c = λ i. steps.Restart (node_is other (Restart lost) (Restart c.0) c.1 i)

-- a step is taken by its node
pub node_of_step : (cluster : Cluster) (behind : ℕ) (w : KeptCluster) (step : Step) (next : NodeInput) → Comes cluster behind w step next →
    next.node ≡ node_at step
node_of_step cluster behind w (steps.Deliver number node) next c = ap (λ (x : NodeInput). x.node) c.2
node_of_step cluster behind w (steps.Request node account request) next c = ap (λ (x : NodeInput). x.node) c
node_of_step cluster behind w (steps.Tick node moment reach) next c = ap (λ (x : NodeInput). x.node) c
node_of_step cluster behind w (steps.Grant node id) next c = ap (λ (x : NodeInput). x.node) c
node_of_step cluster behind w (steps.Answered node slot outcome) next c = ap (λ (x : NodeInput). x.node) c
node_of_step cluster behind w (steps.Crash node number found) next c = ap (λ (x : NodeInput). x.node) c.2
node_of_step cluster behind w (steps.Restart node) next c = ap (λ (x : NodeInput). x.node) c.1

-- ---- a request that waits

-- no ticket is given to a request that is refused
no_ticket : (setup : Setup) (k : Kept) (status ticket : ℕ) (up : Bool) →
    (if up then stepped_up setup k (Refusal status) else stepped_down setup k (Refusal status)).outputs.ticket ≡ Some ticket → ⊥
no_ticket setup k status ticket true same = cc
no_ticket setup k status ticket false same = cc

by_judged : (cluster : Cluster) (w : KeptCluster) (node ticket : ℕ) (judged : Result Request Status) (next : NodeInput) →
    next ≡ comes_to node (judged_as judged) →
    (step_at cluster w next).outputs.ticket ≡ Some ticket → (request : Request) × (next ≡ comes_to node (Arrival request))
by_judged cluster w node ticket (Ok request) next same under = (request, same)
by_judged cluster w node ticket (Err status) next same under =
    absurd (no_ticket (setup_of cluster node) (w.kept node) (status_code status) ticket (w.kept node).up
    (subst (λ (x : NodeInput). (step_at cluster w x).outputs.ticket ≡ Some ticket) same under))

-- a request that waits arrived
pub arrived : (cluster : Cluster) (w : KeptCluster) (node ticket : ℕ) (account : List ℕ) (asked : Asked) (next : NodeInput) →
    next ≡ comes_to node (requested (setup_of cluster node) (w.kept node) account asked) → (step_at cluster w next).outputs.ticket ≡ Some ticket →
    (request : Request) × (next ≡ comes_to node (Arrival request))
arrived cluster w node ticket account asked next same under =
    by_judged cluster w node ticket
    (admitted (door_at (setup_of cluster node) (w.kept node)) (next_id (setup_of cluster node) (w.kept node)) account asked) next same under
