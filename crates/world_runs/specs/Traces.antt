-- What a list of steps of a world gave, as a run of the model's cluster (own).
use Rattle.std.specs.Prelude.{◌≡◌, ◌⊎◌, ℕ, ◌+◌, ◌≤◌, List, [], ◌∷◌, ◌++◌, length, map, take, zip, Some, None, Result, Ok, Err}
use Rattle.mc_model.specs.message.Decree.{Attempt, Decree, Delivered, Fate, Final}
use Rattle.mc_model.specs.message.Chain.{final_in, untold}
use Rattle.mc_model.specs.synod.Lists.{In}
use Rattle.mc_model.specs.synod.Packet.{Packet, Slot, slot_of}
use Rattle.mc_model.specs.node.Input.{Restart}
use Rattle.mc_model.specs.node.Outputs.{Outputs}
use Rattle.mc_model.specs.node.Replies.{Accepted, Answer as Told, Shown, Unknown}
use Rattle.mc_model.specs.cluster.Steps.{Cluster}
use Rattle.node_model.specs.Outputs.{nothing}
use Rattle.node_laws.specs.Chosen.{WasVotedFor}
use Rattle.node_laws.specs.Clusters.{GrantsOut, IsDeliveredBy, NodeInput, OneOfEach, StatesFinal, comes_to, kept_reached, receipts_given, step_at}
use Rattle.delivery.specs.declared.outcome.Outcome.TheVariants as outcomes
use Rattle.desk.specs.declared.request.Request.{Request}
use Rattle.world.specs.declared.fault.WorldFault.{WorldFault}
use Rattle.world.specs.declared.given.Given.{Given}
use Rattle.world.specs.Step.{Step}
use Rattle.world.specs.Step.TheVariants as steps
use Rattle.world.specs.Copies.{IsCopy}
use Rattle.world.specs.Runs.{Comes, IsAt, IsFault, IsGiven, given_out, refusal_of}
use Rattle.world.specs.Taking.{node_at}
use Rattle.world.specs.Scenes.{Scene}

abbrev pub Answer : Type 0
Answer = Result Given WorldFault

-- By these steps, the first of them first, and with these answers a run goes on from these inputs to others, the newest first.
abbrev pub Reaches : Cluster → List Packet → List NodeInput → List Step → List Answer → List NodeInput → Type 0
Reaches cluster behind inputs [] [] last = last ≡ inputs
Reaches cluster behind inputs [] (answer ∷ answers) last = ⊥
Reaches cluster behind inputs (step ∷ steps) [] last = ⊥
Reaches cluster behind inputs (step ∷ steps) (Ok given ∷ answers) last =
    (next : NodeInput)
    × (refusal_of cluster (length behind) (kept_reached cluster inputs) step ≡ None)
    × Comes cluster (length behind) (kept_reached cluster inputs) step next
    × IsGiven given (step_at cluster (kept_reached cluster inputs) next).outputs
    × Reaches cluster behind (next ∷ inputs) steps answers last
Reaches cluster behind inputs (step ∷ steps) (Err fault ∷ answers) last =
    IsFault (refusal_of cluster (length behind) (kept_reached cluster inputs) step) fault × Reaches cluster behind inputs steps answers last

-- no node that started anew since these inputs lost an incarnation
abbrev pub LostNoneSince : List NodeInput → List NodeInput → Type 0
LostNoneSince inputs last = (node lost : ℕ) → In (comes_to node (Restart lost)) last → In (comes_to node (Restart lost)) inputs ⊎ (lost ≡ 0)

-- where the run leads, and that the world stands there
pub record GoesTo (cluster : Cluster) (behind : List Packet) (inputs : List NodeInput) (steps : List Step) (answers : List Answer) (new : Scene) : Type 0 where
  pub last : List NodeInput
  pub reaches : Reaches cluster behind inputs steps answers last
  pub loses : LostNoneSince inputs last
  pub at : IsAt cluster behind last new

-- wherever the world stood in a run, the run goes on so
pub record LeadsAll (old : Scene) (steps : List Step) (answers : List Answer) (new : Scene) : Type 0 where
  pub each : (cluster : Cluster) (behind : List Packet) (inputs : List NodeInput) → IsAt cluster behind inputs old →
      GoesTo cluster behind inputs steps answers new

-- ---- what is told

abbrev pub told_in : Answer → Outputs
told_in (Ok given) = given_out given
told_in (Err fault) = nothing

-- No two final states that replies and receipts tell of one message differ.
abbrev pub HasOneFate : List Answer → Type 0
HasOneFate answers =
    (one other : Answer) (id : ℕ) (first second : Final) → In one answers → In other answers →
    StatesFinal (told_in one) id first → StatesFinal (told_in other) id second → first ≡ second

-- Of each message_id one receipt goes out at most.
abbrev pub HasOneReceipt : List Answer → Type 0
HasOneReceipt answers = OneOfEach (receipts_given (map told_in answers))

-- of these answers, the first of them first, one came before another
pub record CameBefore (first second : Answer) (answers : List Answer) : Type 0 where
  pub older : List Answer
  pub newer : List Answer
  pub split : answers ≡ older ++ second ∷ newer
  pub before : In first older

-- Once a final state of a message was told, as DELETED by ESME_ROK to its cancel_sm, no attempt of it is granted.
abbrev pub GrantsNoneAfterAFate : List Answer → Type 0
GrantsNoneAfterAFate answers =
    (telling granting : Answer) (id : ℕ) (final : Final) → CameBefore telling granting answers →
    StatesFinal (told_in telling) id final → GrantsOut (told_in granting) id → ⊥

-- steps once more, each at its place
abbrev pub AreCopies : List Step → List Step → Type 0
AreCopies [] copies = copies ≡ []
AreCopies (step ∷ steps) [] = ⊥
AreCopies (step ∷ steps) (copy ∷ copies) = IsCopy step copy × AreCopies steps copies

-- ---- what a world was asked

-- A step, with what it gave or why it was refused; a start over the stores of all nodes; or one at which only so many nodes started anew, the first
-- ones, and why the next one did not.
pub data Event : Type 0 where
  Tried : Step → Answer → Event
  StartedOver : Event
  HaltedOver : ℕ → WorldFault → Event

abbrev pub event_of : Step × Answer → Event
event_of tried = Tried tried.0 tried.1

-- steps with their answers, the first of them first
abbrev pub events_of : List Step → List Answer → List Event
events_of steps answers = map event_of (zip steps answers)

abbrev pub steps_in : List Event → List Step
steps_in [] = []
steps_in (Tried step answer ∷ events) = step ∷ steps_in events
steps_in (StartedOver ∷ events) = steps_in events
steps_in (HaltedOver count fault ∷ events) = steps_in events

abbrev pub answers_in : List Event → List Answer
answers_in [] = []
answers_in (Tried step answer ∷ events) = answer ∷ answers_in events
answers_in (StartedOver ∷ events) = answers_in events
answers_in (HaltedOver count fault ∷ events) = answers_in events

abbrev pub told_by : Event → Outputs
told_by (Tried step answer) = told_in answer
told_by StartedOver = nothing
told_by (HaltedOver count fault) = nothing

-- a node starts anew by an event
abbrev pub BeginsAnew : ℕ → Event → Type 0
BeginsAnew node (Tried step (Ok given)) = step ≡ steps.Restart node
BeginsAnew node (Tried step (Err fault)) = ⊥
BeginsAnew node StartedOver = Unit {0}
BeginsAnew node (HaltedOver count fault) = node ≤ count

abbrev pub LivesOn : ℕ → List Event → Type 0
LivesOn node events = (event : Event) → In event events → BeginsAnew node event → ⊥

-- ---- what stands behind a delivery

-- of these events, the first of them first, one came, and later, in the same life of a node, another
pub record CameInOneLife (node : ℕ) (first second : Event) (events : List Event) : Type 0 where
  pub older : List Event
  pub middle : List Event
  pub newer : List Event
  pub split : events ≡ older ++ first ∷ (middle ++ second ∷ newer)
  pub lives : LivesOn node middle

-- the attempt in this slot was granted at a node
pub record IsGranted (event : Event) (node : ℕ) (slot : Slot) : Type 0 where
  pub given : Given
  pub is : event ≡ Tried (steps.Grant node slot.id) (Ok given)
  pub granted : (given_out given).granted ≡ Some slot

-- it was answered there by ESME_ROK, which was taken
pub record IsAnswered (event : Event) (node : ℕ) (slot : Slot) : Type 0 where
  pub given : Given
  pub is : event ≡ Tried (steps.Answered node slot outcomes.Delivered) (Ok given)

-- A chain ends in the fate DELIVERED, told or not, behind an attempt of the same author. By these events, the first of them first, that attempt was
-- granted at its author's node, and then, in the same life of the node, answered there by ESME_ROK.
pub record StandsOnAnAttempt (id : ℕ) (chain : List Decree) (events : List Event) : Type 0 where
  pub fate : Decree
  pub attempt : Decree
  pub older : List Decree
  pub number : ℕ
  pub chain_is : untold chain ≡ fate ∷ attempt ∷ older
  pub attempted : attempt.kind ≡ Attempt number
  pub delivered : fate.kind ≡ Fate Delivered 0
  pub author : fate.author ≡ attempt.author
  pub granting : Event
  pub granted : IsGranted granting attempt.author.node (slot_of id (attempt ∷ older))
  pub answering : Event
  pub answered : IsAnswered answering attempt.author.node (slot_of id (attempt ∷ older))
  pub order : CameInOneLife attempt.author.node granting answering events

-- Each DELIVERED that is told of a message stands on an attempt that was granted, and answered by ESME_ROK, before it was told.
abbrev pub DeliveriesStand : List Event → Type 0
DeliveriesStand events =
    (older : List Event) (event : Event) (newer : List Event) (id : ℕ) → events ≡ older ++ event ∷ newer →
    (says : StatesFinal (told_by event) id Delivered) → StandsOnAnAttempt id says.chain older

-- As inputs of the run that led here, and goes on by these steps, its attempt was granted and answered by ESME_ROK.
pub record StandsInTheRun (cluster : Cluster) (behind : List Packet) (inputs : List NodeInput) (events : List Event) (id : ℕ)
    (chain : List Decree) : Type 0 where
  pub last : List NodeInput
  pub reaches : Reaches cluster behind inputs (steps_in events) (answers_in events) last
  pub loses : LostNoneSince inputs last
  pub stands : IsDeliveredBy id chain last

-- so wherever the world stood in a run
abbrev pub DeliveriesStandInRuns : Scene → List Step → List Answer → Type 0
DeliveriesStandInRuns old steps answers =
    (cluster : Cluster) (behind : List Packet) (inputs : List NodeInput) → IsAt cluster behind inputs old →
    (older : List Event) (event : Event) (newer : List Event) (id : ℕ) → events_of steps answers ≡ older ++ event ∷ newer →
    (says : StatesFinal (told_by event) id Delivered) → StandsInTheRun cluster behind inputs older id says.chain

-- how many packets steps sent that answered so
abbrev pub sent_by : List Answer → ℕ
sent_by [] = 0
sent_by (Ok given ∷ answers) = given.packets + sent_by answers
sent_by (Err fault ∷ answers) = sent_by answers

-- Of each final state that is told the chain was chosen before (Paxos Made Simple, 2.3): a majority of the nodes, which are so many, voted for it at one
-- ballot, and told so in those of these packets, the oldest first, that were sent by the steps before the one that told it.
abbrev pub AreChosen : ℕ → List Packet → List Answer → Type 0
AreChosen nodes packets answers =
    (older : List Answer) (telling : Answer) (newer : List Answer) (id : ℕ) (final : Final) → answers ≡ older ++ telling ∷ newer →
    (says : StatesFinal (told_in telling) id final) → WasVotedFor nodes (take (sent_by older) packets) id says.chain

-- ---- what a later request is answered

-- a request came to a node, and waits there under this ticket
pub record Waits (event : Event) (node ticket : ℕ) : Type 0 where
  pub account : List ℕ
  pub request : Request
  pub given : Given
  pub is : event ≡ Tried (steps.Request node account request) (Ok given)
  pub under : given.ticket ≡ Some ticket

-- a request that waits under this ticket is answered so, of this message
abbrev pub IsRepliedTo : Event → ℕ → ℕ → Told → Type 0
IsRepliedTo event ticket id answer = In (record { ticket = ticket; id = id; answer = answer }) (told_by event).replies

-- After these events a request came to a node, and waits there under this ticket; and later, in the same life of the node, it is answered so.
pub record IsAnsweredLater (events older : List Event) (id : ℕ) (answer : Told) : Type 0 where
  pub node : ℕ
  pub ticket : ℕ
  pub asking : Event
  pub waits : Waits asking node ticket
  pub middle : List Event
  pub lives : LivesOn node middle
  pub step : Step
  pub replying : Answer
  pub node_is : node_at step ≡ node
  pub replied : IsRepliedTo (Tried step replying) ticket id answer
  pub newer : List Event
  pub split : events ≡ older ++ asking ∷ (middle ++ Tried step replying ∷ newer)

-- A query_sm that comes after a final state of its message was told, and is answered by ESME_ROK in the same life of its node, is told that state.
abbrev pub LaterQueriesAreTold : List Event → Type 0
LaterQueriesAreTold events =
    (older : List Event) (telling : Event) (id : ℕ) (chain : List Decree) (final : Final) → In telling older → StatesFinal (told_by telling) id final →
    IsAnsweredLater events older id (Shown chain) → final_in chain ≡ Some final

-- No request that comes after ESME_ROK to the submit_sm of its message is answered, in the same life of its node, that there is no such message.
abbrev pub AcceptedAreKnown : List Event → Type 0
AcceptedAreKnown events =
    (older : List Event) (accepting : Event) (taken id : ℕ) → In accepting older → IsRepliedTo accepting taken id Accepted →
    IsAnsweredLater events older id Unknown → ⊥
