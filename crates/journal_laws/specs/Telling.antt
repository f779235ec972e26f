-- The headline, and what later requests are answered, in the words of a journal (own).
use Rattle.std.specs.Prelude.{◌≡◌, ℕ, List, [], ◌∷◌, ◌++◌, Some, map, reverse}
use Rattle.mc_model.specs.message.Decree.{Attempt, Decree, Delivered, Fate, Final}
use Rattle.mc_model.specs.message.Chain.{final_in, untold}
use Rattle.mc_model.specs.synod.Lists.{In}
use Rattle.mc_model.specs.synod.Packet.{Packet, slot_of}
use Rattle.mc_model.specs.node.Outputs.{Outputs}
use Rattle.mc_model.specs.node.Replies.{Accepted, Answer, Shown, Unknown}
use Rattle.mc_model.specs.cluster.Steps.{Cluster}
use Rattle.node_model.specs.Kept.{Kept}
use Rattle.node_laws.specs.Chosen.{WasVotedFor}
use Rattle.node_laws.specs.Clusters.{GrantsOut, IsDeliveredBy, NodeInput, OneOfEach, StatesFinal, cluster_outputs, kept_reached, receipts_given}
use Rattle.node_laws.specs.GivenOut.{Cancels, CancelsDelete, ReceiptsStand}
use Rattle.delivery.specs.declared.outcome.Outcome.TheVariants as outcomes
use Rattle.desk.specs.declared.request.Request.{Request}
use Rattle.pdu_tables.specs.declared.status.Status.TheVariants as statuses
use Rattle.world_runs.specs.Step.TheVariants as steps
use Rattle.world_runs.specs.Runs.{given_out}
use Rattle.world_runs.specs.Taking.{node_at}
use Rattle.world_runs.specs.Tellings.{Names}
use Rattle.journal_laws.specs.Journals.{Entry, RunsOn, packets_sent}

-- what goes out by an entry, but for its packets
abbrev pub told_by : Entry → Outputs
told_by entry = given_out entry.done.given

-- what went out by the run that led to a journal, and by these entries
abbrev pub told_so_far : Cluster → List NodeInput → List Entry → List Outputs
told_so_far cluster inputs entries = cluster_outputs cluster inputs ++ map told_by entries

-- ---- one fate

-- No two final states that the run and the entries tell of one message differ.
abbrev pub TellOneFate : Cluster → List NodeInput → List Entry → Type 0
TellOneFate cluster inputs entries =
    (one other : Outputs) (id : ℕ) (first second : Final) → In one (told_so_far cluster inputs entries) → In other (told_so_far cluster inputs entries) →
    StatesFinal one id first → StatesFinal other id second → first ≡ second

-- Of each message_id they tell one receipt at most.
abbrev pub TellOneReceipt : Cluster → List NodeInput → List Entry → Type 0
TellOneReceipt cluster inputs entries = OneOfEach (receipts_given (told_so_far cluster inputs entries))

-- Behind what told a final state of a message no entry grants an attempt of it.
abbrev pub GrantNoneAfterAFate : Cluster → List NodeInput → List Entry → Type 0
GrantNoneAfterAFate cluster inputs entries =
    (older : List Entry) (granting : Entry) (newer : List Entry) (telling : Outputs) (id : ℕ) (final : Final) → entries ≡ older ++ granting ∷ newer →
    In telling (told_so_far cluster inputs older) → StatesFinal telling id final → GrantsOut (told_by granting) id → ⊥

-- ---- a message that is cancelled

-- ESME_ROK to a cancel_sm states that its message is DELETED.
abbrev pub CancelsTellDeleted : Cluster → List NodeInput → List Entry → Type 0
CancelsTellDeleted cluster inputs entries = CancelsDelete (told_so_far cluster inputs entries)

-- Behind ESME_ROK to the cancel_sm of a message no entry grants an attempt of it.
abbrev pub GrantNoneAfterACancel : Cluster → List NodeInput → List Entry → Type 0
GrantNoneAfterACancel cluster inputs entries =
    (older : List Entry) (granting : Entry) (newer : List Entry) (cancelling : Outputs) (id : ℕ) → entries ≡ older ++ granting ∷ newer →
    In cancelling (told_so_far cluster inputs older) → Cancels cancelling id → GrantsOut (told_by granting) id → ⊥

-- ---- what stands behind what is told

-- Each receipt is of a message whose id names the node that gives it out, and stands on a chain that ends in a Told of that node.
abbrev pub AllReceiptsStand : List Entry → Type 0
AllReceiptsStand entries = (entry : Entry) → In entry entries → ReceiptsStand (node_at entry.done.step) (told_by entry)

-- The chain of each final state that is told was chosen before (Paxos Made Simple, 2.3): a majority of the nodes voted for it at one ballot, and told so in
-- packets that were sent before the journal, the newest first, or by earlier entries.
abbrev pub AreChosen : ℕ → List Packet → List Entry → Type 0
AreChosen nodes before entries =
    (older : List Entry) (telling : Entry) (newer : List Entry) (id : ℕ) (final : Final) → entries ≡ older ++ telling ∷ newer →
    (says : StatesFinal (told_by telling) id final) → WasVotedFor nodes (reverse (packets_sent older) ++ before) id says.chain

-- a node starts anew by none of these
abbrev pub LivesOn : ℕ → List Entry → Type 0
LivesOn node entries = (entry : Entry) → In entry entries → entry.done.step ≡ steps.Restart node → ⊥

-- of these entries one stands before another of the same life of a node
pub record StandInOneLife (node : ℕ) (first second : Entry) (entries : List Entry) : Type 0 where
  pub older : List Entry
  pub middle : List Entry
  pub newer : List Entry
  pub split : entries ≡ older ++ first ∷ (middle ++ second ∷ newer)
  pub lives : LivesOn node middle

-- A chain ends in the fate DELIVERED, told or not, behind an attempt of the same author. One of these entries granted that attempt at its author's
-- node; a later one took its answer ESME_ROK there, in the same life of the node.
pub record StandsOnAnAttempt (id : ℕ) (chain : List Decree) (entries : List Entry) : Type 0 where
  pub fate : Decree
  pub attempt : Decree
  pub older : List Decree
  pub number : ℕ
  pub chain_is : untold chain ≡ fate ∷ attempt ∷ older
  pub attempted : attempt.kind ≡ Attempt number
  pub delivered : fate.kind ≡ Fate Delivered 0
  pub author : fate.author ≡ attempt.author
  pub granting : Entry
  pub grant : granting.done.step ≡ steps.Grant attempt.author.node id
  pub granted : (told_by granting).granted ≡ Some (slot_of id (attempt ∷ older))
  pub answering : Entry
  pub answer : answering.done.step ≡ steps.Answered attempt.author.node (slot_of id (attempt ∷ older)) outcomes.Delivered
  pub order : StandInOneLife attempt.author.node granting answering entries

-- Each DELIVERED that is told stands so on an attempt of earlier entries.
abbrev pub DeliveriesStand : List Entry → Type 0
DeliveriesStand entries =
    (older : List Entry) (telling : Entry) (newer : List Entry) (id : ℕ) → entries ≡ older ++ telling ∷ newer →
    (says : StatesFinal (told_by telling) id Delivered) → StandsOnAnAttempt id says.chain older

-- or on one of the run that led to the journal and goes on by earlier entries
pub record StandsInTheRun (cluster : Cluster) (behind : List Packet) (inputs : List NodeInput) (entries : List Entry) (id : ℕ)
    (chain : List Decree) : Type 0 where
  pub ends : ℕ → Kept
  pub way : RunsOn cluster behind inputs entries ends
  pub stands : IsDeliveredBy id chain way.last

abbrev pub DeliveriesStandInTheRun : Cluster → List Packet → List NodeInput → List Entry → Type 0
DeliveriesStandInTheRun cluster behind inputs entries =
    (older : List Entry) (telling : Entry) (newer : List Entry) (id : ℕ) → entries ≡ older ++ telling ∷ newer →
    (says : StatesFinal (told_by telling) id Delivered) → StandsInTheRun cluster behind inputs older id says.chain

-- ---- what a later request is answered

-- a request that waits under this ticket is answered so, of this message
abbrev pub IsRepliedTo : Outputs → ℕ → ℕ → Answer → Type 0
IsRepliedTo outputs ticket id answer = In (record { ticket = ticket; id = id; answer = answer }) outputs.replies

-- Behind these entries a request came to a node, and waits there; and later, in the same life of the node, it is answered so.
pub record IsAnsweredLater (entries older : List Entry) (id : ℕ) (answer : Answer) : Type 0 where
  pub node : ℕ
  pub account : List ℕ
  pub request : Request
  pub ticket : ℕ
  pub asking : Entry
  pub asked : asking.done.step ≡ steps.Request node account request
  pub under : asking.done.given.ticket ≡ Some ticket
  pub middle : List Entry
  pub lives : LivesOn node middle
  pub replying : Entry
  pub node_is : node_at replying.done.step ≡ node
  pub replied : IsRepliedTo (told_by replying) ticket id answer
  pub newer : List Entry
  pub split : entries ≡ older ++ asking ∷ (middle ++ replying ∷ newer)

-- A query_sm whose entry stands behind what told a final state of its message, and that is answered by ESME_ROK in the same life of its node, is told
-- that state.
abbrev pub LaterQueriesAreTold : Cluster → List NodeInput → List Entry → Type 0
LaterQueriesAreTold cluster inputs entries =
    (older : List Entry) (telling : Outputs) (id : ℕ) (chain : List Decree) (final : Final) → In telling (told_so_far cluster inputs older) →
    StatesFinal telling id final → IsAnsweredLater entries older id (Shown chain) → final_in chain ≡ Some final

-- No request whose entry stands behind ESME_ROK to the submit_sm of its message is answered, in the same life of its node, that there is no such message.
abbrev pub AcceptedAreKnown : Cluster → List NodeInput → List Entry → Type 0
AcceptedAreKnown cluster inputs entries =
    (older : List Entry) (accepting : Outputs) (taken id : ℕ) → In accepting (told_so_far cluster inputs older) → IsRepliedTo accepting taken id Accepted →
    IsAnsweredLater entries older id Unknown → ⊥

-- Nor is one that names a message by its id refused at once as one for a message that there is not (ESME_RINVMSGID: SMPP 3.4, 5.1.3), whatever waits.
abbrev pub IdsAreNotRefusedAtOnce : List Entry → Type 0
IdsAreNotRefusedAtOnce entries =
    (entry : Entry) (node : ℕ) (account : List ℕ) (request : Request) (id : ℕ) → In entry entries →
    entry.done.step ≡ steps.Request node account request → Names request id → entry.done.given.refused ≡ Some statuses.InvalidMessageId → ⊥

-- ---- all of it

-- What the run that led to a journal and its entries keep to, taken together.
pub record KeepsItsPromises (cluster : Cluster) (behind : List Packet) (inputs : List NodeInput) (entries : List Entry) : Type 0 where
  pub fate : TellOneFate cluster inputs entries
  pub receipts : TellOneReceipt cluster inputs entries
  pub grants : GrantNoneAfterAFate cluster inputs entries
  pub cancels : CancelsTellDeleted cluster inputs entries
  pub cancelled : GrantNoneAfterACancel cluster inputs entries
  pub stand : AllReceiptsStand entries
  pub chosen : AreChosen cluster.nodes (kept_reached cluster inputs).packets entries
  pub deliveries : DeliveriesStandInTheRun cluster behind inputs entries
  pub deliveries_here : inputs ≡ [] → DeliveriesStand entries
  pub queries : LaterQueriesAreTold cluster inputs entries
  pub accepted : AcceptedAreKnown cluster inputs entries
  pub at_once : IdsAreNotRefusedAtOnce entries
