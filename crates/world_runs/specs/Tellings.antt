-- What a world tells on a cancel_sm, by a receipt, and at once (own).
use Rattle.std.specs.Prelude.{◌≡◌, ℕ, List, Some, Ok}
use Rattle.mc_model.specs.message.Decree.{Deleted}
use Rattle.mc_model.specs.synod.Lists.{In}
use Rattle.node_laws.specs.Clusters.{GrantsOut, StatesFinal}
use Rattle.node_laws.specs.GivenOut.{Cancels, ReceiptsStand}
use Rattle.mc_types.specs.Texts.{id_in}
use Rattle.pdu_tables.specs.declared.status.Status.TheVariants as statuses
use Rattle.desk.specs.declared.request.Request.{Request}
use Rattle.desk.specs.declared.request.Request.TheVariants as asked
use Rattle.world.specs.declared.given.Given.{Given}
use Rattle.world.specs.Step.{Step}
use Rattle.world.specs.Step.TheVariants as steps
use Rattle.world.specs.Runs.{given_out}
use Rattle.world.specs.Taking.{node_at}
use Rattle.world_runs.specs.Traces.{Answer, CameBefore, Event, Tried, told_in}

-- ESME_ROK to a cancel_sm states that its message is DELETED (SMPP 3.4, 4.9.2).
abbrev pub CancelsAreDeletions : List Answer → Type 0
CancelsAreDeletions answers = (answer : Answer) (id : ℕ) → In answer answers → Cancels (told_in answer) id → StatesFinal (told_in answer) id Deleted

-- After ESME_ROK to the cancel_sm of a message no attempt of it is granted.
abbrev pub GrantsNoneAfterACancel : List Answer → Type 0
GrantsNoneAfterACancel answers =
    (cancelling granting : Answer) (id : ℕ) → CameBefore cancelling granting answers → Cancels (told_in cancelling) id → GrantsOut (told_in granting) id → ⊥

-- Each receipt is of a message whose id names the node that gives it out, and stands on a chain that ends in a Told of that node.
abbrev pub AllReceiptsStand : List Event → Type 0
AllReceiptsStand events = (step : Step) (given : Given) → In (Tried step (Ok given)) events → ReceiptsStand (node_at step) (given_out given)

-- a query_sm or a cancel_sm names a message by its id (SMPP 3.4, 4.8.1 and 4.9.1)
abbrev pub Names : Request → ℕ → Type 0
Names (asked.Submit message target) id = ⊥
Names (asked.Ask query) id = id_in query.message_id ≡ Some id
Names (asked.Cancel cancel) id = id_in cancel.message_id ≡ Some id

-- No such request is refused at once as one for a message that there is not (ESME_RINVMSGID: SMPP 3.4, 5.1.3), whatever waits.
abbrev pub IdsAreNotRefusedAtOnce : List Event → Type 0
IdsAreNotRefusedAtOnce events =
    (node : ℕ) (account : List ℕ) (request : Request) (given : Given) (id : ℕ) → In (Tried (steps.Request node account request) (Ok given)) events →
    Names request id → given.refused ≡ Some statuses.InvalidMessageId → ⊥
