-- A worked journal of a node alone that opens over the store that it left. It had told ESME_ROK to a cancel_sm; now it tells the receipt on DELETED (own).
use Rattle.std.specs.Prelude.{◌≡◌, ℕ, Bool, false, List, [], ◌∷◌, None, Some}
use Rattle.mc_model.specs.message.Decree.{Decree, Told}
use Rattle.mc_model.specs.synod.Lists.{In}
use Rattle.mc_model.specs.synod.OneSlot.{Vote, vote_at}
use Rattle.mc_model.specs.synod.Packet.{Ask, Name, Packet, Prepare, Promise, Propose, Slot, Tell, Voted, slot_at, top_at}
use Rattle.mc_model.specs.node.Input.{Delivery}
use Rattle.mc_model.specs.node.Outputs.{Outputs, Receipt, Reply}
use Rattle.mc_model.specs.node.Replies.{Removed}
use Rattle.mc_parts.specs.FirstMessage.{first_id, midnight, taken}
use Rattle.node_model.specs.Outputs.{nothing}
use Rattle.node_laws.specs.Clusters.{NodeInput, cluster_outputs, comes_to}
use Rattle.node_laws.specs.Examples.{cancels, decreed_again, deleted, first_ballot, first_slot}
use Rattle.world_runs.specs.Given.{Given}
use Rattle.world_runs.specs.Reach.{Reach}
use Rattle.world_runs.specs.Step.TheVariants as steps
use Rattle.world_runs.specs.Runs.{given_out}
use Rattle.journal_laws.specs.Example.{alone, before, prepare, promise, propose, taking}
use Rattle.journal_laws.specs.Joining.{plainly}
use Rattle.journal_laws.specs.Journals.{Entry}

-- ---- the run that left the store: each packet comes once

abbrev pub come : Packet → NodeInput
come packet = comes_to 1 (Delivery packet)

abbrev pub taken_vote : Vote
taken_vote = vote_at first_ballot taken

-- the message is taken
abbrev pub submitted : List NodeInput
submitted = come (Voted 1 first_slot taken_vote) ∷ come propose ∷ come promise ∷ come prepare ∷ before

abbrev pub next_slot : Slot
next_slot = slot_at first_id 1

abbrev pub deleted_vote : Vote
deleted_vote = vote_at first_ballot deleted

-- the cancel_sm is the second request
abbrev pub cancel_name : Name
cancel_name = record { node = 1; incarnation = 1; ticket = 2 }

-- it is asked how far the message has come, and the message is deleted
abbrev pub cancelled : List NodeInput
cancelled =
    come (Voted 1 next_slot deleted_vote)
    ∷ come (Propose 1 next_slot deleted_vote)
    ∷ come (Promise 1 next_slot first_ballot None)
    ∷ come (Prepare 1 next_slot first_ballot)
    ∷ come (Tell 1 cancel_name (Some (top_at first_slot taken_vote)))
    ∷ come (Ask 1 first_id cancel_name)
    ∷ comes_to 1 cancels
    ∷ submitted

-- ESME_ROK to the cancel_sm
abbrev pub removed : Reply
removed = record { ticket = 2; id = first_id; answer = Removed deleted }

pub record WasToldDeleted : Type 0 where
  pub outputs : Outputs
  pub given : In outputs (cluster_outputs alone cancelled)
  pub told : In removed outputs.replies

-- no store is new, and no start failed
abbrev pub none_new : ℕ → Bool
none_new node = false

abbrev pub none_lost : ℕ → ℕ
none_lost node = 0

-- ---- the journal: the node opened, in its second incarnation

-- its round 2 in the slot of the vote that it recorded, and its round 1 in the one behind
abbrev pub following_ballot : ℕ
following_ballot = 524321

abbrev pub telling_ballot : ℕ
telling_ballot = 262177

abbrev pub last_slot : Slot
last_slot = slot_at first_id 2

abbrev pub told_anew : List Decree
told_anew = decreed_again midnight Told ∷ deleted

abbrev pub receipt : Receipt
receipt = record { id = first_id; chain = told_anew }

-- what gives out the receipt, and nothing else
pub record TellsIt (telling : Given) : Type 0 where
  pub gives : given_out telling ≡ record nothing { receipts = receipt ∷ [] }
  pub sends : telling.packets ≡ 0

abbrev pub again : Vote
again = vote_at following_ballot deleted

abbrev pub telling_vote : Vote
telling_vote = vote_at telling_ballot told_anew

-- By a tick it follows the vote of its record, and knows that it is chosen; then it tells the receipt.
abbrev pub reopened : (ℕ → Given) → Given → Reach → List Entry
reopened quiet telling reach =
    plainly (record { step = steps.Tick 1 midnight reach; packet = None; given = quiet 1; sent = Prepare 1 next_slot following_ballot ∷ [] })
    ∷ plainly (taking quiet (steps.Deliver 1 1) (Prepare 1 next_slot following_ballot) (Promise 1 next_slot following_ballot (Some deleted_vote) ∷ []))
    ∷ plainly (taking quiet (steps.Deliver 2 1) (Promise 1 next_slot following_ballot (Some deleted_vote)) (Propose 1 next_slot again ∷ []))
    ∷ plainly (taking quiet (steps.Deliver 3 1) (Propose 1 next_slot again) (Voted 1 next_slot again ∷ []))
    ∷ plainly (taking quiet (steps.Deliver 4 1) (Voted 1 next_slot again) (Prepare 1 last_slot telling_ballot ∷ []))
    ∷ plainly (taking quiet (steps.Deliver 5 1) (Prepare 1 last_slot telling_ballot) (Promise 1 last_slot telling_ballot None ∷ []))
    ∷ plainly (taking quiet (steps.Deliver 6 1) (Promise 1 last_slot telling_ballot None) (Propose 1 last_slot telling_vote ∷ []))
    ∷ plainly (taking quiet (steps.Deliver 7 1) (Propose 1 last_slot telling_vote) (Voted 1 last_slot telling_vote ∷ []))
    ∷ plainly (record { step = steps.Deliver 8 1; packet = Some (Voted 1 last_slot telling_vote); given = telling; sent = [] })
    ∷ []
