-- The table of a node by itself: the chain of each message, and what a request makes of it and is answered (own; SMPP 3.4, 4.4.2,
-- 4.8.2 and 4.9.2).
use Rattle.std.specs.Prelude.{◌≡◌, ℕ, suc, max, Bool, false, ◌==◌, ◌&&◌, not, List, [], ◌∷◌, Option, Some, None, if◌then◌else◌}
use Rattle.std.specs.Option.{unwrap_or}
use Rattle.std.specs.Ordering.{nat_cmp}
use Rattle.std.specs.Map.{lookup}
use Rattle.std.specs.BTreeMap.{insert_entry, is_at}
use Rattle.mc_model.specs.message.Ids.{IsSerial, id_of}
use Rattle.mc_model.specs.message.Submission.{Submission}
use Rattle.mc_model.specs.message.Decree.{Attempt, Decree, Deleted, Failed, Fate, Final, Kind, Taken, Told}
use Rattle.mc_model.specs.message.Chain.{final_in, home_in, taken_in}
use Rattle.mc_model.specs.node.Actor.{Cancel, Query, Request, Submit, id_in, opening_clock}
use Rattle.mc_model.specs.node.Effect.{next_serial}
use Rattle.mc_model.specs.node.Outputs.{Receipt, Reply}
use Rattle.mc_model.specs.node.Replies.{Accepted, Answer, Kept, NotMatched, NotOwner, Removed, Shown, Unknown}
use Rattle.node_model.specs.Answers.{had_fate, is_asked, is_match, is_owner, receipts_of}
use Rattle.node_model.specs.Starts.{is_idle}

-- The decrees on a message, the newest first, and whether the newest is an attempt that was granted.
pub record Entry : Type 0 where
  pub chain : List Decree
  pub granted : Bool

-- from id to entry, the ids ascending
abbrev pub Table : Type 0
Table = List (ℕ × Entry)

-- there is no such message
abbrev pub nothing : Entry
nothing = record { chain = []; granted = false }

abbrev pub entry_at : Table → ℕ → Entry
entry_at table id = unwrap_or (lookup (is_at (nat_cmp id)) table) nothing

abbrev pub chain_at : Table → ℕ → List Decree
chain_at table id = (entry_at table id).chain

abbrev pub with_entry : Table → ℕ → Entry → Table
with_entry table id entry = insert_entry nat_cmp table id entry

-- The table, the incarnation and the clock of its node, the serial of the next message and the ticket of the next request.
pub record TableNode : Type 0 where
  pub incarnation : ℕ
  pub clock : ℕ
  pub serial : ℕ
  pub ticket : ℕ
  pub table : Table

-- of a node that has a new store: there is no message
abbrev pub new_table : ℕ → TableNode
new_table first_serial = record { incarnation = 1; clock = opening_clock; serial = first_serial; ticket = 1; table = [] }

-- what is known of a message with this chain
abbrev pub known_as : List Decree → Option (List Decree)
known_as [] = None
known_as (newest ∷ older) = Some (newest ∷ older)

-- ---- decrees

-- at the clock, or at the moment of the newest decree, if that is later
abbrev pub moment_behind : ℕ → List Decree → ℕ
moment_behind clock [] = clock
moment_behind clock (newest ∷ older) = max clock newest.moment

-- node 1 decrees
abbrev pub decree_by : TableNode → List Decree → Kind → Decree
decree_by t chain kind = record {
  author = record { node = 1; incarnation = t.incarnation };
  moment = moment_behind t.clock chain;
  kind = kind;
}

-- one decree more stands on the chain
abbrev pub extended : List Decree → Decree → Entry
extended chain decree = record { chain = decree ∷ chain; granted = false }

-- node 1 took the message, and asked for a receipt on this final state
abbrev pub is_to_tell : Submission → List Decree → Kind → Bool
is_to_tell message chain (Taken taken) = false
is_to_tell message chain (Attempt number) = false
is_to_tell message chain (Failed error) = false
is_to_tell message chain (Fate final error) = (1 == home_in chain) && is_asked final message
is_to_tell message chain Told = false

abbrev pub asks_told : List Decree → Kind → Option Submission → Bool
asks_told chain kind None = false
asks_told chain kind (Some message) = is_to_tell message chain kind

-- a decree behind this chain is its first final state, and the receipt on it is to be told
abbrev pub tells : List Decree → Decree → Bool
tells old decree = not (had_fate (known_as old)) && asks_told (decree ∷ old) decree.kind (taken_in (decree ∷ old))

-- it is told at once
abbrev pub told_behind : TableNode → List Decree → Decree → List Decree
told_behind t old decree = if tells old decree then decree_by t (decree ∷ old) Told ∷ decree ∷ old else decree ∷ old

abbrev pub settled : TableNode → List Decree → Decree → Entry
settled t old decree = record { chain = told_behind t old decree; granted = false }

abbrev pub decreed : TableNode → ℕ → Kind → Table
decreed t id kind = with_entry t.table id (settled t (chain_at t.table id) (decree_by t (chain_at t.table id) kind))

-- by the Told that the node decreed, a receipt goes out
abbrev pub receipts_with : TableNode → ℕ → List Decree → Decree → List Receipt
receipts_with t id old decree = receipts_of 1 t.incarnation id (known_as old) (told_behind t old decree)

-- ---- what a request is answered, by the chain then

-- a query_sm about a message, if there is such a message
abbrev pub shown : List ℕ → List ℕ → List Decree → Option Submission → Answer
shown account source chain None = Unknown
shown account source chain (Some message) = if is_owner message account source then Shown chain else NotOwner

-- a cancel_sm that matches, by the state: ESME_ROK if the message is DELETED
abbrev pub removed : Option Final → List Decree → Answer
removed (Some Deleted) chain = Removed chain
removed state chain = Kept chain

abbrev pub removed_in : List Decree → Answer
removed_in [] = Unknown
removed_in (newest ∷ older) = removed (final_in (newest ∷ older)) (newest ∷ older)

abbrev pub cancelled : List ℕ → List ℕ → List ℕ → List Decree → Option Submission → Answer
cancelled account source destination chain None = Unknown
cancelled account source destination chain (Some message) =
    if is_match message account source destination then removed_in chain else NotMatched chain

abbrev pub answer_by : Request → List Decree → Answer
answer_by (Submit id message) chain = Accepted
answer_by (Query id account source) chain = shown account source chain (taken_in chain)
answer_by (Cancel id account source destination) chain = cancelled account source destination chain (taken_in chain)

-- ---- what a request makes of the table

abbrev pub is_meant : List ℕ → List ℕ → List ℕ → Option Submission → Bool
is_meant account source destination None = false
is_meant account source destination (Some message) = is_match message account source destination

-- a cancel_sm deletes a message that it matches while no attempt of it is under way and it has no final state
abbrev pub is_deleted : List ℕ → List ℕ → List ℕ → List Decree → Bool
is_deleted account source destination [] = false
is_deleted account source destination (newest ∷ older) =
    is_idle newest.kind && is_meant account source destination (taken_in (newest ∷ older))

abbrev pub table_by : TableNode → Request → Table
table_by t (Submit id message) = decreed t id (Taken message)
table_by t (Query id account source) = t.table
table_by t (Cancel id account source destination) =
    if is_deleted account source destination (chain_at t.table id) then decreed t id (Fate Deleted 0) else t.table

-- ---- a request comes to the table

-- a submit_sm has the next id of the node
pub record IsNext (t : TableNode) (id : ℕ) : Type 0 where
  pub serial : IsSerial t.serial
  pub id_is : id ≡ id_of 1 t.incarnation t.serial

abbrev pub MayCome : TableNode → Request → Type 0
MayCome t (Submit id message) = IsNext t id
MayCome t (Query id account source) = Unit {0}
MayCome t (Cancel id account source destination) = Unit {0}

abbrev pub requested : TableNode → Request → TableNode
requested t request = record t { serial = next_serial request t.serial; ticket = suc t.ticket; table = table_by t request }

-- it is answered by the chain of its message, and a cancel_sm that deletes it by the deletion
abbrev pub chain_by : TableNode → Request → List Decree
chain_by t (Submit id message) = chain_at t.table id
chain_by t (Query id account source) = chain_at t.table id
chain_by t (Cancel id account source destination) =
    if is_deleted account source destination (chain_at t.table id)
    then decree_by t (chain_at t.table id) (Fate Deleted 0) ∷ chain_at t.table id
    else chain_at t.table id

abbrev pub reply_to : TableNode → Request → Reply
reply_to t request = record { ticket = t.ticket; id = id_in request; answer = answer_by request (chain_by t request) }

-- a receipt goes out on a deletion of which one was asked
abbrev pub receipts_by : TableNode → Request → List Receipt
receipts_by t (Submit id message) = []
receipts_by t (Query id account source) = []
receipts_by t (Cancel id account source destination) =
    if is_deleted account source destination (chain_at t.table id)
    then receipts_with t id (chain_at t.table id) (decree_by t (chain_at t.table id) (Fate Deleted 0))
    else []
