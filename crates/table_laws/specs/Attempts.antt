-- What the table of a node by itself says of attempts that are asked for, and of what came of one (own).
use Rattle.std.specs.Prelude.{ℕ, pred, Bool, true, ◌==◌, not, List, [], ◌∷◌, length, Option, Some, None, if◌then◌else◌}
use Rattle.mc_model.specs.message.Decree.{Attempt, Decree, Failed, Fate, Told, Kind, Taken}
use Rattle.mc_model.specs.synod.Packet.{Slot, slot_at}
use Rattle.mc_model.specs.node.Grant.{AlreadyGranted, GrantRefusal, NotChosen, NotMine, OlderIncarnation}
use Rattle.mc_model.specs.node.Outcome.{Outcome, decree_of}
use Rattle.mc_model.specs.node.Outputs.{Receipt}
use Rattle.table_laws.specs.Tables.{TableNode, chain_at, decree_by, decreed, entry_at, receipts_with, with_entry}

-- an attempt of the node in its incarnation is granted once
abbrev pub attempt_refusal : TableNode → Bool → Decree → Option GrantRefusal
attempt_refusal t granted newest =
    if not (newest.author.node == 1) then Some NotMine
    else if not (newest.author.incarnation == t.incarnation) then Some OlderIncarnation
    else if granted then Some AlreadyGranted
    else None

abbrev pub newest_refusal : TableNode → Bool → Decree → Kind → Option GrantRefusal
newest_refusal t granted newest (Taken message) = Some NotChosen
newest_refusal t granted newest (Attempt number) = attempt_refusal t granted newest
newest_refusal t granted newest (Failed error) = Some NotChosen
newest_refusal t granted newest (Fate final error) = Some NotChosen
newest_refusal t granted newest Told = Some NotChosen

abbrev pub chain_refusal : TableNode → Bool → List Decree → Option GrantRefusal
chain_refusal t granted [] = Some NotChosen
chain_refusal t granted (newest ∷ older) = newest_refusal t granted newest newest.kind

-- why an attempt of a message is not granted, if it is not
abbrev pub refusal_at : TableNode → ℕ → Option GrantRefusal
refusal_at t id = chain_refusal t (entry_at t.table id).granted (chain_at t.table id)

-- the place of the newest decree on the chain of a message
abbrev pub newest_slot : TableNode → ℕ → Slot
newest_slot t id = slot_at id (pred (length (chain_at t.table id)))

-- an attempt is granted
abbrev pub granted_at : TableNode → ℕ → TableNode
granted_at t id = record t { table = with_entry t.table id (record (entry_at t.table id) { granted = true }) }

-- its outcome is decreed
abbrev pub concluded_at : TableNode → ℕ → Outcome → TableNode
concluded_at t id outcome = record t { table = decreed t id (decree_of outcome) }

abbrev pub receipts_on : TableNode → ℕ → Outcome → List Receipt
receipts_on t id outcome = receipts_with t id (chain_at t.table id) (decree_by t (chain_at t.table id) (decree_of outcome))
