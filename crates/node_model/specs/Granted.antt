-- The attempts of a node that are granted and not closed.
use Rattle.std.specs.Prelude.{ℕ, pred, Bool, ◌&&◌, not, is_some, List, length, Option, Some, None}
use Rattle.mc_model.specs.message.Decree.{Decree}
use Rattle.mc_model.specs.synod.Packet.{Slot, slot_at}
use Rattle.node_model.specs.Message.{Message}
use Rattle.node_model.specs.Kept.{Kept, message_at}

-- the slot in which a chain that is known stands
abbrev pub known_place : Option (List Decree) → ℕ
known_place None = 0
known_place (Some chain) = pred (length chain)

abbrev pub known_slot : Kept → ℕ → Slot
known_slot k id = slot_at id (known_place (message_at k id).known)

-- an attempt that was granted and is not closed
abbrev pub is_open_in : Message → ℕ → Bool
is_open_in m place = m.granted place && not (is_some (m.closed place))

abbrev pub is_open : Kept → Slot → Bool
is_open k slot = is_open_in (message_at k slot.id) slot.place
