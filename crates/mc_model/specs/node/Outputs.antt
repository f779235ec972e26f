-- What a step gives out: packets, replies and receipts, each in its order.
use Rattle.std.specs.Prelude.{◌≡◌, ℕ, suc, List, [], ◌∷◌, ◌++◌, length, reverse, Option, Some, None}
use Rattle.mc_model.specs.message.Decree.{Decree}
use Rattle.mc_model.specs.synod.Packet.{Packet, Slot}
use Rattle.mc_model.specs.synod.Acceptor.{Records}
use Rattle.mc_model.specs.node.Actor.{Actor}
use Rattle.mc_model.specs.node.Replies.{Answer}
use Rattle.mc_model.specs.node.Act.{Act, Replies, Reports}
use Rattle.mc_model.specs.node.Effect.{did, packets_by, saved}
use Rattle.mc_model.specs.node.Input.{Arrival, Grant, Input, Refusal}

-- an answer to the request of a ticket, and a receipt by a chain
pub record Reply : Type 0 where
  pub ticket : ℕ
  pub id : ℕ
  pub answer : Answer

pub record Receipt : Type 0 where
  pub id : ℕ
  pub chain : List Decree

-- all lists have the oldest first
pub record Outputs : Type 0 where
  -- the ticket of a request that waits, and the command_status of one that does not
  pub ticket : Option ℕ
  pub refused : Option ℕ
  pub packets : List Packet
  pub replies : List Reply
  pub receipts : List Receipt
  -- the attempt that is granted
  pub granted : Option Slot

-- ---- by acts, of which the newest stands first

abbrev pub packets_in : ℕ → Actor → Records → List Act → List Packet
packets_in node a records [] = []
packets_in node a records (newest ∷ older) =
    packets_by node (did node a older) (saved records older) newest ++ packets_in node a records older

abbrev pub replies_in : List Act → List Reply
replies_in [] = []
replies_in (Replies ticket id answer ∷ older) = record { ticket = ticket; id = id; answer = answer } ∷ replies_in older
replies_in (act ∷ older) = replies_in older

abbrev pub receipts_in : List Act → List Receipt
receipts_in [] = []
receipts_in (Reports id chain ∷ older) = record { id = id; chain = chain } ∷ receipts_in older
receipts_in (act ∷ older) = receipts_in older

abbrev pub ticket_of : Actor → Input → Option ℕ
ticket_of a (Arrival request) = Some a.ticket
ticket_of a input = None

abbrev pub refused_by : Input → Option ℕ
refused_by (Refusal status) = Some status
refused_by input = None

abbrev pub granted_by : Input → Option Slot
granted_by (Grant slot) = Some slot
granted_by input = None

abbrev pub outputs_of : ℕ → Actor → Records → Input → List Act → Outputs
outputs_of node a records input acts = record {
  ticket = ticket_of a input;
  refused = refused_by input;
  packets = reverse (packets_in node a records acts);
  replies = reverse (replies_in acts);
  receipts = reverse (receipts_in acts);
  granted = granted_by input;
}

-- ---- the numbers of packets, from 1 in the order of sending

-- of packets with the newest first
pub record HasNumber (packets : List Packet) (number : ℕ) (packet : Packet) : Type 0 where
  pub newer : List Packet
  pub older : List Packet
  pub split : packets ≡ newer ++ packet ∷ older
  pub number_is : number ≡ suc (length older)
