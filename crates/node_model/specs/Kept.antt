-- What a node keeps.
use Rattle.std.specs.Prelude.{ℕ, Bool, List, Option}
use Rattle.std.specs.Option.{unwrap_or}
use Rattle.std.specs.Ordering.{nat_cmp}
use Rattle.std.specs.Map.{lookup}
use Rattle.std.specs.BTreeMap.{insert_entry, is_at}
use Rattle.mc_model.specs.message.Decree.{Author}
use Rattle.mc_model.specs.synod.Packet.{Name, Slot, TopVote}
use Rattle.mc_model.specs.synod.Acceptor.{Records, SlotRecord, with_record}
use Rattle.mc_model.specs.node.Actor.{Waiting}
use Rattle.mc_model.specs.node.Setup.{Setup}
use Rattle.node_model.specs.Message.{Message, unseen}

-- A request that waits: who told to its questions, and of what they told the vote at the highest place, and there at the highest
-- ballot.
pub record Held : Type 0 where
  pub waiting : Waiting
  pub tellers : ℕ → Bool
  pub top : Option TopVote

-- The records outlive a stop. Requests stand by ascending tickets, and the messages that it heard of by ascending ids; among them
-- is each of which there is a record.
pub record Kept : Type 0 where
  pub records : Records
  pub up : Bool
  pub incarnation : ℕ
  pub clock : ℕ
  pub serial : ℕ
  pub ticket : ℕ
  pub held : List Held
  pub messages : List (ℕ × Message)

-- what is kept of a message: of one that was never heard of, nothing
abbrev pub message_at : Kept → ℕ → Message
message_at k id = unwrap_or (lookup (is_at (nat_cmp id)) k.messages) unseen

abbrev pub with_message : Kept → ℕ → Message → Kept
with_message k id message = record k { messages = insert_entry nat_cmp k.messages id message }

-- a record is saved
abbrev pub saved : Kept → Slot → SlotRecord → Kept
saved k slot new = record (with_message k slot.id (message_at k slot.id)) { records = with_record k.records slot new }

-- by whom its decrees are, and the name of a request's questions
abbrev pub author_at : Setup → Kept → Author
author_at setup k = record { node = setup.node; incarnation = k.incarnation }

abbrev pub name_at : Setup → Kept → ℕ → Name
name_at setup k ticket = record { node = setup.node; incarnation = k.incarnation; ticket = ticket }
