-- The network: every packet that was ever sent (own; Paxos Made Simple, section 2.1: messages can take arbitrarily long, be duplicated and lost).
use Rattle.std.specs.Prelude.{ℕ, zero, suc, List, Option, None}
use Rattle.std.specs.List.{slice_get}
use Rattle.synod_acceptor.specs.declared.packet.Packet.{Packet}

-- These were sent, the oldest first; there is room for so many more.
pub record Network : Type 0 where
  pub sent : List Packet
  pub room : ℕ

-- Packets are numbered from 1 in the order of sending.
abbrev pub numbered : {A : Type 0} → List A → ℕ → Option A
numbered packets zero = None
numbered packets (suc place) = slice_get packets place
