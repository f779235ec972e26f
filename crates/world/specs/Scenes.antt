-- The nodes of a cluster and the packets between them, as they stand (own).
use Rattle.std.specs.Prelude.{ℕ, Bool, false, List, Option, Some, None, if◌then◌else◌}
use Rattle.mc_model.specs.node.Actor.{opening_clock}
use Rattle.stable_store.specs.Stored.{Listed}
use Rattle.synod_acceptor.specs.declared.packet.Packet.{Packet}
use Rattle.node_runs.specs.Nodes.{Standing}
use Rattle.sim_net.specs.Network.{numbered}

-- a node over a store in memory, and whether it is up
pub record Placed : Type 0 where
  pub node : Standing Listed
  pub up : Bool

-- The nodes, from 1 on; every packet that was sent, the oldest first; and whether no step was taken yet since all stores were new.
pub record Scene : Type 0 where
  pub members : List Placed
  pub packets : List Packet
  pub fresh : Bool

-- ---- what can be asked of a node

abbrev pub is_up : Option Placed → Bool
is_up None = false
is_up (Some m) = m.up

-- whether a node is up: one that there is not is not
abbrev pub is_up_in : Scene → ℕ → Bool
is_up_in w node = is_up (numbered w.members node)

abbrev pub clock_of : Option Placed → ℕ
clock_of None = opening_clock
clock_of (Some m) = if m.up then m.node.kept.clock else opening_clock

-- the clock of a node: one that is down has none, and begins anew with the first moment
abbrev pub clock_in : Scene → ℕ → ℕ
clock_in w node = clock_of (numbered w.members node)
