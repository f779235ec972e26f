-- A stop in the save of a packet's step, and what a node tells of it.
use Rattle.std.specs.Prelude.{◌≡◌, ◌↔◌, ◌⊎◌, Bool, true, false, List, [], ◌∷◌, Option, Some, None}
use Rattle.mc_model.specs.synod.Acceptor.{Records}
use Rattle.stable_store.specs.Stored.{AreSame}
use Rattle.synod_acceptor.specs.declared.packet.Packet.{Packet as Sent}
use Rattle.node_kept.specs.declared.kept.Kept.{Kept as Holding}
use Rattle.node_kept.specs.declared.stopped.Found.{Found}
use Rattle.node_kept.specs.declared.stopped.Found.TheVariants.{After, Before}
use Rattle.node_kept.specs.declared.stopped.Stopped.{Stopped}
use Rattle.node_kept.specs.Grouping.{left_by, left_by_all}
use Rattle.node_kept.specs.Keeping.{records_of}

-- The save of this packet's step failed: what is stored is what is kept, or what the step leaves, which is something else.
pub record IsHalted (k : Holding) (stored : Records) (packet : Sent) : Type 0 where
  pub found : AreSame stored (records_of k.messages.entries) ⊎ AreSame stored (left_by k packet)
  pub changes : AreSame (left_by k packet) (records_of k.messages.entries) → ⊥

-- no save failed, and what is stored is what is kept; or that of this packet's step failed
abbrev pub IsUnfinished : Holding → Records → Option Sent → Type 0
IsUnfinished k stored None = AreSame stored (records_of k.messages.entries)
IsUnfinished k stored (Some packet) = IsHalted k stored packet

-- The save of a group failed: what is stored is what is kept, or what the steps of its packets leave together.
abbrev pub IsEither : Holding → Records → List Sent → Type 0
IsEither k stored packets = AreSame stored (records_of k.messages.entries) ⊎ AreSame stored (left_by_all k packets)

-- what is stored, if these packets wait till it is known
abbrev pub IsUnknown : Holding → Records → Option Sent → List Sent → Type 0
IsUnknown k stored unfinished [] = IsUnfinished k stored unfinished
IsUnknown k stored unfinished (first ∷ others) = IsEither k stored (first ∷ others)

-- ---- what is told of it

-- this packet, Before exactly if what is stored is what was kept, and After exactly if it is what the packet's step leaves
pub record IsToldOf (k : Holding) (stored : Records) (packet : Sent) (told : Stopped) : Type 0 where
  pub is : told.packet ≡ packet
  pub before : (told.found ≡ Before) ↔ AreSame stored (records_of k.messages.entries)
  pub after : (told.found ≡ After) ↔ AreSame stored (left_by k packet)

-- and nothing if no save failed
abbrev pub IsTold : Holding → Records → Option Sent → Option Stopped → Type 0
IsTold k stored None told = told ≡ None
IsTold k stored (Some packet) None = ⊥
IsTold k stored (Some packet) (Some told) = IsToldOf k stored packet told

abbrev pub is_after : Found → Bool
is_after Before = false
is_after After = true
