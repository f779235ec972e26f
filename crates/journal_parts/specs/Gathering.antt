-- Several packets whose steps a node takes behind one save (own).
use Rattle.std.specs.Prelude.{◌≡◌, ◌≤◌, ℕ, List, [], ◌∷◌, ◌++◌, length, map, Option, None}
use Rattle.mc_model.specs.synod.Lists.{In}
use Rattle.mc_model.specs.node.Input.{Delivery}
use Rattle.node_model.specs.Stepped.{stepped}
use Rattle.node_laws.specs.Steps.{IsWellMade}
use Rattle.stable_store.specs.Stored.{Stored}
use Rattle.synod_acceptor.specs.Packets.{packet_of}
use Rattle.synod_acceptor.specs.declared.packet.Packet.{Packet}
use Rattle.node_entry.specs.Taking.{node_at}
use Rattle.node_entry.specs.declared.step.Step.TheVariants as steps
use Rattle.node_core.specs.Input.TheVariants as given
use Rattle.node_core.specs.Keeping.{kept_of}
use Rattle.node_core.specs.Kept.{Kept as Holding}
use Rattle.node_core.specs.Steps.{outputs_of}
use Rattle.journal_laws.specs.Journals.{Entry, IsOwnRun}
use Rattle.journal_parts.specs.declared.done.Done.{Done as Taken}
use Rattle.journal_parts.specs.Entries.{done_of}
use Rattle.journal_parts.specs.Members.{ComesWith, Posted, packet_halted}

-- what a node kept as steps were prepared to be saved together, and the steps as they will stand in the journal
pub record Gathered : Type 0 where
  pub was : Holding
  pub dones : List Taken

-- A packet that waits with others, and its step as it will stand in the journal: it comes to the node that keeps this, and gives out what it would by itself.
pub record IsGathered (k : Holding) (packet : Packet) (done : Taken) : Type 0 where
  pub comes : ComesWith done.step done.packet (given.Packet packet)
  pub well : IsWellMade (packet_of packet)
  pub node : node_at done.step ≡ k.setup.node
  pub gives : outputs_of done.outputs ≡ (stepped k.setup (kept_of k) (Delivery (packet_of packet))).outputs

abbrev pub AreGathered : Holding → List Packet → List Taken → Type 0
AreGathered k [] [] = Unit {0}
AreGathered k [] (done ∷ more) = ⊥
AreGathered k (packet ∷ packets) [] = ⊥
AreGathered k (packet ∷ packets) (done ∷ more) = IsGathered k packet done × AreGathered k packets more

-- all are steps of packets that come to this node
abbrev pub AllDeliver : ℕ → List Taken → Type 0
AllDeliver node dones = (done : Taken) → In done dones → (number : ℕ) × (done.step ≡ steps.Deliver number node)

-- these are the steps of packets with these numbers that come to this node, in their order
abbrev pub AreNumbered : ℕ → List ℕ → List Taken → Type 0
AreNumbered node numbers dones = map (λ (done : Taken). done.step) dones ≡ map (λ (number : ℕ). steps.Deliver number node) numbers

-- the entry of a step that finished all saves
abbrev pub entry_done : Taken → Entry
entry_done done = record { done = done_of done; unfinished = None }

-- The step of this packet stands at a place of these, behind so many others.
pub record IsHaltedAt (dones : List Taken) (place : ℕ) (before : List Taken) (packet : Option Packet) : Type 0 where
  pub done : Taken
  pub left : List Taken
  pub are : dones ≡ before ++ done ∷ left
  pub count : length before ≡ place
  pub packet_is : packet ≡ done.packet

-- It took these steps, the first of them first; and if a save failed, the post has the packet of its step.
pub record TakesSeveral {S : Type 0} (stored : S → Stored) (old : Posted S) (dones : List Taken) (new : Posted S) : Type 0 where
  pub runs : IsOwnRun old.node.kept.setup (kept_of old.node.kept) (map done_of dones) (kept_of new.node.kept)
  pub setup : new.node.kept.setup ≡ old.node.kept.setup
  pub halts : old.node.unfinished ≡ packet_halted old.halted → new.node.unfinished ≡ packet_halted new.halted
  pub doubt : (stored old.node.store).doubt ≤ (stored new.node.store).doubt
