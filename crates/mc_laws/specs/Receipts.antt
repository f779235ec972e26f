-- What a receipt stands on, and which step has it told (SMPP 3.4, 5.2.17; the decree Told is own).
use Rattle.std.specs.Prelude.{◌≡◌, ℕ, List, ◌∷◌, ◌++◌, Some}
use Rattle.mc_model.specs.message.Submission.{Submission}
use Rattle.mc_model.specs.message.Decree.{Decree, Fate, Final, Told}
use Rattle.mc_model.specs.message.Receipts.{AsksReceipt}
use Rattle.mc_model.specs.message.Chain.{final_in, home_in, taken_in}
use Rattle.mc_model.specs.synod.Packet.{slot_of}
use Rattle.mc_model.specs.synod.Acceptor.{Records}
use Rattle.mc_model.specs.node.Act.{Act, Prepares}
use Rattle.mc_model.specs.node.Actor.{Actor}
use Rattle.mc_model.specs.node.Effect.{did}
use Rattle.mc_model.specs.node.Input.{Input}
use Rattle.mc_model.specs.node.Knowledge.{Knows}
use Rattle.mc_model.specs.node.Rounds.{MayPrepare}
use Rattle.mc_model.specs.node.Rules.{next_decree}
use Rattle.mc_model.specs.node.Setup.{Setup}
use Rattle.mc_model.specs.node.Step.{IsExact}
use Rattle.mc_model.specs.cluster.World.{Deed}

-- a chain ends in a Told of the node that did a deed, in its incarnation then
pub record EndsInItsTold (deed : Deed) (chain : List Decree) : Type 0 where
  pub told : Decree
  pub older : List Decree
  pub chain_is : chain ≡ told ∷ older
  pub kind : told.kind ≡ Told
  pub author : told.author ≡ record { node = deed.node; incarnation = deed.incarnation }

-- what a node remembers once a step has done what its input does, and has settled and answered too late
abbrev pub seen : (setup : Setup) (a : Actor) (records : Records) (input : Input) (acts : List Act) → IsExact setup a records input acts → Actor
seen setup a records input acts exact = did setup.node a (exact.late ++ exact.settles ++ exact.core)

-- The node that took a message knows a fate of it, of which a receipt is asked; and it knew no final state of it before.
pub record HasToTell (setup : Setup) (before a : Actor) (id : ℕ) (fate : Decree) (older : List Decree) : Type 0 where
  pub taken : Submission
  pub final : Final
  pub error : ℕ
  pub known : Knows setup.nodes a.received id (fate ∷ older)
  pub ends : fate.kind ≡ Fate final error
  pub message : taken_in (fate ∷ older) ≡ Some taken
  pub asked : AsksReceipt final taken
  pub home : home_in (fate ∷ older) ≡ setup.node
  pub new : (known_before : List Decree) (state : Final) → Knows setup.nodes before.received id known_before → final_in known_before ≡ Some state → ⊥

-- a fate with the Told that the node puts behind it
abbrev pub with_told : Setup → Actor → Decree → List Decree → List Decree
with_told setup a fate older = next_decree setup.node a fate Told ∷ fate ∷ older

-- no round of the message runs, and this is the next ballot
abbrev pub MayTell : Setup → Actor → Records → ℕ → Decree → List Decree → ℕ → Type 0
MayTell setup a records id fate older ballot = MayPrepare setup.nodes setup.node a records (slot_of id (with_told setup a fate older)) ballot

-- the round of that Told is started
abbrev pub starts_told : Setup → Actor → ℕ → Decree → List Decree → ℕ → Act
starts_told setup a id fate older ballot = Prepares (slot_of id (with_told setup a fate older)) ballot (with_told setup a fate older)
