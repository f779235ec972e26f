-- One node by itself: what it may do by what it received and by its own records.
use Rattle.std.specs.Prelude.{◌≡◌, ◌⊎◌, ℕ, ◌≤◌, List, [], ◌∷◌, ◌++◌, Some}
use Rattle.mc_model.specs.message.Decree.{Decree}
use Rattle.mc_model.specs.synod.Lists.{In}
use Rattle.mc_model.specs.synod.OneSlot.{vote_at}
use Rattle.mc_model.specs.synod.Packet.{Name, Packet, Promise, Propose, Slot, Tell, Voted, top_at}
use Rattle.mc_model.specs.synod.Acceptor.{Records, blank}
use Rattle.mc_model.specs.node.Setup.{Setup}
use Rattle.mc_model.specs.node.Actor.{Actor, opened}
use Rattle.mc_model.specs.node.Knowledge.{IsLearned}
use Rattle.mc_model.specs.node.Act.{Act, IsUpFor, Needs, Restarts}
use Rattle.mc_model.specs.node.Effect.{actor_by, records_by}
use Rattle.mc_model.specs.node.Input.{Input}
use Rattle.mc_model.specs.node.Step.{IsExact}

-- what it holds, its records, and the records with which its incarnation began
pub record Node : Type 0 where
  pub actor : Actor
  pub records : Records
  pub began : Records

-- the packets that a node received
abbrev pub was_received : Node → Packet → Type 0
was_received s packet = In packet s.actor.received

-- A chain stands where a Propose, a vote, or the report of a promise or of a Tell with it was received, or where the node's own
-- records had it when its incarnation began.
abbrev pub StandsAt : Node → Slot → List Decree → Type 0
StandsAt s slot chain =
    ((sender : ℕ) × (ballot : ℕ) × In (Propose sender slot (vote_at ballot chain)) s.actor.received)
    ⊎ (((sender : ℕ) × (ballot : ℕ) × In (Voted sender slot (vote_at ballot chain)) s.actor.received)
    ⊎ (((sender : ℕ) × (asked : ℕ) × (ballot : ℕ) × In (Promise sender slot asked (Some (vote_at ballot chain))) s.actor.received)
    ⊎ (((sender : ℕ) × (name : Name) × (ballot : ℕ)
    × In (Tell sender name (Some (top_at slot (vote_at ballot chain)))) s.actor.received)
    ⊎ ((ballot : ℕ) × ((s.began slot).vote ≡ Some (vote_at ballot chain))))))

-- any packet may come to it, and what it learned is chosen
pub record MayAlone (nodes node : ℕ) (s : Node) (act : Act) : Type 0 where
  pub least : 1 ≤ node
  pub most : node ≤ nodes
  pub up : IsUpFor s.actor act
  pub needs : Needs nodes (λ packet. Unit {0}) (was_received s) (StandsAt s)
      (IsLearned nodes s.actor.received) node s.actor s.records act

abbrev pub began_by : Node → Act → Records
began_by s (Restarts lost serial) = s.records
began_by s act = s.began

abbrev pub after_alone : ℕ → Node → Act → Node
after_alone node s act = record { actor = actor_by node s.actor act; records = records_by s.records act; began = began_by s act }

-- the node that its acts lead to, and that each of them may be done where it is; the newest act first
abbrev pub reached_alone : ℕ → Node → List Act → Node
reached_alone node first [] = first
reached_alone node first (newest ∷ older) = after_alone node (reached_alone node first older) newest

abbrev pub IsRunAlone : ℕ → ℕ → Node → List Act → Type 0
IsRunAlone nodes node first [] = Unit {0}
IsRunAlone nodes node first (newest ∷ older) =
    MayAlone nodes node (reached_alone node first older) newest × IsRunAlone nodes node first older

-- a node that starts over records, in an incarnation, with the serial of its first message; and one that starts with a new store
abbrev pub opened_over : Records → ℕ → ℕ → Node
opened_over records incarnation serial = record { actor = opened incarnation serial; records = records; began = records }

abbrev pub opened_new : ℕ → Node
opened_new serial = opened_over (λ slot. blank) 1 serial

-- each act may be done where it stands, and they are what is due
pub record IsStepAlone (setup : Setup) (s : Node) (input : Input) (acts : List Act) : Type 0 where
  pub run : IsRunAlone setup.nodes setup.node s acts
  pub exact : IsExact setup s.actor s.records input acts

pub record OwnStep : Type 0 where
  pub input : Input
  pub acts : List Act

abbrev pub own_acts : List OwnStep → List Act
own_acts [] = []
own_acts (newest ∷ older) = newest.acts ++ own_acts older

abbrev pub AreStepsAlone : Setup → Node → List OwnStep → Type 0
AreStepsAlone setup first [] = Unit {0}
AreStepsAlone setup first (newest ∷ older) =
    IsStepAlone setup (reached_alone setup.node first (own_acts older)) newest.input newest.acts × AreStepsAlone setup first older
