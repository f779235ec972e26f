-- The cluster: its nodes with their stable records, and the packets between them.
--
-- What nodes do is told in small acts, of which each changes one node. The network is the list of all packets ever sent, any
-- of which may come to any node, again and in any order: that is loss, repetition and reordering.
use Rattle.std.specs.Prelude.{◌⊎◌, ℕ, ◌≤◌, ◌==◌, List, [], ◌∷◌, ◌++◌, if◌then◌else◌}
use Rattle.mc_model.specs.message.Decree.{Decree}
use Rattle.mc_model.specs.synod.Lists.{In}
use Rattle.mc_model.specs.synod.Majority.{Majority}
use Rattle.mc_model.specs.synod.OneSlot.{Vote}
use Rattle.mc_model.specs.synod.Packet.{Packet, Propose, Slot}
use Rattle.mc_model.specs.synod.Acceptor.{Records, blank}
use Rattle.mc_model.specs.node.Actor.{Actor, opened}
use Rattle.mc_model.specs.node.Act.{Act, IsUpFor, Needs, Votes}
use Rattle.mc_model.specs.node.Effect.{actor_by, packets_by, records_by}

-- an act, with the node that did it and its incarnation then
pub record Deed : Type 0 where
  pub node : ℕ
  pub incarnation : ℕ
  pub act : Act

-- a vote that an acceptor has saved
pub record Cast : Type 0 where
  pub acceptor : ℕ
  pub slot : Slot
  pub vote : Vote

abbrev pub cast : ℕ → Slot → Vote → Cast
cast acceptor slot vote = record { acceptor = acceptor; slot = slot; vote = vote }

-- the lists have the newest first
pub record World : Type 0 where
  pub nodes : ℕ
  -- every packet ever sent, and every vote ever saved
  pub packets : List Packet
  pub votes : List Cast
  pub records : ℕ → Records
  pub actors : ℕ → Actor
  pub past : List Deed

-- a majority of the nodes voted for the chain, at one ballot
abbrev pub IsChosenIn : World → Slot → Vote → Type 0
IsChosenIn w slot vote = Majority w.nodes (λ acceptor. In (cast acceptor slot vote) w.votes)

-- a chain stands in a slot where it was proposed there, or voted for
abbrev pub StandsIn : World → Slot → List Decree → Type 0
StandsIn w slot chain =
    ((sender : ℕ) × (ballot : ℕ) × In (Propose sender slot (record { ballot = ballot; chain = chain })) w.packets)
    ⊎ ((acceptor : ℕ) × (ballot : ℕ) × In (cast acceptor slot (record { ballot = ballot; chain = chain })) w.votes)

-- In a cluster any packet that was sent may come, and what a node proposes is judged by all that was sent, voted and chosen
-- anywhere.
pub record May (w : World) (node : ℕ) (act : Act) : Type 0 where
  pub least : 1 ≤ node
  pub most : node ≤ w.nodes
  pub up : IsUpFor (w.actors node) act
  pub needs : Needs w.nodes (λ packet. In packet w.packets) (λ packet. In packet w.packets) (StandsIn w) (IsChosenIn w) node
      (w.actors node) (w.records node) act

abbrev pub sent_by : World → ℕ → Act → List Packet
sent_by w node act = packets_by node (w.actors node) (w.records node) act

abbrev pub votes_by : ℕ → Act → List Cast
votes_by node (Votes slot vote sent) = cast node slot vote ∷ []
votes_by node act = []

-- in place of what a node has
abbrev pub changed : {A : Type 0} → (ℕ → A) → ℕ → A → ℕ → A
changed things node new = λ other. if other == node then new else things other

abbrev pub after : World → ℕ → Act → World
after w node act = record {
  nodes = w.nodes;
  packets = sent_by w node act ++ w.packets;
  votes = votes_by node act ++ w.votes;
  records = changed w.records node (records_by (w.records node) act);
  actors = changed w.actors node (actor_by node (w.actors node) act);
  past = record { node = node; incarnation = (w.actors node).incarnation; act = act } ∷ w.past;
}

-- a cluster that starts with new stores, each node with the serial of its first message
abbrev pub start : ℕ → (ℕ → ℕ) → World
start nodes serials = record {
  nodes = nodes;
  packets = [];
  votes = [];
  records = λ node slot. blank;
  actors = λ node. opened 1 (serials node);
  past = [];
}

-- the world that acts of nodes lead to, and that each of them may be done where it is; the newest act first
abbrev pub reached : World → List (ℕ × Act) → World
reached first [] = first
reached first (newest ∷ older) = after (reached first older) newest.0 newest.1

abbrev pub IsRun : World → List (ℕ × Act) → Type 0
IsRun first [] = Unit {0}
IsRun first (newest ∷ older) = May (reached first older) newest.0 newest.1 × IsRun first older

pub record Run : Type 0 where
  pub nodes : ℕ
  pub serials : ℕ → ℕ
  pub acts : List (ℕ × Act)
  pub may : IsRun (start nodes serials) acts

-- where it leads, and what was done in it, the newest first
abbrev pub world_of : Run → World
world_of run = reached (start run.nodes run.serials) run.acts

abbrev pub past_of : Run → List Deed
past_of run = (world_of run).past
