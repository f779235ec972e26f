-- A cluster whose nodes drop messages that are at rest, forget what they heard of others that are calm, and start anew (own).
use Rattle.std.specs.Prelude.{◌≡◌, ℕ, ◌+◌, ◌<◌, Bool, false, ◌==◌, ◌&&◌, ◌||◌, not, List, [], ◌∷◌, ◌++◌, reverse}
use Rattle.mc_model.specs.cluster.Steps.{Cluster, setup_of}
use Rattle.mc_model.specs.cluster.World.{changed}
use Rattle.mc_model.specs.node.Input.{Input}
use Rattle.mc_model.specs.node.Outputs.{Outputs}
use Rattle.mc_model.specs.synod.Packet.{Packet}
use Rattle.node_model.specs.Granted.{is_open_in}
use Rattle.node_model.specs.Kept.{Kept, message_at}
use Rattle.node_model.specs.Stepped.{opened_new, restarted, stepped}
use Rattle.node_laws.specs.Clusters.{WasSentBefore}
use Rattle.node_laws.specs.Runs.{IsOneOf, IsUpFor, MayCome}
use Rattle.rest_laws.specs.AtRest.{IsAtRest}
use Rattle.rest_laws.specs.Cooled.{IsCalm, cool}
use Rattle.rest_laws.specs.Without.{Spares, without}

-- what remains at each node, what it dropped, of what it forgot all but the chain, and every packet that was ever sent, the newest first
pub record Remains : Type 0 where
  pub kept : ℕ → Kept
  pub gone : ℕ → ℕ → Bool
  pub cold : ℕ → ℕ → Bool
  pub packets : List Packet

-- A node takes the step of an input; it drops a message, or forgets all of one but its chain; it starts anew, after this many starts that failed.
pub data Event : Type 0 where
  Takes : ℕ → Input → Event
  Drops : ℕ → ℕ → Event
  Cools : ℕ → ℕ → Event
  Starts : ℕ → ℕ → Event

-- all nodes open with new stores
abbrev pub all_new : Cluster → Remains
all_new cluster =
    record { kept = λ node. opened_new (setup_of cluster node); gone = λ node id. false; cold = λ node id. false; packets = [] }

-- a set of messages with one more, and with one less
abbrev pub and_also : (ℕ → Bool) → ℕ → ℕ → Bool
and_also some id other = some other || other == id

abbrev pub but_for : (ℕ → Bool) → ℕ → ℕ → Bool
but_for some id other = some other && not (other == id)

-- what remains after an event: a start anew leaves what stands in the store, and what was dropped stays so
abbrev pub remains_then : Cluster → Remains → Event → Remains
remains_then cluster r (Takes node input) = record {
  kept = changed r.kept node (stepped (setup_of cluster node) (r.kept node) input).kept;
  gone = r.gone;
  cold = r.cold;
  packets = reverse (stepped (setup_of cluster node) (r.kept node) input).outputs.packets ++ r.packets;
}
remains_then cluster r (Drops node id) = record {
  kept = changed r.kept node (without (λ other. other == id) (r.kept node));
  gone = changed r.gone node (and_also (r.gone node) id);
  cold = changed r.cold node (but_for (r.cold node) id);
  packets = r.packets;
}
remains_then cluster r (Cools node id) = record {
  kept = changed r.kept node (cool (λ other. other == id) (r.kept node));
  gone = r.gone;
  cold = changed r.cold node (and_also (r.cold node) id);
  packets = r.packets;
}
remains_then cluster r (Starts node lost) = record {
  kept = changed r.kept node (restarted (setup_of cluster node) (r.kept node) lost);
  gone = r.gone;
  cold = changed r.cold node (λ id. false);
  packets = r.packets;
}

-- ---- histories, the newest event first

abbrev pub remains_after : Cluster → List Event → Remains
remains_after cluster [] = all_new cluster
remains_after cluster (newest ∷ older) = remains_then cluster (remains_after cluster older) newest

-- What may happen. A step is of an input that may come to what remains at the node, whose packet was sent, and that is not about what the node dropped. What
-- is dropped is at rest there; of what is forgotten but for its chain, that is over, and no attempt is open. A node may start anew while it has an incarnation
-- left.
abbrev pub MayBe : Cluster → Remains → Event → Type 0
MayBe cluster r (Takes node input) =
    IsOneOf (setup_of cluster node)
    × IsUpFor (r.kept node) input
    × MayCome (setup_of cluster node) (r.kept node) input
    × WasSentBefore r.packets input
    × Spares (r.gone node) input
MayBe cluster r (Drops node id) = IsAtRest (r.kept node) id
MayBe cluster r (Cools node id) = IsCalm (r.kept node) id × ((place : ℕ) → is_open_in (message_at (r.kept node) id) place ≡ false)
MayBe cluster r (Starts node lost) = IsOneOf (setup_of cluster node) × ((r.kept node).incarnation + lost < 9999)

-- each event may happen where it stands
abbrev pub IsHistory : Cluster → List Event → Type 0
IsHistory cluster [] = Unit {0}
IsHistory cluster (newest ∷ older) = MayBe cluster (remains_after cluster older) newest × IsHistory cluster older

-- what a node gives out by its steps; by no other event anything goes out
abbrev pub given_at : Cluster → List Event → ℕ → Input → Outputs
given_at cluster older node input = (stepped (setup_of cluster node) ((remains_after cluster older).kept node) input).outputs

-- all that was given out
abbrev pub given_then : Cluster → List Event → Event → List Outputs → List Outputs
given_then cluster older (Takes node input) given = given_at cluster older node input ∷ given
given_then cluster older (Drops node id) given = given
given_then cluster older (Cools node id) given = given
given_then cluster older (Starts node lost) given = given

abbrev pub given_in : Cluster → List Event → List Outputs
given_in cluster [] = []
given_in cluster (newest ∷ older) = given_then cluster older newest (given_in cluster older)
