-- Loose runs: runs in which an act needs no more than the fate of a message rests on (own). Each run is a loose one.
use Rattle.std.specs.Prelude.{ℕ, List, [], ◌∷◌}
use Rattle.mc_model.specs.message.Decree.{Decree}
use Rattle.mc_model.specs.synod.Lists.{In}
use Rattle.mc_model.specs.synod.Packet.{Propose}
use Rattle.mc_model.specs.synod.Acceptor.{MayPromise, MayVote}
use Rattle.mc_model.specs.node.Knowledge.{Knows}
use Rattle.mc_model.specs.node.Proposal.{MayPropose}
use Rattle.mc_model.specs.node.Grant.{MayGrant}
use Rattle.mc_model.specs.node.Act.{Act, Concludes, Grants, Promises, Proposes, Receives, Votes}
use Rattle.mc_model.specs.cluster.World.{IsChosenIn, StandsIn, World, reached, start}
use Rattle.mc_model.specs.cluster.Fate.{TellsOf}

-- What an act needs at least. It is left open whether the node is up, whether it was asked for a promise, which requests it takes and when they are settled,
-- what it tells others, and what an answer rests on that states no fate.
abbrev pub NeedsAtLeast : World → ℕ → Act → Type 0
NeedsAtLeast w node (Receives packet) = In packet w.packets
NeedsAtLeast w node (Promises slot ballot sent) = MayPromise (w.records node slot) ballot
NeedsAtLeast w node (Votes slot vote sent) =
    MayVote (w.records node slot) vote.ballot × (sender : ℕ) × In (Propose sender slot vote) (w.actors node).received
NeedsAtLeast w node (Proposes slot vote) =
    MayPropose w.nodes (λ packet. In packet w.packets) (StandsIn w) (IsChosenIn w) node (w.actors node) slot vote
NeedsAtLeast w node (Grants slot) = MayGrant w.nodes node (w.actors node) slot
NeedsAtLeast w node (Concludes slot outcome) = In slot (w.actors node).granted
NeedsAtLeast w node act = Unit {0}

-- and the node knows the chain of which it tells an ESME
pub record MayLoosely (w : World) (node : ℕ) (act : Act) : Type 0 where
  pub needs : NeedsAtLeast w node act
  pub known : (id : ℕ) (chain : List Decree) → TellsOf act id chain → Knows w.nodes (w.actors node).received id chain

abbrev pub IsLooseRun : World → List (ℕ × Act) → Type 0
IsLooseRun first [] = Unit {0}
IsLooseRun first (newest ∷ older) = MayLoosely (reached first older) newest.0 newest.1 × IsLooseRun first older

pub record LooseRun : Type 0 where
  pub nodes : ℕ
  pub serials : ℕ → ℕ
  pub acts : List (ℕ × Act)
  pub may : IsLooseRun (start nodes serials) acts

-- where it leads
abbrev pub end_of : LooseRun → World
end_of run = reached (start run.nodes run.serials) run.acts
