-- The world of the model to which the inputs of a cluster lead, and what each of its nodes has there.
use Rattle.std.proofs.Common.{◌≡◌, ℕ, ◌≤◌, List, [], ◌∷◌, sym, subst, inl, inr, arith}
use Rattle.mc_model.specs.message.Decree.{Author, Decree}
use Rattle.mc_model.specs.synod.Lists.{In}
use Rattle.mc_model.specs.synod.Packet.{Packet}
use Rattle.mc_model.specs.node.Act.{Act}
use Rattle.mc_model.specs.node.Actor.{Actor}
use Rattle.mc_model.specs.node.Alone.{Node, opened_new as node_new, reached_alone}
use Rattle.mc_model.specs.node.Proposal.{IsOwn}
use Rattle.mc_model.specs.cluster.Assembly.{acts_of}
use Rattle.mc_model.specs.cluster.Steps.{Cluster, acts_in, setup_of}
use Rattle.mc_model.specs.cluster.World.{IsChosenIn, IsRun, World, after, reached, start}
use Rattle.mc_laws.proofs.invariant.Growth.{Grows, grows}
use Rattle.mc_laws.proofs.invariant.Proposals.{AllProposed, good_after}
use Rattle.mc_laws.proofs.invariant.Reached.{Holds, holds}
use Rattle.mc_laws.proofs.step.Behind.{steps_run}
use Rattle.mc_laws.proofs.step.Together.{alone}
use Rattle.node_laws.specs.Clusters.{MayHappen, NodeInput, RunsTogether, kept_reached, world_at}
use Rattle.node_laws.specs.Stands.{Stands}
use Rattle.node_laws.proofs.cluster.Clustered.{clustered}

-- ---- no decree is by an incarnation that is still to come

abbrev pub WasAuthored : World → ℕ → List Decree → Type 0
WasAuthored w id [] = Unit {0}
WasAuthored w id (newest ∷ older) = newest.author.incarnation ≤ (w.actors newest.author.node).incarnation

authored_still : (w v : World) → Grows w v → (id : ℕ) (chain : List Decree) → WasAuthored w id chain → WasAuthored v id chain
authored_still w v grown id [] was = tt
authored_still w v grown id (newest ∷ older) was = let more = grown.incarnations newest.author.node in omega (arith, was, more)

lived : (w : World) (node : ℕ) (author : Author) → author ≡ record { node = node; incarnation = (w.actors node).incarnation } →
    author.incarnation ≤ (w.actors author.node).incarnation
lived w node author is = subst (λ (a : Author). a.incarnation ≤ (w.actors a.node).incarnation) (sym is) (omega arith)

own_authored : (w : World) (node id : ℕ) (chain : List Decree) → IsOwn (IsChosenIn w) node (w.actors node) id chain → WasAuthored w id chain
own_authored w node id chain (inl first) = subst (WasAuthored w id) (sym first.chain_is) (omega arith)
own_authored w node id chain (inr n) = subst (WasAuthored w id) (sym n.chain_is) (lived w node n.next.author n.author)

pub authored : (nodes : ℕ) (serials : ℕ → ℕ) (acts : List (ℕ × Act)) → IsRun (start nodes serials) acts →
    AllProposed WasAuthored (reached (start nodes serials) acts)
authored nodes serials [] run = λ slot vote proposed. absurd proposed.sent
authored nodes serials (newest ∷ older) run =
    let w : World = reached (start nodes serials) older in
    good_after WasAuthored w (holds nodes serials older run.1).keeps (authored nodes serials older run.1) newest.0 newest.1 run.0
    (authored_still w (after w newest.0 newest.1) (grows w newest.0 newest.1 run.0)) (own_authored w newest.0)

-- ---- where the inputs lead

module _ (cluster : Cluster) (inputs : List NodeInput) (may : MayHappen cluster inputs) where
  abbrev pub together : RunsTogether cluster inputs
  together = clustered cluster inputs may

  abbrev pub world : World
  world = world_at cluster together.steps

  abbrev pub node_at : ℕ → Node
  node_at node = reached_alone node (node_new (cluster.serials node)) (acts_of node (acts_in together.steps))

  pub run : IsRun (start cluster.nodes cluster.serials) (acts_in together.steps)
  run = steps_run cluster (start cluster.nodes cluster.serials) together.steps together.are

  pub world_holds : Holds world
  world_holds = holds cluster.nodes cluster.serials (acts_in together.steps) run

  pub actor_is : (node : ℕ) → world.actors node ≡ (node_at node).actor
  actor_is node = (alone cluster.nodes cluster.serials (acts_in together.steps) node run).actor

  pub node_stands : (node : ℕ) → Stands (setup_of cluster node) ((kept_reached cluster inputs).kept node) (node_at node)
  node_stands node = together.stands node

  -- what a node received was sent
  pub was_sent : (node : ℕ) (packet : Packet) → In packet (node_at node).actor.received → In packet (kept_reached cluster inputs).packets
  was_sent node packet received =
      subst (In packet) (sym together.packets)
      (world_holds.keeps.received node packet (subst (λ (a : Actor). In packet a.received) (sym (actor_is node)) received))
