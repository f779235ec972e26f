-- A cluster that starts over stores that are not new.
use Rattle.std.specs.Prelude.{◌≡◌, ℕ, zero, suc, ◌+◌, ◌<◌, Bool, true, false, List, [], ◌∷◌, if◌then◌else◌}
use Rattle.mc_model.specs.synod.Acceptor.{Records}
use Rattle.mc_model.specs.node.Actor.{opened}
use Rattle.mc_model.specs.node.Act.{Act, Restarts}
use Rattle.mc_model.specs.cluster.Assembly.{acts_of}
use Rattle.mc_model.specs.cluster.World.{Run, world_of, World}

-- a cluster whose nodes start over records, each in an incarnation, with the serial of its first message
abbrev pub start_over : ℕ → (ℕ → Records) → (ℕ → ℕ) → (ℕ → ℕ) → World
start_over nodes records incarnations serials = record {
  nodes = nodes;
  packets = [];
  votes = [];
  records = records;
  actors = λ node. opened (incarnations node) (serials node);
  past = [];
}

-- each of the nodes starts anew, but those whose store is new
abbrev pub openings : ℕ → (ℕ → Bool) → (ℕ → ℕ) → (ℕ → ℕ) → List (ℕ × Act)
openings zero fresh lost serials = []
openings (suc node) fresh lost serials =
    if fresh (suc node) then openings node fresh lost serials
    else (suc node, Restarts (lost (suc node)) (serials (suc node))) ∷ openings node fresh lost serials

-- the incarnation in which a node is opened
abbrev pub opened_in : World → (ℕ → Bool) → (ℕ → ℕ) → ℕ → ℕ
opened_in w fresh lost node = if fresh node then 1 else suc ((w.actors node).incarnation + lost node)

-- The stores that a run left: a new one is of a node that took no step in it, and the others have an incarnation left.
pub record AreLeft (run : Run) (fresh : ℕ → Bool) (lost : ℕ → ℕ) : Type 0 where
  pub new : (node : ℕ) → fresh node ≡ true → acts_of node run.acts ≡ []
  pub old : (node : ℕ) → fresh node ≡ false → ((world_of run).actors node).incarnation + lost node < 9999

-- the first serials of such a run, where each node with a new store has the one that it is opened with
abbrev pub serials_over : (ℕ → ℕ) → (ℕ → Bool) → (ℕ → ℕ) → ℕ → ℕ
serials_over before fresh serials node = if fresh node then serials node else before node
