-- What a site does, in the words of the text of a script.
use Rattle.std.specs.Prelude.{◌≡◌, ℕ, suc, true, List, [], ◌++◌, length, reverse, slice_get, Some, Ok}
use Rattle.mc_model.specs.node.Outputs.{Receipt, Reply}
use Rattle.mc_model.specs.cluster.Steps.{Cluster}
use Rattle.mc_model.specs.synod.Packet.{Packet}
use Rattle.node_laws.specs.Clusters.{NodeInput, kept_reached}
use Rattle.world.specs.Runs.{IsAt, Leads, leaves_up}
use Rattle.world.specs.Taking.{node_at}
use Rattle.world.specs.Scenes.{Scene, is_up_in}
use Rattle.world.specs.declared.given.Given.{Given}
use Rattle.world.specs.Step.{Step}
use Rattle.script_text.specs.Left.{followed_by}
use Rattle.script_text.specs.Attempts.{Went}
use Rattle.script_text.specs.Node.{Node}
use Rattle.script_text.specs.Prints.{text_at}
use Rattle.script_text.specs.Runner.{Acted, Runner, Told, posts, told}
use Rattle.script_text.specs.Runs.{IsNodeOf}
use Rattle.script_text.specs.World.{World}
use Rattle.script_site.specs.declared.site.Site.{Site}

-- ---- a node that does something

-- A world of the code stands in a run of the model's cluster, in which a node is as this one of a script, and each other node as in a script's world:
-- what this node sent, and is still to be taken from it, stands behind the packets of that world.
pub record IsAmong (home : ℕ) (scene : Scene) (w : World) (node : Node) : Type 0 where
  pub cluster : Cluster
  pub inputs : List NodeInput
  pub at : IsAt cluster [] inputs scene
  pub count : length w.runners ≡ cluster.nodes
  pub one : IsNodeOf cluster inputs home node
  pub others : (place : ℕ) (runner : Runner) → slice_get w.runners place ≡ Some runner → (suc place ≡ home → ⊥) → IsNodeOf cluster inputs (suc place) runner.node
  pub packets : (kept_reached cluster inputs).packets ≡ reverse (w.packets ++ node.packets)

-- and it is up
pub record IsGoing (home : ℕ) (scene : Scene) (w : World) (node : Node) : Type 0 where
  pub among : IsAmong home scene w node
  pub up : is_up_in scene home ≡ true

-- The world took this step of its node, and gave this out.
pub record Takes (old : Scene) (step : Step) (given : Given) (new : Scene) : Type 0 where
  pub leads : Leads old step (Ok given) new
  pub up : is_up_in new (node_at step) ≡ leaves_up step

-- The world took no step.
abbrev pub StandsStill : Scene → Scene → Type 0
StandsStill old new = (cluster : Cluster) (behind : List Packet) (inputs : List NodeInput) → IsAt cluster behind inputs old → IsAt cluster behind inputs new

-- wherever its node stood, this came of attempts there
abbrev pub Goes : ℕ → (Node → Went) → Scene → Scene → Type 0
Goes home act old new = (w : World) (node : Node) → IsGoing home old w node → IsGoing home new w (act node).next

-- ---- its site

-- a site, and the world in which its node is
pub record Placed : Type 0 where
  pub world : Scene
  pub site : Site

-- They are as a runner of a script, beside the others of a script's world.
pub record IsRunning (home : ℕ) (at : Placed) (w : World) (runner : Runner) : Type 0 where
  pub home_is : at.site.node ≡ home
  pub going : IsGoing home at.world w runner.node
  pub sessions : at.site.service.sessions ≡ runner.sessions
  pub streams : at.site.streams ≡ runner.streams
  pub waiting : at.site.service.waiting ≡ runner.waiting

-- This was done: they are as what it leaves, and the text of what it prints was added.
pub record HasActed (home : ℕ) (w : World) (acted : Acted) (new : Placed) (before after : List ℕ) : Type 0 where
  pub running : IsRunning home new w acted.next
  pub text : after ≡ before ++ text_at home acted.prints

-- as whatever runner they were
abbrev pub Acts : ℕ → (Runner → Acted) → Placed → Placed → List ℕ → List ℕ → Type 0
Acts home act old new before after = (w : World) (runner : Runner) → IsRunning home old w runner → HasActed home w (act runner) new before after

-- ---- what a step gave out

abbrev pub replies_to : Runner → Told → Acted
replies_to runner told = record { next = record runner { sessions = told.next }; inputs = []; prints = told.prints }

-- its replies go out, and then its receipts
abbrev pub tells : Runner → List Reply → List Receipt → Acted
tells runner replies receipts =
    followed_by (replies_to runner (told runner.sessions replies)) (posts (replies_to runner (told runner.sessions replies)).next receipts)
