-- The centre, as the world of a script.
use Rattle.std.specs.Prelude.{◌≡◌, ◌⊎◌, ℕ, suc, ◌<◌, ◌≤◌, true, false, List, [], ◌++◌, length, slice_get, option_map, Option, Some, None}
use Rattle.mc_model.specs.cluster.Steps.{Cluster}
use Rattle.node_laws.specs.Clusters.{NodeInput}
use Rattle.world.specs.Runs.{IsAt}
use Rattle.world.specs.Scenes.{is_up_in}
use Rattle.script_text.specs.Runner.{Runner}
use Rattle.script_text.specs.Settings.{Settings}
use Rattle.script_text.specs.Prints.{world_text}
use Rattle.script_text.specs.Runs.{StandsFor}
use Rattle.script_text.specs.World.{Due as WorldDue, Moved, World, comes, due, due_at, is_down, is_up_at, no_node, opened, packet_of, runner_at}
use Rattle.script_site.specs.Standing.{IsEmpty}
use Rattle.script_site.specs.declared.site.Site.{Site}
use Rattle.script_runner.specs.Arrivals.{came_in}
use Rattle.script_runner.specs.declared.centre.Centre.{Centre}
use Rattle.script_runner.specs.declared.centre.Due.{Due}

-- what stands beside a node is as a runner in a world, from which all that its node sent was taken
pub record IsBeside (site : Site) (node : ℕ) (runner : Runner) : Type 0 where
  pub node_is : site.node ≡ node
  pub sessions : site.service.sessions ≡ runner.sessions
  pub streams : site.streams ≡ runner.streams
  pub waiting : site.service.waiting ≡ runner.waiting
  pub taken : runner.node.packets ≡ []

-- The centre is as this world: both stand at one place of one run of the model's cluster.
pub record IsWorld (centre : Centre) (w : World) : Type 0 where
  pub cluster : Cluster
  pub inputs : List NodeInput
  pub at : IsAt cluster [] inputs centre.world
  pub stands : StandsFor cluster inputs w
  pub nodes : length centre.sites.items ≡ length w.runners
  pub few : length w.runners ≤ 9
  pub each : (place : ℕ) (site : Site) (runner : Runner) → slice_get centre.sites.items place ≡ Some site →
      slice_get w.runners place ≡ Some runner →
      IsBeside site (suc place) runner
  pub came : (number node : ℕ) → came_in centre.arrivals number node ≡ w.came number node

-- as so many nodes with new stores
abbrev pub StartsAs : Settings → ℕ → ℕ → Centre → Type 0
StartsAs settings nodes serial centre = IsWorld centre (opened settings nodes serial)

-- no session is connected at any of the nodes 1 to so many
pub record AreEmpty (count : ℕ) (sites : List Site) : Type 0 where
  pub count_is : length sites ≡ count
  pub each : (place : ℕ) (site : Site) → slice_get sites place ≡ Some site → IsEmpty (suc place) site

-- ---- lines

-- the node of a number is up, and this is its place
pub record IsPlaceUp (centre : Centre) (node place : ℕ) : Type 0 where
  pub place_is : node ≡ suc place
  pub within : place < length centre.sites.items
  pub up : is_up_in centre.world node ≡ true

-- there is no such node, or it is down
pub record IsAbsent (centre : Centre) (node number : ℕ) : Type 0 where
  pub number_is : number ≡ no_node
  pub beyond : length centre.sites.items < node

pub record IsDown (centre : Centre) (node number : ℕ) : Type 0 where
  pub number_is : number ≡ is_down
  pub within : node ≤ length centre.sites.items
  pub least : 1 ≤ node
  pub down : is_up_in centre.world node ≡ false

abbrev pub declines : Centre → ℕ → ℕ → Type 0
declines centre node number = IsAbsent centre node number ⊎ IsDown centre node number

-- it is as what was done left the world, and the text of what was printed was added
pub record IsMoved (moved : Moved) (new : Centre) (before after : List ℕ) : Type 0 where
  pub next : IsWorld new moved.next
  pub text : after ≡ before ++ world_text moved.prints

-- it does this, as whatever world it is
abbrev pub Does : (World → Moved) → Centre → Centre → List ℕ → List ℕ → Type 0
Does line old new before after = (w : World) → IsWorld old w → IsMoved (line w) new before after

-- as many nodes are up as before a packet came
abbrev pub KeepsUp : Centre → ℕ → ℕ → Type 0
KeepsUp old number node = (w : World) → IsWorld old w → (other : ℕ) → is_up_at (runner_at (comes w number node).next other) ≡ is_up_at (runner_at w other)

-- ---- what is due

abbrev pub due_of : Due → WorldDue
due_of due = record { number = due.number; node = due.node }

-- no packet below a number is due to these nodes
abbrev pub NothingBefore : World → List ℕ → ℕ → Type 0
NothingBefore w nodes from = (number : ℕ) → number < from → due_at w nodes number (packet_of w.packets number) ≡ None

-- nor is any, whatever world it is
abbrev pub IsPassed : Centre → List ℕ → ℕ → Type 0
IsPassed centre nodes from = (w : World) → IsWorld centre w → NothingBefore w nodes from

-- to this node the packet of a number is due
abbrev pub IsLacking : Centre → List ℕ → ℕ → Option ℕ → Type 0
IsLacking centre nodes number node = (w : World) → IsWorld centre w → node ≡ due_at w nodes number (packet_of w.packets number)

-- and this is, if none below a number is
abbrev pub IsDue : Centre → List ℕ → ℕ → Option Due → Type 0
IsDue centre nodes from found = (w : World) → IsWorld centre w → NothingBefore w nodes from → option_map due_of found ≡ due w nodes
