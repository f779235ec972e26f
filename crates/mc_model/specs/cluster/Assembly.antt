-- What each node does by itself, and all nodes together.
use Rattle.std.specs.Prelude.{ℕ, ◌==◌, List, [], ◌∷◌, if◌then◌else◌}
use Rattle.mc_model.specs.synod.Lists.{In}
use Rattle.mc_model.specs.node.Act.{Act, Receives}
use Rattle.mc_model.specs.node.Alone.{OwnStep}
use Rattle.mc_model.specs.cluster.World.{World, reached}
use Rattle.mc_model.specs.cluster.Steps.{CameTo, Step, acts_in}

-- those of one node
abbrev pub acts_of : ℕ → List (ℕ × Act) → List Act
acts_of node [] = []
acts_of node (newest ∷ older) = if newest.0 == node then newest.1 ∷ acts_of node older else acts_of node older

-- a packet that comes was sent before
abbrev pub WasSent : World → Act → Type 0
WasSent w (Receives packet) = In packet w.packets
WasSent w act = Unit {0}

abbrev pub EachWasSent : World → List (ℕ × Act) → Type 0
EachWasSent first [] = Unit {0}
EachWasSent first (newest ∷ older) = WasSent (reached first older) newest.1 × EachWasSent first older

-- those of one node
abbrev pub steps_of : ℕ → List Step → List OwnStep
steps_of node [] = []
steps_of node (newest ∷ older) =
    if newest.node == node then record { input = newest.input; acts = newest.acts } ∷ steps_of node older else steps_of node older

-- a packet that comes was sent before
abbrev pub EachCame : World → List Step → Type 0
EachCame first [] = Unit {0}
EachCame first (newest ∷ older) = CameTo (reached first (acts_in older)) newest.input × EachCame first older
