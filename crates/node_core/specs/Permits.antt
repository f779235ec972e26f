-- Permits, and the steps that stand on a life of their node. (own)
use Rattle.std.specs.Prelude.{◌≡◌, ℕ, Bool, ◌==◌, ◌&&◌, Option, Some, None, if◌then◌else◌}
use Rattle.mc_model.specs.synod.Packet.{Slot}
use Rattle.delivery.specs.declared.outcome.Outcome.{Outcome}
use Rattle.node_kept.specs.StepFault.{StepFault}
use Rattle.node_kept.specs.StepFault.TheVariants.{Broken, Device, Grant, Memory, NotGranted, StrangeLife}
use Rattle.node_kept.specs.Input.{Input}
use Rattle.node_kept.specs.Input.TheVariants as given
use Rattle.node_kept.specs.Outputs.{Outputs}
use Rattle.node_core.specs.declared.life.Life.{Life}
use Rattle.node_core.specs.Nodes.{HasTaken, Standing, fault_in}

-- the life in which an attempt was granted, and its slot
pub record Permitted : Type 0 where
  pub life : Life
  pub slot : Slot

-- whether a life is of this node, in its incarnation
abbrev pub is_life_of : {S : Type 0} → Standing S → Life → Bool
is_life_of node life = (life.node == node.kept.setup.node) && (life.incarnation == node.kept.incarnation)

-- why a node does not take a step in a life: of several reasons the one with the lowest number
abbrev pub unless_strange : Bool → Option StepFault → Option StepFault
unless_strange is_own (Some fault) = Some fault
unless_strange is_own None = if is_own then None else Some StrangeLife

-- the fault of a step that stands on another life, and would have this one if it stood on the node's
abbrev pub strange_or : StepFault → StepFault
strange_or Memory = StrangeLife
strange_or Broken = Broken
strange_or (Grant refusal) = Grant refusal
strange_or NotGranted = NotGranted
strange_or Device = Device
strange_or StrangeLife = StrangeLife

abbrev pub fault_under : {S : Type 0} → Standing S → Life → Input → Option StepFault
fault_under node life input = unless_strange (is_life_of node life) (fault_in node input)

abbrev pub IsGrant : Input → Type 0
IsGrant input = (id : ℕ) × (input ≡ given.Grant id)

-- it says what came of the attempt in a slot
abbrev pub IsAnswered : Slot → Input → Type 0
IsAnswered slot input = (outcome : Outcome) × (input ≡ given.Answered slot outcome)

-- nothing stands against the step in this life, and the node took it
pub record HasTakenUnder {S : Type 0} (old : Standing S) (life : Life) (input : Input) (new : Standing S) (outputs : Outputs) : Type 0 where
  pub allowed : fault_under old life input ≡ None
  pub taken : HasTaken old input new outputs

-- a permit comes back at Memory alone
abbrev pub IsHandedBack : Permitted → StepFault → Option Permitted → Type 0
IsHandedBack permit Memory back = back ≡ Some permit
IsHandedBack permit Broken back = back ≡ None
IsHandedBack permit (Grant refusal) back = back ≡ None
IsHandedBack permit NotGranted back = back ≡ None
IsHandedBack permit Device back = back ≡ None
IsHandedBack permit StrangeLife back = back ≡ None
