-- A step once more (own).
use Rattle.std.specs.Prelude.{◌≡◌}
use Rattle.node_core.specs.Reaching.{IsSameReach}
use Rattle.node_entry.specs.declared.step.Step.{Step}
use Rattle.node_entry.specs.declared.step.Step.TheVariants as steps

-- The same step; of a tick the accounts are the same, in a list of their own, and the messages of which an attempt may begin.
abbrev pub IsCopy : Step → Step → Type 0
IsCopy (steps.Tick node moment reach) (steps.Tick same then others) = (same ≡ node) × (then ≡ moment) × IsSameReach reach others
IsCopy (steps.Tick node moment reach) other = ⊥
IsCopy step copy = copy ≡ step
