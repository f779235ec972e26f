-- A step that waits to be committed.
use Rattle.node_kept.specs.Input.{Input}
use Rattle.node_kept.specs.declared.kept.Kept.{Kept}

-- what the node kept when it was prepared, and what came to it
pub record Awaited : Type 0 where
  pub was : Kept
  pub input : Input
