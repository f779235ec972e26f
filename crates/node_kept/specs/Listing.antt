-- Which messages a node lists.
use Rattle.std.specs.Prelude.{ℕ}
use Rattle.std.specs.Map.{keys_of}
use Rattle.std.specs.Ordering.{nat_cmp}
use Rattle.std.specs.List.Sorted.{IsStrictlySortedBy}
use Rattle.mc_model.specs.synod.Lists.{In}
use Rattle.node_model.specs.Kept.{Kept}
use Rattle.node_model.specs.Recorded.{IsRecorded}

-- each message of which there is a record is among those that are kept, by ascending ids
pub record ListsRecorded (k : Kept) : Type 0 where
  pub ascend : IsStrictlySortedBy nat_cmp (keys_of k.messages)
  pub all : (id : ℕ) → IsRecorded k.records id → In id (keys_of k.messages)
