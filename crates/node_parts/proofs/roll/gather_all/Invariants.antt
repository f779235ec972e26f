use Rattle.std.proofs.Common.{◌≡◌, ◌≤◌, ◌+◌, ◌++◌, drop, length}
use Rattle.std.specs.Vec.{vec_capacity, vec_len}
use Rattle.shelf.specs.Parted.{all_in}
use Rattle.node_parts.specs.Waking.{awake_in}
use Rattle.node_parts.proofs.roll.gather_all.Given as goal

abbrev pub invariant-loop-part : goal.invariant-loop-part
invariant-loop-part l = record {
  ids : l.ids.items ++ awake_in (all_in (drop l.part-index l.parts)) ≡ awake_in (all_in l.parts);
  len : vec_len l.ids + length (all_in (drop l.part-index l.parts)) ≤ length (all_in l.parts);
  capacity : vec_capacity l.ids ≡ vec_capacity l.initial.ids;
}
