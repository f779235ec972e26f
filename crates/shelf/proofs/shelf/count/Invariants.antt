use Rattle.std.proofs.Common.{◌≡◌, ◌≤◌, ◌*◌, ◌+◌, drop, length}
use Rattle.shelf.specs.Places.{entries_in}
use Rattle.shelf.proofs.shelf.count.Given as goal

abbrev pub invariant-loop-part : goal.invariant-loop-part
invariant-loop-part g l = record {
  sum : l.entries + length (entries_in (drop l.part-index l.parts)) ≡ length (entries_in l.parts);
  bound : l.entries ≤ l.part-index * 576460752303423488;
}
