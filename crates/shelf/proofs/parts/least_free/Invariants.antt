use Rattle.std.proofs.Common.{◌≡◌, drop}
use Rattle.shelf.specs.Parted.{frees_of, least_of}
use Rattle.shelf.proofs.parts.least_free.Given as goal

abbrev pub invariant-loop-part : goal.invariant-loop-part
invariant-loop-part g l = least_of l.least (frees_of (drop l.part-index l.parts)) ≡ least_of l.fn.first (frees_of l.parts)
