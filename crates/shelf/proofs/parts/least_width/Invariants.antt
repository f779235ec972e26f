use Rattle.std.proofs.Common.{◌≡◌, drop, map}
use Rattle.std.specs.Vec.{vec_capacity}
use Rattle.shelf.specs.Parted.{least_of}
use Rattle.shelf.proofs.parts.least_width.Given as goal

abbrev pub invariant-loop-part : goal.invariant-loop-part
invariant-loop-part g l =
    least_of l.least (map (λ part. vec_capacity part) (drop l.part-index l.parts)) ≡ least_of l.fn.first (map (λ part. vec_capacity part) l.parts)
