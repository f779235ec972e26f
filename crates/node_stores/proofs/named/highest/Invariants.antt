use Rattle.std.proofs.Common.{◌≡◌, max, drop}
use Rattle.node_stores.specs.Named.{highest_of}
use Rattle.node_stores.proofs.named.highest.Given as goal

abbrev pub invariant-loop-kept : goal.invariant-loop-kept
invariant-loop-kept l = max l.most (highest_of l.node (drop l.kept-index l.records)) ≡ highest_of l.node l.records
