use Rattle.std.proofs.Common.{◌≡◌, max, drop}
use Rattle.node_stores.specs.Named.{highest_by}
use Rattle.node_stores.proofs.named.highest_by.Given as goal

abbrev pub invariant-loop-decree : goal.invariant-loop-decree
invariant-loop-decree l = max l.most (highest_by l.node (drop l.decree-index l.decrees)) ≡ highest_by l.node l.decrees
