use Rattle.std.proofs.Common.{reverse, take}
use Rattle.fate_chain.specs.Marks.{IsProgressOf}
use Rattle.fate_chain.proofs.progress.Progress.of.Given as goal

abbrev pub invariant-loop-decree : goal.invariant-loop-decree
invariant-loop-decree l = IsProgressOf l.id (reverse (take l.decree-index l.decrees)) l.progress
