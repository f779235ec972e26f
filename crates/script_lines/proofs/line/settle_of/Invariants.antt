use Rattle.std.proofs.Common.{◌≡◌, length}
use Rattle.std.specs.Prelude.{option_map}
use Rattle.mc_types.specs.Nodes.{has}
use Rattle.script_lines.specs.Said.{each_once, nodes_in}
use Rattle.script_lines.proofs.WordLemmas.{joined}
use Rattle.script_lines.proofs.line.settle_of.Given as goal

abbrev pub invariant-listed : goal.invariant-listed
invariant-listed l = option_map (joined (has l.nodes)) (nodes_in l.rest) ≡ option_map each_once (nodes_in l.words)

abbrev pub decreases-listed : goal.decreases-listed
decreases-listed l = length l.rest
