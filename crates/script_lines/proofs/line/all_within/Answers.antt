use Rattle.std.proofs.Common.{◌≡◌, true, sym, arith}
use Rattle.mc_types.specs.Nodes.{has}
use Rattle.script_lines.proofs.WordLemmas.{within_all, within_not}
use Rattle.script_lines.proofs.line.all_within.Goals as goal

pub returns-then-has : goal.returns-then-has
returns-then-has c =
    let there : has c.args.nodes c.loop-number.number ≡ true = rw (← c.of.ensures) (sym c.if-has.ensures) in
    sym (within_not (has c.args.nodes) c.args.most c.loop-number.number (omega arith) (omega arith) (omega arith) there)

pub returns : goal.returns
returns c =
    sym (within_all (has c.args.nodes) c.args.most (λ node least last over. c.loop-number.invariant node least (omega arith) over))
