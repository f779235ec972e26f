use Rattle.std.proofs.Common.{◌∙◌}
use Rattle.script_runner.proofs.Taking.{takes_part_so}
use Rattle.script_runner.proofs.centre.takes_part.Goals as goal

pub returns-else-is_nobody : goal.returns-else-is_nobody
returns-else-is_nobody c = c.has.ensures ∙ takes_part_so c.args.nodes c.args.node c.if-is_nobody.ensures
