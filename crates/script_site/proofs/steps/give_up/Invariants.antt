use Rattle.std.proofs.Common.{drop}
use Rattle.script_site.proofs.Concluding.{IsLeft}
use Rattle.script_site.proofs.steps.give_up.Given as goal

abbrev pub invariant-loop-request : goal.invariant-loop-request
invariant-loop-request l = IsLeft l.node l.fn.world l.pushed l.world (drop l.request-index l.pushed)
