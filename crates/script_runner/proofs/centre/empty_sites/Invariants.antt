use Rattle.script_runner.specs.Centres.{AreEmpty}
use Rattle.script_runner.proofs.centre.empty_sites.Given as goal

abbrev pub invariant-loop-place : goal.invariant-loop-place
invariant-loop-place l = AreEmpty l.place l.sites.items
