use Rattle.script_runner.proofs.Replaying.{IsComing}
use Rattle.script_runner.proofs.centre.Centre.comes_to_all.Given as goal

abbrev pub invariant-loop-place : goal.invariant-loop-place
invariant-loop-place l = IsComing l.number l.place l.fn.self l.self l.fn.text.items l.text.items
