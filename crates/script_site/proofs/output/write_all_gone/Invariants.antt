use Rattle.std.proofs.Common.{◌≡◌, ◌++◌}
use Rattle.script_text.specs.Prints.{text_at}
use Rattle.script_text.specs.Runner.{gone_prints}
use Rattle.script_site.proofs.output.write_all_gone.Given as goal

-- the lines so far, and those of the sessions that are left
abbrev pub invariant-loop-number : goal.invariant-loop-number
invariant-loop-number l =
    l.text.items ++ text_at l.node (gone_prints l.number-iterator) ≡ l.fn.text.items ++ text_at l.node (gone_prints l.fn.service.sessions)
