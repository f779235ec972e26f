use Rattle.std.proofs.Common.{◌≡◌, drop}
use Rattle.std.specs.List.{list_all}
use Rattle.journal_parts.proofs.marks.Marks.are_set.Given as goal

abbrev pub invariant-loop-mark : goal.invariant-loop-mark
invariant-loop-mark l = list_all (λ mark. mark) (drop l.mark-index l.self.marks) ≡ list_all (λ mark. mark) l.self.marks
