use Rattle.std.proofs.Common.{◌≡◌, drop}
use Rattle.journal_parts.specs.Marks.{marked_by}
use Rattle.journal_parts.proofs.marks.Marks.set_each.Given as goal

abbrev pub invariant-loop-slip : goal.invariant-loop-slip
invariant-loop-slip l = (marked_by (drop l.slip-index l.slips) l.self.marks ≡ marked_by l.slips l.fn.self.marks) × (l.self.most ≡ l.fn.self.most)
