use Rattle.std.proofs.Common.{drop, map}
use Rattle.journal_laws.specs.Journals.{entries_at}
use Rattle.journal_laws.specs.Likeness.{AreAllAlike}
use Rattle.journal_parts.specs.Entries.{entry_of}
use Rattle.journal_parts.specs.Registers.{entries_of}
use Rattle.journal_parts.proofs.comparing.are_own.Given as goal

abbrev pub invariant-loop-one : goal.invariant-loop-one
invariant-loop-one l =
    AreAllAlike (map entry_of (drop l.next l.own)) (entries_at l.node (entries_of (drop l.one-index l.noted))) →
    AreAllAlike (map entry_of l.own) (entries_at l.node (entries_of l.noted))
