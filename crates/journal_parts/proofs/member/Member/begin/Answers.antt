use Rattle.std.proofs.Common.{List, map, None, false, sym, ap, subst}
use Rattle.journal_laws.specs.Journals.{Entry}
use Rattle.journal_parts.specs.declared.entry.Entry.{Entry as Written}
use Rattle.journal_parts.specs.Entries.{entry_of}
use Rattle.journal_parts.specs.Members.{IsMember}
use Rattle.journal_parts.proofs.Members.{member_begins}
use Rattle.journal_parts.proofs.member.Member.begin.Goals as goal

pub invariant_of-result : goal.invariant_of-result
invariant_of-result g c =
    subst
    (λ (es : List Entry).
    IsMember g.S.StableStore.stored g.L.Begins.cluster g.L.Begins.kept (record { node = c.args.node; halted = None; astray = false }) es)
    (sym (ap (λ (es : List Written). map entry_of es) c.new.ensures.items))
    (member_begins g.S.StableStore.stored g.L.Begins.cluster g.L.Begins.kept c.args.node c.requires)
