use Rattle.std.proofs.Common.{List, map, sym, ap, subst}
use Rattle.journal_laws.specs.Journals.{Entry}
use Rattle.journal_parts.specs.declared.entry.Entry.{Entry as Written}
use Rattle.journal_parts.specs.Entries.{entry_of}
use Rattle.journal_parts.specs.Members.{IsMember, posted}
use Rattle.journal_parts.proofs.member.Member.go_on.Goals as goal

pub invariant_of-result : goal.invariant_of-result
invariant_of-result g c =
    subst (λ (es : List Entry). IsMember g.S.StableStore.stored g.L.Begins.cluster g.L.Begins.kept (posted c.args.post) es)
    (sym (ap (λ (es : List Written). map entry_of es) c.new.ensures.items)) c.requires
