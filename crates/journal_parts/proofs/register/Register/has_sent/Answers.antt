use Rattle.std.proofs.Common.{sym, ap, ◌∙◌}
use Rattle.std.specs.Prelude.{option_map}
use Rattle.synod_acceptor.specs.Packets.{packet_of}
use Rattle.journal_parts.specs.declared.done.Done.{Done}
use Rattle.journal_parts.specs.Entries.{entry_of}
use Rattle.journal_parts.proofs.Finding.{comes_as, comes_not, comes_only}
use Rattle.journal_parts.proofs.register.Register.has_sent.Goals as goal

pub returns-in-Some-clause-comes : goal.returns-in-Some-clause-comes
returns-in-Some-clause-comes g c = λ same.
    comes_as g.L.Begins.numbers c.args.self.now (entry_of c.args.entry.now) c.in-Some-Some.number c.in-Some-Some.packet
    (sym c.number.ensures ∙ c.in-Some-Some.is-0)
    (ap (λ (d : Done). option_map packet_of d.packet) (sym c.deref.ensures) ∙ ap (option_map packet_of) c.in-Some-Some.is-1)
    c.in-Some.sent.now c.in-Some.ensures.has (c.is.ensures.0 same)

pub returns-in-Some-clause-only : goal.returns-in-Some-clause-only
returns-in-Some-clause-only g c = λ as_numbered.
    c.is.ensures.1 (comes_only g.L.Begins.numbers c.args.self.now (entry_of c.args.entry.now) c.in-Some-Some.number c.in-Some-Some.packet
    (sym c.number.ensures ∙ c.in-Some-Some.is-0)
    (ap (λ (d : Done). option_map packet_of d.packet) (sym c.deref.ensures) ∙ ap (option_map packet_of) c.in-Some-Some.is-1)
    c.in-Some.sent.now c.in-Some.ensures.has as_numbered)

pub returns-in-None-clause-only : goal.returns-in-None-clause-only
returns-in-None-clause-only g c = λ as_numbered.
    absurd (comes_not g.L.Begins.numbers c.args.self.now (entry_of c.args.entry.now) c.in-Some-Some.number c.in-Some-Some.packet
    (sym c.number.ensures ∙ c.in-Some-Some.is-0)
    (ap (λ (d : Done). option_map packet_of d.packet) (sym c.deref.ensures) ∙ ap (option_map packet_of) c.in-Some-Some.is-1)
    c.in-None.ensures.has as_numbered)
