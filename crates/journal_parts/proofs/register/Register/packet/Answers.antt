use Rattle.std.proofs.Common.{Option, Some, sym, ap, ◌∙◌}
use Rattle.std.specs.Option.{option_or}
use Rattle.mc_model.specs.synod.Packet.{Packet}
use Rattle.journal_parts.specs.Registers.{sent_under}
use Rattle.journal_parts.proofs.Finding.{absent_if, none_found}
use Rattle.journal_parts.proofs.register.Register.packet.Goals as goal

pub returns-in-Some-clause-has : goal.returns-in-Some-clause-has
returns-in-Some-clause-has g c =
    ap (λ (o : Option Packet). option_or o (sent_under g.L.Begins.numbers.count c.args.self.now.entries c.args.number)) c.in-Some.ensures.has

pub returns-in-None-clause-has : goal.returns-in-None-clause-has
returns-in-None-clause-has g c =
    c.sent_packet.ensures.has
    ∙ ap (λ (o : Option Packet). option_or o (sent_under g.L.Begins.numbers.count c.args.self.now.entries c.args.number)) c.in-None.ensures.has

pub returns-in-Some-clause-none : goal.returns-in-Some-clause-none
returns-in-Some-clause-none g c =
    none_found g.L.Begins.numbers c.args.self.now c.args.number (Some c.in-Some.packet) (returns-in-Some-clause-has g c) (record {})

pub returns-in-None-clause-none : goal.returns-in-None-clause-none
returns-in-None-clause-none g c =
    none_found g.L.Begins.numbers c.args.self.now c.args.number c.sent_packet.result (returns-in-None-clause-has g c)
    (absent_if g.L.Begins.numbers c.args.self.now c.args.number c.sent_packet.result (sym c.in-None.ensures.has) c.sent_packet.ensures.none)
