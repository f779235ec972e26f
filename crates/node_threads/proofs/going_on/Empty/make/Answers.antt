use Rattle.std.proofs.Common.{sym, ap, subst}
use Rattle.mc_model.specs.synod.Lists.{In}
use Rattle.journal_parts.specs.GoingOn.{numbers_behind}
use Rattle.journal_parts.specs.Numbers.{Numbers}
use Rattle.journal_parts.proofs.GoingOn.{from_among}
use Rattle.node_threads.proofs.going_on.Empty.make.Goals as goal

pub go_on-requires-clause-sent : goal.go_on-requires-clause-sent
go_on-requires-clause-sent g c = ap (λ (n : Numbers). n.count) c.requires.goes.numbers_are

pub go_on-requires-clause-carried : goal.go_on-requires-clause-carried
go_on-requires-clause-carried g c = λ one among.
    subst (λ (n : Numbers). In one n.may_come) (sym c.requires.goes.numbers_are)
    (from_among c.args.from (numbers_behind c.args.journal.now).may_come one among)
