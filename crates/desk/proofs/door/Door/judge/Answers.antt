use Rattle.std.proofs.Common.{Ok, Err, sym, ◌∙◌}
use Rattle.desk.proofs.Judged.{judged}
use Rattle.desk.proofs.door.Door.judge.Goals as goal

pub returns-in-Err-clause-judged : goal.returns-in-Err-clause-judged
returns-in-Err-clause-judged c =
    (judged c.args.message.now c.args.self.now (Err c.in-Err.status) (sym c.in_default.is ∙ c.fields_refusal.ensures)
    (sym c.in-Err.is ∙ c.times.ensures.judged))

pub returns-in-Ok-clause-judged : goal.returns-in-Ok-clause-judged
returns-in-Ok-clause-judged c =
    c.with_room.ensures.judged
    ∙ (judged c.args.message.now c.args.self.now (Ok c.in-Ok.times) (sym c.in_default.is ∙ c.fields_refusal.ensures) (sym c.in-Ok.is ∙ c.times.ensures.judged))
