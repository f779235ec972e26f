use Rattle.std.proofs.Common.{◌∙◌, ◌+◌, ◌*◌, min, sym, ap, arith}
use Rattle.std.specs.Prelude.{if◌then◌else◌}
use Rattle.mc_model.specs.message.Decree.{Decree}
use Rattle.mc_model.specs.message.Submission.{Submission}
use Rattle.fate_chain.specs.Kinds.{kind_of}
use Rattle.tick_rules.proofs.Asleep.{failed_until}
use Rattle.tick_rules.proofs.waking.waits_until.Goals as goal

pub returns-in-Failed : goal.returns-in-Failed
returns-in-Failed c =
    let newest = c.newest-newest.result.now in
    let taken = c.submission-taken.result.now in
    let range = c.seconds.ensures.range in
    let expiry = ap (λ (t : Submission). t.expiry) c.taken.view_is in
    failed_until c.args.begins c.args.chain.now.decrees newest _ taken c.attempts.result c.earlier_if-in-Failed.result c.later.result
    c.newest-newest.ensures (sym (ap (λ (d : Decree). d.kind) c.newest.view_is) ∙ ap kind_of c.in-Failed.is) c.submission-taken.ensures
    c.attempts.ensures.attempts
    (c.later.ensures ∙ ap (λ (d : Decree). min (d.moment + 60 * c.attempts.result) 4102444799) c.newest.view_is)
    (omega (arith, range, expiry))
    (c.earlier_if-in-Failed.ensures ∙ ap (λ (t : Submission). if c.args.begins then min t.expiry c.later.result else t.expiry) c.taken.view_is)
