use Rattle.std.proofs.Common.{◌≡◌, ◌+◌, sym, ap, ◌∙◌}
use Rattle.mc_model.specs.message.Chain.{attempts_in}
use Rattle.mc_model.specs.message.Decree.{Decree, Taken}
use Rattle.fate_chain.specs.Kinds.{kind_of}
use Rattle.delivery.proofs.Dues.{next_number, number_after, number_of_due}
use Rattle.delivery.proofs.rules.next_attempt.Goals as goal

pub returns-in-Taken : goal.returns-in-Taken
returns-in-Taken c = λ moment number due.
    let attempts = attempts_in c.args.chain.now.decrees in
    let kind : c.newest.result.now.kind ≡ Taken c.in-Taken.field-0 =
    sym (ap (λ (d : Decree). d.kind) c.behind-chain.view_is) ∙ ap kind_of c.in-Taken.is in
    number_of_due c.args.chain.now.decrees c.newest.result.now moment number c.newest.ensures due ∙ ap (next_number attempts) kind

pub returns-in_default : goal.returns-in_default
returns-in_default c = λ moment number due.
    let attempts = attempts_in c.args.chain.now.decrees in
    let kind = sym (ap (λ (d : Decree). d.kind) c.behind-chain.view_is) in
    number_of_due c.args.chain.now.decrees c.newest.result.now moment number c.newest.ensures due
    ∙ (ap (next_number attempts) kind
    ∙ (number_after attempts c.behind-chain.inside.kind c.in_default.not-Taken ∙ ap (λ n. n + 1) (sym c.attempts.ensures.attempts)))
