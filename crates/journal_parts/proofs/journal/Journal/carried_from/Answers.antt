use Rattle.std.proofs.Common.{◌≡◌, List, ◌++◌, sym, ap, subst, ◌∙◌}
use Rattle.journal_parts.specs.declared.carried.Carried.{Carried}
use Rattle.journal_parts.specs.declared.noted.Noted.{Noted}
use Rattle.journal_parts.specs.Closing.{Closed}
use Rattle.journal_parts.specs.GoingOn.{numbers_behind}
use Rattle.journal_parts.specs.Numbers.{RiseWithin, all_from, all_sent_by}
use Rattle.journal_parts.proofs.Carrying.{carried_rise}
use Rattle.journal_parts.proofs.GoingOn.{from_both}
use Rattle.journal_parts.proofs.journal.Journal.carried_from.Goals as goal

pub returns-clause-items : goal.returns-clause-items
returns-clause-items g c =
    let again = c.self.inside.carried.items in
    let sent = all_sent_by c.self.inside.noted.items in
    let first : c.carry_again.new.into.items ≡ all_from c.args.from again =
    c.in_ok-carry_again.ensures
    ∙ ap (λ (cs : List Carried). cs ++ all_from c.args.from c.as_slice.result.now) c.new-into.ensures.items
    ∙ ap (all_from c.args.from) c.as_slice.ensures.value in
    c.in_ok-carry_sent.ensures
    ∙ ap (λ (cs : List Carried). cs ++ all_from c.args.from (all_sent_by c.as_slice-2.result.now)) first
    ∙ ap (λ (ns : List Noted). all_from c.args.from again ++ all_from c.args.from (all_sent_by ns)) c.as_slice-2.ensures.value
    ∙ from_both c.args.from again sent
    ∙ ap (λ (j : Closed _). all_from c.args.from (numbers_behind j).may_come) c.self.view_is

pub returns-clause-rise : goal.returns-clause-rise
returns-clause-rise g c =
    subst (λ (cs : List Carried). RiseWithin 0 c.args.self.now.sent cs) (sym (returns-clause-items g c))
    (subst (λ (j : Closed _). RiseWithin 0 j.sent (all_from c.args.from (numbers_behind j).may_come)) c.self.view_is
    (carried_rise c.args.from c.self.inside.noted.items c.self.inside.carried.items c.self.inside.sent c.self.invariant))
