use Rattle.std.proofs.Common.{not, rules}
use Rattle.std.proofs.lemmas.Fn.{filter_same}
use Rattle.sessions.specs.Windows.{is_overdue}
use Rattle.sessions.proofs.pushed.retain_timely.Goals as goal

pub returns-clause-kept : goal.returns-clause-kept
returns-clause-kept c =
    filter_same _ (λ request. not (is_overdue c.args.now request)) _ (λ x b g h. search rules) _ _ c.retain.ensures.filtered
