use Rattle.std.proofs.Common.{rules}
use Rattle.std.proofs.lemmas.Fn.{filter_same}
use Rattle.account_limits.specs.Tries.{is_recent}
use Rattle.account_limits.proofs.bind_tries.forget_old.Goals as goal

pub returns : goal.returns
returns c = filter_same _ (is_recent c.args.moment) _ (λ x b g h. search rules) _ _ c.retain.ensures.filtered
