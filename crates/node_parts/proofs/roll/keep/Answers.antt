use Rattle.std.proofs.Common.{rules}
use Rattle.std.proofs.lemmas.Fn.{filter_same}
use Rattle.node_parts.specs.Living.{is_kept_listed}
use Rattle.node_parts.proofs.roll.keep.Goals as goal

pub returns-clause-live : goal.returns-clause-live
returns-clause-live c = filter_same _ (is_kept_listed c.args.shelf.now.entries) _ (λ x b g k. search rules) _ _ c.retain.ensures.filtered
