use Rattle.mc_model.specs.cluster.Loose.{end_of}
use Rattle.mc_laws.proofs.invariant.LooseRuns.{delivery_behind, holds_at_end, none_granted_after, one_fate_stated}
use Rattle.mc_laws.proofs.promises.headline.Goals as goal

pub returns-clause-one_fate : goal.returns-clause-one_fate
returns-clause-one_fate c = λ run. one_fate_stated (end_of run) (holds_at_end run)

pub returns-clause-no_grant : goal.returns-clause-no_grant
returns-clause-no_grant c = λ run. none_granted_after (end_of run) (holds_at_end run)

pub returns-clause-delivery : goal.returns-clause-delivery
returns-clause-delivery c = λ run. delivery_behind (end_of run) (holds_at_end run)
