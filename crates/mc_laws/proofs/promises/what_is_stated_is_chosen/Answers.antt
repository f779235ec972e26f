use Rattle.mc_laws.proofs.invariant.LooseRuns.{holds_at_end}
use Rattle.mc_laws.proofs.promises.what_is_stated_is_chosen.Goals as goal

pub returns : goal.returns
returns c = λ run stating id final is_in states. (holds_at_end run).told.chosen stating id states.chain is_in states.tells
