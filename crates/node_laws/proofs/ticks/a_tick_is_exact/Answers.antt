use Rattle.node_laws.proofs.step.TickSteps.{tick_steps}
use Rattle.node_laws.proofs.ticks.a_tick_is_exact.Goals as goal

pub returns : goal.returns
returns c setup k s stands works mine = tick_steps setup k s stands works mine
