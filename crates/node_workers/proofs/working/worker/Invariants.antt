use Rattle.node_workers.specs.Attempts.{HasWorkedTo}
use Rattle.node_workers.proofs.working.worker.Given as goal

abbrev pub invariant-loop : goal.invariant-loop
invariant-loop g l = HasWorkedTo g.G.Gate.answers l.fn.life.node l.fn.seat.slips l.fn.gate l.seat.slips l.gate l.sequence
