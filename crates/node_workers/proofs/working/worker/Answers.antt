use Rattle.std.proofs.Common.{ℕ, Bool, sym, subst}
use Rattle.node_workers.specs.Attempts.{HasWorkedTo, Tries}
use Rattle.node_workers.proofs.Behind.{worked_more}
use Rattle.node_workers.proofs.working.worker.Goals as goal

pub loop-preserved-then-branch : goal.loop-preserved-then-branch
loop-preserved-then-branch g c =
    let node = c.args.life.now.node in
    let tried = subst (λ (done : Bool). Tries g.G.Gate.answers node c.loop.sequence c.loop.seat.slips c.loop.gate c.tried.new.seat.slips c.tried.new.gate done)
    c.if-branch.true c.in_ok-tried.ensures.tried in
    subst (λ (n : ℕ). HasWorkedTo g.G.Gate.answers node c.args.seat.now.slips c.args.gate.now c.tried.new.seat.slips c.tried.new.gate n)
    (sym c.sequence_after-sequence.ensures)
    (worked_more g.G.Gate.answers node c.args.seat.now.slips c.args.gate.now c.loop.seat.slips c.loop.gate c.loop.sequence c.tried.new.seat.slips
    c.tried.new.gate c.loop.invariant tried)
