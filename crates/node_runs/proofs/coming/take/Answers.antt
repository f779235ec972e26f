use Rattle.std.proofs.Common.{subst, sym}
use Rattle.node_core.specs.Input.{Input}
use Rattle.node_core.specs.Nodes.{HasStopped, IsUnmoved, Standing, seen}
use Rattle.node_runs.proofs.Inputs.{take_faults, take_left, unmoved}
use Rattle.node_runs.proofs.coming.take.Goals as goal

pub returns-clause-faults : goal.returns-clause-faults
returns-clause-faults g c =
    take_faults c.commit.result c.args.node.now.broken _ c.commit.ensures.broken c.in_ok-pending.ensures.ok.allowed c.commit.ensures.faults

pub returns-clause-left : goal.returns-clause-left
returns-clause-left g c =
    let stored = g.S.StableStore.stored in
    take_left c.commit.result _ _ c.args.input c.commit.ensures.faults
    (λ broken. subst (λ (n : Standing g.row.S.Denot). IsUnmoved (seen stored c.args.node.now) (seen stored n)) (sym (c.commit.ensures.stays broken))
    (unmoved (seen stored c.args.node.now)))
    c.commit.ensures.memory
    (λ failed. subst (λ (came : Input). HasStopped (seen stored c.args.node.now) came (seen stored c.commit.new.self))
    c.in_ok-pending.ensures.ok.given (c.commit.ensures.device failed))
