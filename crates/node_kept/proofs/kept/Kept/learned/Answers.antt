use Rattle.std.proofs.Common.{List, ap, option_map}
use Rattle.mc_model.specs.node.Outputs.{Reply}
use Rattle.tick_rules.specs.Standpoints.{start_of}
use Rattle.node_parts.specs.declared.outputs.Outputs.{Outputs}
use Rattle.node_kept.specs.Steps.{outputs_of}
use Rattle.node_kept.proofs.Knowing.{learned_so}
use Rattle.node_kept.proofs.kept.Kept.learned.Goals as goal

pub returns : goal.returns
returns c m is fate anew =
    let outputs : Outputs = record c.in_ok-step.step.outputs { replies = c.in_ok-replies.replies } in
    learned_so c.args.self.now c.args.message c.start_for-packet.new.self c.args.chain.now m
    (option_map start_of c.in_ok-next.next) c.start_for-packet.result c.requires is
    (c.start_for-packet.ensures c.args.chain.now.id c.in_ok-next.ensures.id)
    c.bounds.ensures.taken.0 c.cancels_then-cancelled.result c.args.had_fate c.in_ok-receipt.receipt outputs c.in_ok-step.step c.in_ok-settled.settled
    c.bounds.ensures.taken.1 (rw c.nodes.ensures at (c.cancels_then-cancelled.ensures c.bounds.ensures.taken.0 c.bounds.ensures.taken.1)) c.in_ok-next.ensures.start
    fate anew c.in_ok-receipt.ensures (rw c.id.ensures at c.in_ok-step.ensures) c.in_ok-settled.ensures
    (ap (λ (replies : List Reply). record (outputs_of c.in_ok-step.step.outputs) { replies = replies }) (rw c.nodes-2.ensures at c.in_ok-replies.ensures.replies))
