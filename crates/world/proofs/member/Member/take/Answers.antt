use Rattle.std.proofs.Common.{◌≡◌, ap, ◌∙◌, arith}
use Rattle.mc_model.specs.node.Outputs.{Outputs}
use Rattle.node_model.specs.Stepped.{stepped}
use Rattle.node_runs.specs.Input.{Input}
use Rattle.node_runs.specs.Kept.{Kept as Holding}
use Rattle.node_runs.specs.Keeping.{kept_of}
use Rattle.node_runs.specs.Steps.{input_of, outputs_of}
use Rattle.world.specs.Scenes.{Placed}
use Rattle.world.proofs.Sending.{same_count}
use Rattle.world.proofs.member.Member.take.Goals as goal

-- what the step of an input gives out, of a node that keeps this
abbrev given_by : Holding → Input → Outputs
given_by k input = (stepped k.setup (kept_of k) (input_of k.setup (kept_of k) input)).outputs

pub send-requires : goal.send-requires
send-requires c =
    let k = c.args.self.now.node.kept in
    let was = c.in_ok-pending.ensures.ok.was ∙ ap (λ (p : Placed). p.node.kept) c.self.view_is in
    let foreseen : outputs_of c.outputs.result.now ≡ given_by k c.in_ok-pending.pending.input =
    c.outputs.ensures ∙ ap (λ (h : Holding). given_by h c.in_ok-pending.pending.input) was in
    let count = same_count c.outputs.result.now c.in_ok-outputs.outputs _ foreseen c.in_ok-outputs.ensures.taken.given in
    omega (arith, count, c.len.ensures, c.in-Ok.ensures.room)
