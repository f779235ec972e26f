use Rattle.std.proofs.Common.{ap, ◌∙◌}
use Rattle.node_threads.specs.Step.TheVariants as steps
use Rattle.server.proofs.asking.SeatStepsShift.request.Goals as goal

pub returns-clause-took : goal.returns-clause-took
returns-clause-took g c = record {
  slip = c.in_ok-slip.slip;
  slips = c.in_ok-slip.ensures.slips;
  step = c.in_ok-slip.ensures.step ∙ ap (λ node. steps.Request node c.args.account c.args.request) c.node.ensures;
  is = ap (λ given. record { ticket = given.ticket; refused = given.refused }) c.outputs-outputs.ensures.given;
}
