use Rattle.std.proofs.Common.{ap, ◌∙◌}
use Rattle.node_model.specs.Stepped.{stepped}
use Rattle.node_kept.specs.Keeping.{kept_of}
use Rattle.node_kept.specs.Steps.{input_of}
use Rattle.node_core.specs.Pendings.{Awaited}
use Rattle.node_core.proofs.pending.Pending.outputs.Goals as goal

pub returns : goal.returns
returns c =
    c.self.invariant.is.is.outputs
    ∙ ap (λ (p : Awaited). (stepped p.was.setup (kept_of p.was) (input_of p.was.setup (kept_of p.was) p.input)).outputs) c.self.view_is
