use Rattle.std.proofs.Common.{◌≡◌, false, rules}
use Rattle.node_core.specs.Permits.{is_life_of}
use Rattle.node_core.proofs.Strange.{strange_fault}
use Rattle.node_core.proofs.node.Node.prepare_under.Goals as goal

pub returns-clause-faults : goal.returns-clause-faults
returns-clause-faults g c =
    let strange : is_life_of c.args.self.now c.args.life.now ≡ false = search rules in
    strange_fault c.args.self.now c.args.life.now c.args.input c.prepare_step-prepared.result c.strange.result strange
    c.prepare_step-prepared.ensures.ok c.prepare_step-prepared.ensures.broken.1 c.prepare_step-prepared.ensures.faults c.strange.ensures.ok c.strange.ensures.err
