use Rattle.node_model.specs.Reported.{receipt_of}
use Rattle.world_runs.specs.Statements.{stated_received}
use Rattle.world_runs.proofs.Stating.{all_told}
use Rattle.world_runs.proofs.statement.add_receipts.Goals as goal

pub returns : goal.returns
returns c =
    all_told (stated_received c.args.step) receipt_of c.args.receipts.now c.loop-chain.chain-index c.args.statements.now.items c.loop-chain.statements.items
    c.loop-chain-test.false c.loop-chain.invariant
