use Rattle.std.proofs.Common.{◌≡◌, ◌++◌, flat_map, take}
use Rattle.node_model.specs.Reported.{receipt_of}
use Rattle.world_runs.specs.Statements.{stated_received}
use Rattle.world_runs.proofs.statement.add_receipts.Given as goal

abbrev pub invariant-loop-chain : goal.invariant-loop-chain
invariant-loop-chain l = l.statements.items ≡ l.fn.statements.items ++ flat_map (λ one. stated_received l.step (receipt_of one)) (take l.chain-index l.receipts)
