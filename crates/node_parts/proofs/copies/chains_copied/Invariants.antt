use Rattle.std.proofs.Common.{◌≡◌, take}
use Rattle.node_parts.proofs.copies.chains_copied.Given as goal

abbrev pub invariant-loop-chain : goal.invariant-loop-chain
invariant-loop-chain l = l.copies.items ≡ take l.chain-index l.chain-items
