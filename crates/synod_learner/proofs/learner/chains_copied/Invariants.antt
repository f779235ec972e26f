use Rattle.std.proofs.Common.{◌≡◌, take}
use Rattle.synod_learner.proofs.learner.chains_copied.Given as goal

abbrev pub invariant-loop-chain : goal.invariant-loop-chain
invariant-loop-chain l = l.copies.items ≡ take l.chain-index l.chains
