use Rattle.std.proofs.Common.{◌≡◌, ◌≤◌, reverse, take}
use Rattle.mc_model.specs.message.Chain.{error_in}
use Rattle.fate_chain.proofs.chain.Chain.error.Given as goal

abbrev pub invariant-loop-decree : goal.invariant-loop-decree
invariant-loop-decree l = record { error : l.error ≡ error_in (reverse (take l.decree-index l.decree-items)); range : l.error ≤ 999 }
