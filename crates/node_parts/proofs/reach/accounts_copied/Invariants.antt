use Rattle.std.proofs.Common.{◌≡◌, take}
use Rattle.node_parts.proofs.reach.accounts_copied.Given as goal

abbrev pub invariant-loop-account : goal.invariant-loop-account
invariant-loop-account l = l.copies.items ≡ take l.account-index l.accounts.items
