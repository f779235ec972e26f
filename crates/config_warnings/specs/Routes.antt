-- What is said of routes, and hardly meant (own).
use Rattle.std.specs.Prelude.{Bool, false, ℕ, List, Option, Some, None, not}
use Rattle.accounts.specs.Accounts.{account_of}
use Rattle.accounts.specs.declared.account.Account.{Account}

abbrev pub may_not_receive : Option Account → Bool
may_not_receive None = false
may_not_receive (Some account) = not account.receive

-- the account of this name may not receive
abbrev pub is_deaf : List Account → List ℕ → Bool
is_deaf accounts name = may_not_receive (account_of accounts name)
