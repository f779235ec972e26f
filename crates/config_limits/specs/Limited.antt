-- Which limits an account has.
use Rattle.std.specs.Prelude.{ℕ, List, Option, option_map, find}
use Rattle.std.specs.Str.{bytes_eq}
use Rattle.account_limits.specs.declared.limits.Limits.{Limits}
use Rattle.config_limits.specs.declared.limited_account.LimitedAccount.{LimitedAccount}

abbrev pub account_in : List ℕ → List LimitedAccount → Option LimitedAccount
account_in system_id accounts = find (λ account. bytes_eq account.system_id.items system_id) accounts

abbrev pub limits_in : List ℕ → List LimitedAccount → Option Limits
limits_in system_id accounts = option_map (λ account. account.limits) (account_in system_id accounts)
