-- What a centre is set up with.
use Rattle.std.specs.Prelude.{ℕ, List}
use Rattle.accounts.specs.declared.account.Account.{Account}
use Rattle.accounts.specs.declared.route.Route.{Route}
use Rattle.config.specs.declared.config.Config.{Config}

-- The centre's system_id, for how many seconds a message is kept that asks for no time, the accounts and the routes.
pub record Settings : Type 0 where
  pub system_id : List ℕ
  pub validity : ℕ
  pub accounts : List Account
  pub routes : List Route

-- those of a configuration
abbrev pub settings_of : Config → Settings
settings_of config = record {
  system_id = config.system_id;
  validity = config.default_validity;
  accounts = config.accounts;
  routes = config.routes;
}
