-- The configuration of a script (own).
use Rattle.std.specs.Prelude.{true, ◌≡◌, ℕ, List, [], ◌∷◌, codes}
use Rattle.accounts.specs.declared.account.Account.{Account}
use Rattle.accounts.specs.declared.route.Route.{Route}
use Rattle.config.specs.declared.config.Config.{Config}

abbrev pub script_system_id : List ℕ
script_system_id = codes "CENTRE"

-- three days, in seconds
abbrev pub script_validity : ℕ
script_validity = 259200

abbrev pub sme1 : Account
sme1 = record { system_id = codes "sme1"; password = codes "pw1"; transmit = true; receive = true }

abbrev pub sme2 : Account
sme2 = record { system_id = codes "sme2"; password = codes "pw2"; transmit = true; receive = true }

abbrev pub script_accounts : List Account
script_accounts = sme1 ∷ sme2 ∷ []

abbrev pub script_routes : List Route
script_routes = record { prefix = codes "2"; account = codes "sme2" } ∷ record { prefix = []; account = codes "sme1" } ∷ []

-- two accounts with both rights, what begins with a 2 to the second and all else to the first; no node listens
pub record IsOfScripts (config : Config) : Type 0 where
  pub system_id : config.system_id ≡ script_system_id
  pub default_validity : config.default_validity ≡ script_validity
  pub first_serial : config.first_serial ≡ 1
  pub stop_after : config.stop_after ≡ 0
  pub nodes : config.nodes.items ≡ []
  pub accounts : config.accounts ≡ script_accounts
  pub routes : config.routes ≡ script_routes
