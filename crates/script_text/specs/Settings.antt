-- What the centre of a script is set up with.
use Rattle.config.specs.Scripts.{script_accounts, script_routes, script_system_id, script_validity}
pub use Rattle.esme_service.specs.Settings.{Settings, settings_of}

-- the settings of a script (own)
abbrev pub script_settings : Settings
script_settings = record {
  system_id = script_system_id;
  validity = script_validity;
  accounts = script_accounts;
  routes = script_routes;
}
