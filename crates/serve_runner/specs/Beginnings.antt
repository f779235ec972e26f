-- With what the nodes of a server begin (own).
use Rattle.config.specs.declared.config.Config.{Config}
use Rattle.server.specs.Defaults.{Defaults}

-- what they go by if a message does not say it, as the configuration says
abbrev pub defaults_in : Config → Defaults
defaults_in config = record { first_serial = config.first_serial; default_validity = config.default_validity }
