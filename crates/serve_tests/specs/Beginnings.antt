-- With what the node of a test begins (own).
use Rattle.config.specs.declared.config.Config.{Config}
use Rattle.node_threads.specs.Defaults.{Defaults}

-- what it goes by if a message does not say it, as the configuration says
abbrev pub defaults_in : Config → Defaults
defaults_in config = record { first_serial = config.first_serial; default_validity = config.default_validity }
