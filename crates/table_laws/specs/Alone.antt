-- A cluster of one node.
use Rattle.std.specs.Prelude.{ℕ}
use Rattle.mc_model.specs.node.Setup.{Setup}

-- node 1 of one, with the serial of its first message, and how long a message is valid that does not say it
abbrev pub alone : ℕ → ℕ → Setup
alone first_serial default_validity = record {
  node = 1;
  nodes = 1;
  first_serial = first_serial;
  default_validity = default_validity;
}
