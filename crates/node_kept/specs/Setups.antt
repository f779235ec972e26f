-- With what a node may be set up.
use Rattle.std.specs.Prelude.{ℕ, ◌≤◌}
use Rattle.mc_model.specs.message.Ids.{IsSerial}
use Rattle.mc_model.specs.node.Setup.{Setup}

abbrev pub setup_with : ℕ → ℕ → ℕ → ℕ → Setup
setup_with node nodes first_serial default_validity =
    record { node = node; nodes = nodes; first_serial = first_serial; default_validity = default_validity }

-- the node is one of nine at most, and there is such a serial
pub record IsSetup (s : Setup) : Type 0 where
  pub node : s.node ≤ s.nodes
  pub nodes : s.nodes ≤ 9
  pub serial : IsSerial s.first_serial
