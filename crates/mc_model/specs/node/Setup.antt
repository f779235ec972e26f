-- With what a node is set up.
use Rattle.std.specs.Prelude.{ℕ}

-- A node's number and how many there are, the serial of the first message of each of its incarnations, and how long a message is
-- valid that does not say it, in seconds.
pub record Setup : Type 0 where
  pub node : ℕ
  pub nodes : ℕ
  pub first_serial : ℕ
  pub default_validity : ℕ
