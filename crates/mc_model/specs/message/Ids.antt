-- Nodes, incarnations, moments and message ids, as numbers.
--
-- A message id (SMPP 3.4, 5.2.23: up to 64 characters of the centre's choice) is ten decimal digits here:
-- the node, one digit; its incarnation, four; the serial of the message in that incarnation, five.
use Rattle.std.specs.Prelude.{ℕ, ◌+◌, ◌*◌, ◌/◌, ◌%◌, ◌≤◌}

-- a cluster has one to nine nodes
pub record IsNode (node : ℕ) : Type 0 where
  pub least : 1 ≤ node
  pub most : node ≤ 9

-- how often a node has started
pub record IsIncarnation (incarnation : ℕ) : Type 0 where
  pub least : 1 ≤ incarnation
  pub most : incarnation ≤ 9999

-- messages are counted anew in each incarnation
abbrev pub most_serial : ℕ
most_serial = 99999

pub record IsSerial (serial : ℕ) : Type 0 where
  pub least : 1 ≤ serial
  pub most : serial ≤ most_serial

-- whole seconds since 1970-01-01T00:00:00Z, from the start of 2000 to the end of 2099
pub record IsMoment (moment : ℕ) : Type 0 where
  pub least : 946684800 ≤ moment
  pub most : moment ≤ 4102444799

-- the id of a message, as a number
abbrev pub id_of : ℕ → ℕ → ℕ → ℕ
id_of node incarnation serial = 1000000000 * node + 100000 * incarnation + serial

abbrev pub node_of : ℕ → ℕ
node_of id = id / 1000000000

abbrev pub incarnation_of : ℕ → ℕ
incarnation_of id = id / 100000 % 10000

abbrev pub serial_of : ℕ → ℕ
serial_of id = id % 100000

pub record IsId (id : ℕ) : Type 0 where
  pub node : IsNode (node_of id)
  pub incarnation : IsIncarnation (incarnation_of id)
  pub serial : IsSerial (serial_of id)
