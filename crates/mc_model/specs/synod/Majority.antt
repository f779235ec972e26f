-- More than half of the nodes of a cluster (Paxos Made Simple, 2.2).
use Rattle.std.specs.Prelude.{◌≡◌, ℕ, zero, suc, ◌*◌, ◌<◌, ◌≤◌, Bool, true, if◌then◌else◌}

-- how many of the nodes from 1 to this one pass a test
abbrev pub count : (ℕ → Bool) → ℕ → ℕ
count test zero = 0
count test (suc node) = if test (suc node) then suc (count test node) else count test node

abbrev pub IsMajority : ℕ → (ℕ → Bool) → Type 0
IsMajority nodes test = nodes < 2 * count test nodes

-- something holds of each node that passes the test
abbrev pub HoldsOf : ℕ → (ℕ → Bool) → (ℕ → Type 0) → Type 0
HoldsOf nodes test P = (node : ℕ) → 1 ≤ node → node ≤ nodes → test node ≡ true → P node

-- something holds of a majority of the nodes: of all that pass some test, and they are more than half
pub record Majority (nodes : ℕ) (P : ℕ → Type 0) : Type 0 where
  pub test : ℕ → Bool
  pub most : IsMajority nodes test
  pub each : HoldsOf nodes test P

-- a node that passes two tests
pub record PassesBoth (nodes : ℕ) (one other : ℕ → Bool) : Type 0 where
  pub node : ℕ
  pub least : 1 ≤ node
  pub most : node ≤ nodes
  pub passes_one : one node ≡ true
  pub passes_other : other node ≡ true
