-- Which packets came to which nodes (own).
use Rattle.std.specs.Prelude.{◌≡◌, ℕ, ◌≤◌, ◌-◌, Bool, true, false, List, Option, Some, None, get_or}
use Rattle.mc_types.specs.Nodes.{has}
use Rattle.sim_net.specs.Network.{numbered}

-- the sets of the nodes to which packets came, by the numbers of the packets; and of each node, from 1 on, the number up to which each packet came to it
pub record Came : Type 0 where
  pub sets : List ℕ
  pub marks : List ℕ

abbrev pub is_among : Option ℕ → ℕ → Bool
is_among None node = false
is_among (Some nodes) node = has nodes node

abbrev pub came_in : Came → ℕ → ℕ → Bool
came_in came number node = is_among (numbered came.sets number) node

-- each packet up to a number came to a node
abbrev pub HaveCome : List ℕ → ℕ → ℕ → Type 0
HaveCome sets node mark = (number : ℕ) → 1 ≤ number → number ≤ mark → is_among (numbered sets number) node ≡ true

-- so it did up to the mark of each node
abbrev pub AreMarked : List ℕ → List ℕ → Type 0
AreMarked sets marks = (node : ℕ) → 1 ≤ node → HaveCome sets node (get_or marks (node - 1) 0)
