-- Sets of nodes, each as the test of its members.
use Rattle.std.specs.Prelude.{ℕ, ◌*◌, Bool, false, ◌==◌, ◌||◌, nat_lt}
use Rattle.mc_model.specs.synod.Majority.{count}

abbrev pub nobody : ℕ → Bool
nobody node = false

abbrev pub with_node : (ℕ → Bool) → ℕ → ℕ → Bool
with_node nodes node = λ other. nodes other || other == node

-- more than half of so many nodes are among them (Paxos Made Simple, 2.2)
abbrev pub is_majority : ℕ → (ℕ → Bool) → Bool
is_majority nodes members = nat_lt nodes (2 * count members nodes)
