-- Sets of nodes, as numbers: bit n - 1 is set for node n (own).
use Rattle.std.specs.Prelude.{ℕ, pred, ◌^◌, Bool, ◌&&◌, nat_le, nat_lt, bit_and}

-- whether a node is in the set
abbrev pub has : ℕ → ℕ → Bool
has bits node = nat_le 1 node && (nat_le node 9 && nat_lt 0 (bit_and bits (2 ^ pred node)))
