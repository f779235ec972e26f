-- Whose a store is, as it is bound.
use Rattle.std.proofs.Common.{◌≡◌, [], ◌∷◌}
use Rattle.sqlite.specs.declared.types.Value.TheVariants.{Int}
use Rattle.sqlite.specs.declared.types.ValueRef.{ValueRef}
use Rattle.sqlite.specs.Value.{owned}
use Rattle.sqlite.specs.Values.{bound}
use Rattle.record_rows.specs.declared.whose.WhoseRow.{WhoseRow}
use Rattle.record_rows.specs.Whose.{values_in}

pub whose_bound : (row : WhoseRow) (cluster node nodes at : ValueRef) → owned cluster ≡ Int row.cluster → owned node ≡ Int row.node
    → owned nodes ≡ Int row.nodes → owned at ≡ Int row.at → bound (cluster ∷ node ∷ nodes ∷ at ∷ []) ≡ values_in row
whose_bound row cluster node nodes at a b c d = rw (a, b, c, d)
