-- One round that starts at a node by itself.
use Rattle.std.proofs.Common.{ℕ, [], ◌∷◌, refl, ap, inl, arith}
use Rattle.mc_model.specs.message.Decree.{Decree}
use Rattle.node_model.specs.Attempts.{concluded_then}
use Rattle.node_model.specs.Kept.{Kept}
use Rattle.table_laws.specs.Alone.{alone}
use Rattle.table_laws.specs.Tables.{TableNode, chain_at, receipts_with, settled, with_entry}
use Rattle.table_laws.specs.Resting.{IsResting, IsTaken}
use Rattle.table_laws.specs.Settling.{SettlesOn, round_begun}
use Rattle.table_laws.proofs.Carrying.{round_starts}
use Rattle.table_laws.proofs.Ending.{settles_after, none_answered}
use Rattle.table_laws.proofs.Coming.{round_ends}
use Rattle.table_laws.proofs.Calm.{calm_at_rest, calm_but}
use Rattle.table_laws.proofs.Leading.{few_enough}

pub round_settles : (first validity : ℕ) (k : Kept) (t : TableNode) → IsResting k t → (id : ℕ) (decree : Decree) → IsTaken k id (decree ∷ chain_at t.table id) →
    SettlesOn (alone first validity) (round_begun (alone first validity) k id decree (chain_at t.table id))
    (record t { table = with_entry t.table id (settled t (chain_at t.table id) decree) }) [] (receipts_with t id (chain_at t.table id) decree)
round_settles first validity k t resting id decree taken =
    settles_after (alone first validity) _ _ (record t { table = with_entry t.table id (settled t (chain_at t.table id) decree) }) []
    (receipts_with t id (chain_at t.table id) decree)
    (ap concluded_then (round_starts first validity id (chain_at t.table id) decree k (resting.message id).ready))
    refl
    refl
    (inl refl)
    (round_ends first validity k t id (chain_at t.table id) decree [] [] (calm_but id k t (calm_at_rest k t resting))
    (resting.message id).ready resting.waits taken (none_answered first validity id decree (chain_at t.table id)))
    (few_enough (record t { table = with_entry t.table id (settled t (chain_at t.table id) decree) }) (omega arith))
