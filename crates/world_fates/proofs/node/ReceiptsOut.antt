-- The receipts that a cluster has given out, at a node.
use Rattle.std.proofs.Common.{ℕ, ◌<◌, ◌^◌, List, [], ◌∷◌, inr}
use Rattle.mc_model.specs.synod.Lists.{In}
use Rattle.mc_model.specs.node.Outputs.{Outputs, Receipt}
use Rattle.mc_model.specs.cluster.Steps.{Cluster}
use Rattle.node_laws.specs.Clusters.{MayHappen, NodeInput, cluster_outputs}
use Rattle.world_fates.proofs.node.Reporting.{IsDue, due_later}
use Rattle.world_fates.proofs.node.Behind.{behind, decided_next, world_after}

module _ (cluster : Cluster) (node : ℕ) where
  -- a receipt was given out at a node, and the final state in which its chain ends is decided there
  pub record IsReceiptOut (past : List NodeInput) (receipt : Receipt) : Type 0 where
    pub small : receipt.id < 2 ^ 64
    pub outputs : Outputs
    pub given : In outputs (cluster_outputs cluster past)
    pub among : In receipt outputs.receipts
    pub due : (may : MayHappen cluster past) → IsDue node (world_after cluster past may) receipt

  abbrev pub AreReceiptsOut : List NodeInput → List Receipt → Type 0
  AreReceiptsOut past receipts = (receipt : Receipt) → In receipt receipts → IsReceiptOut past receipt

  pub receipts_out_later : (inputs past : List NodeInput) (receipts : List Receipt) → AreReceiptsOut past receipts →
      AreReceiptsOut (behind inputs past) receipts
  receipts_out_later [] past receipts out = out
  receipts_out_later (next ∷ inputs) past receipts out = receipts_out_later inputs (next ∷ past) receipts now
    where
      now : AreReceiptsOut (next ∷ past) receipts
      now receipt among =
          let it = out receipt among in
          record {
            small = it.small;
            outputs = it.outputs;
            given = inr it.given;
            among = it.among;
            due = λ may. due_later node (world_after cluster past may.4) (world_after cluster (next ∷ past) may) receipt
                (decided_next cluster next past may) (it.due may.4);
          }
