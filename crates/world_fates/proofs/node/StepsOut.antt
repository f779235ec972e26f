-- What one more input gives out at its node.
use Rattle.std.proofs.Common.{◌≡◌, ◌∷◌, List, refl, sym, subst, inl, arith}
use Rattle.mc_model.specs.synod.Lists.{In}
use Rattle.mc_model.specs.node.Outputs.{receipts_in}
use Rattle.mc_model.specs.cluster.Steps.{Cluster}
use Rattle.mc_model.specs.cluster.World.{World}
use Rattle.node_model.specs.Outputs.{Stepped}
use Rattle.node_laws.specs.Clusters.{MayHappen, NodeInput, kept_reached, step_at}
use Rattle.node_laws.proofs.cluster.GivenOut.{next_acts, next_run, receipts_are}
use Rattle.node_laws.proofs.invariant.Orders.{in_reverse}
use Rattle.world_fates.proofs.node.Behind.{after_holds, next_world, world_after}
use Rattle.world_fates.proofs.node.ReceiptsOut.{AreReceiptsOut}
use Rattle.world_fates.proofs.node.Reporting.{AreDue, IsDue, receipts_due}
use Rattle.world_fates.proofs.node.Reports.{named_small}

module _ (cluster : Cluster) (next : NodeInput) (past : List NodeInput) where
  abbrev pub step_now : Stepped
  step_now = step_at cluster (kept_reached cluster past) next

  module _ (may : MayHappen cluster (next ∷ past)) where
    step_due : AreDue next.node (world_after cluster (next ∷ past) may) step_now.outputs.receipts
    step_due receipt among =
        subst (λ (w : World). IsDue next.node w receipt) (sym (next_world cluster next past may))
        (receipts_due next.node (world_after cluster past may.4) (after_holds cluster past may.4) (next_acts cluster next past may)
        (next_run cluster next past may) receipt
        (in_reverse receipt (receipts_in (next_acts cluster next past may)) (subst (In receipt) (receipts_are cluster next past may) among)))

  pub step_receipts_out : MayHappen cluster (next ∷ past) → AreReceiptsOut cluster next.node (next ∷ past) step_now.outputs.receipts
  step_receipts_out may receipt among =
      let named = (step_due may receipt among).named in
      let most = may.0.most in
      let few = may.0.few in
      record {
        small = named_small receipt.id (omega (arith, named, most, few));
        outputs = step_now.outputs;
        given = inl refl;
        among = among;
        due = λ happens. step_due happens receipt among;
      }
