-- The receipts that a step gives out: each tells what is decided then.
use Rattle.std.proofs.Common.{◌≡◌, ℕ, List, [], ◌∷◌, Some, sym, subst, inl, inr}
use Rattle.mc_model.specs.message.Decree.{Final}
use Rattle.mc_model.specs.message.Chain.{final_in}
use Rattle.mc_model.specs.message.Ids.{node_of}
use Rattle.mc_model.specs.synod.Lists.{In}
use Rattle.mc_model.specs.node.Act.{Act, Reports}
use Rattle.mc_model.specs.node.Outputs.{Receipt, receipts_in}
use Rattle.mc_model.specs.cluster.Steps.{by_node}
use Rattle.mc_model.specs.cluster.World.{IsRun, May, World, after, reached}
use Rattle.mc_laws.proofs.invariant.Reached.{Holds}
use Rattle.world_fates.proofs.node.Decided.{IsDecided, decided_after, told_decides}
use Rattle.world_fates.proofs.node.Replying.{Grows, holds_then}

-- the id names the node, and the final state in which the chain ends is decided
pub record IsDue (node : ℕ) (w : World) (receipt : Receipt) : Type 0 where
  pub named : node_of receipt.id ≡ node
  pub decided : (final : Final) → final_in receipt.chain ≡ Some final → IsDecided node w receipt.id final

abbrev pub AreDue : ℕ → World → List Receipt → Type 0
AreDue node w receipts = (receipt : Receipt) → In receipt receipts → IsDue node w receipt

pub due_later : (node : ℕ) (first last : World) (receipt : Receipt) → Grows first last → IsDue node first receipt → IsDue node last receipt
due_later node first last receipt grows due = record {
  named = due.named;
  decided = λ final ends. grows node receipt.id final (due.decided final ends);
}

-- ---- the receipts of acts

pub receipts_due : (node : ℕ) (w : World) → Holds w → (acts : List Act) → IsRun w (by_node node acts) →
    AreDue node (reached w (by_node node acts)) (receipts_in acts)
receipts_due node w h [] run receipt among = absurd among
receipts_due node w h (newest ∷ older) run receipt among = by_act (receipts_due node w h older run.1) newest run.0 among
  where
    before : World
    before = reached w (by_node node older)

    holds : Holds before
    holds = holds_then node w h older run.1

    later : AreDue node before (receipts_in older) → (act : Act) → May before node act → In receipt (receipts_in older) →
        IsDue node (after before node act) receipt
    later older_due act may among =
        due_later node before (after before node act) receipt (λ n id final. decided_after n before holds node act may id final) (older_due receipt among)

    by_act : AreDue node before (receipts_in older) → (act : Act) → May before node act → In receipt (receipts_in (act ∷ older)) →
        IsDue node (after before node act) receipt
    by_act older_due (Reports id chain) may (inl same) =
        subst (IsDue node (after before node (Reports id chain))) (sym same) (record {
          named = may.needs.named;
          decided = λ final ends.
              decided_after node before holds node (Reports id chain) may id final (told_decides node before id chain final may.needs.known ends);
        })
    by_act older_due (Reports id chain) may (inr among) = later older_due (Reports id chain) may among
    by_act older_due act may among = later older_due act may among
