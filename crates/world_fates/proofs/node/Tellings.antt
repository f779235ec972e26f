-- What is told by prints from where a cluster stands on, one after the other.
use Rattle.std.proofs.Common.{◌≡◌, ℕ, ◌<◌, ◌^◌, Bool, List, [], ◌∷◌, ◌++◌, map, sym, ap, ◌∙◌, append_assoc}
use Rattle.std.proofs.lemmas.List.{map-append}
use Rattle.mc_model.specs.message.Submission.{Submission}
use Rattle.mc_model.specs.synod.Lists.{In}
use Rattle.mc_model.specs.node.Outputs.{Receipt, Reply}
use Rattle.mc_model.specs.cluster.Steps.{Cluster}
use Rattle.node_laws.specs.Clusters.{MayHappen, NodeInput}
use Rattle.receipts.specs.Texts.{Report}
use Rattle.sessions.specs.Session.{Session}
use Rattle.script_text.specs.Prints.{Delivers, Print, Reports}
use Rattle.script_text.specs.Pushes.{delivery_on}
use Rattle.script_text.specs.Runner.{told}
use Rattle.world_fates.proofs.node.Reports.{IsReportOf}
use Rattle.world_fates.proofs.node.Telling.{AreMute, IsMute, IsNoDelivery}
use Rattle.world_fates.proofs.node.Behind.{behind, happened_before}
use Rattle.world_fates.proofs.node.ReceiptsOut.{IsReceiptOut}
use Rattle.world_fates.proofs.node.StepsOut.{step_now}
use Rattle.world_fates.proofs.node.Submitted.{WasSubmitted}

-- what a node prints
abbrev pub NodePrint : Type 0
NodePrint = ℕ × Print

abbrev pub by_node : ℕ → Print → NodePrint
by_node node print = (node, print)

abbrev pub prints_at : ℕ → List Print → List NodePrint
prints_at node prints = map (by_node node) prints

-- a fact over prints: what has come in the end, the newest first, what has come so far, and what nodes print from then on
abbrev pub FactOfPrints : Type 1
FactOfPrints = List NodeInput → List NodeInput → List NodePrint → Type 0

-- It is told by prints if what they tell was given out: `Tells last past prints`, from where inputs led on, up to where the last of them led.
-- So it is with one print more that tells nothing or is of a receipt that was given out, and with the replies of a step in front.
pub record IsTelling (cluster : Cluster) (Tells : FactOfPrints) : Type 0 where
  pub mute : (last past : List NodeInput) (node : ℕ) (print : Print) (prints : List NodePrint) → IsMute print →
      IsNoDelivery print → Tells last past prints → Tells last past (by_node node print ∷ prints)
  pub report : (last past : List NodeInput) (node : ℕ) (receipt : Receipt) (session sequence : ℕ) (optional : Bool) (report : Report)
      (prints : List NodePrint) → MayHappen cluster past → IsReceiptOut cluster node past receipt → IsReportOf receipt.id receipt.chain report →
      Tells last past prints → Tells last past (by_node node (Reports session sequence optional report) ∷ prints)
  pub step : (last past : List NodeInput) (next : NodeInput) (prints : List NodePrint) → MayHappen cluster (next ∷ past) →
      Tells last (next ∷ past) prints → Tells last past prints
  pub replies : (last past : List NodeInput) (next : NodeInput) (connected : List (ℕ × Session)) (prints : List NodePrint) →
      MayHappen cluster (next ∷ past) →
      ((reply : Reply) → In reply (step_now cluster next past).outputs.replies → reply.id < 2 ^ 64) →
      Tells last (next ∷ past) prints →
      Tells last past (prints_at next.node (told connected (step_now cluster next past).outputs.replies).prints ++ prints)

-- and so it is with the deliver_sm of an attempt of what was submitted in front
abbrev pub TakesDeliveries : FactOfPrints → Type 0
TakesDeliveries Tells =
    (last past : List NodeInput) (node number : ℕ) (session : Session) (taken : Submission) (prints : List NodePrint)
    → WasSubmitted past taken
    → Tells last past prints
    → Tells last past (by_node node (Delivers number (delivery_on session taken)) ∷ prints)

pub both_at : (node : ℕ) (first last : List Print) (prints : List NodePrint) →
    prints_at node first ++ (prints_at node last ++ prints) ≡ prints_at node (first ++ last) ++ prints
both_at node first last prints =
    sym (append_assoc (prints_at node first) (prints_at node last) prints)
    ∙ ap (λ (printed : List NodePrint). printed ++ prints) (sym (map-append (by_node node) first last))

module _ (cluster : Cluster) (Tells : FactOfPrints) (telling : IsTelling cluster Tells) (last : List NodeInput) where
  pub mutes_tell : (past : List NodeInput) (node : ℕ) (mutes : List Print) (prints : List NodePrint) → AreMute mutes → Tells last past prints →
      Tells last past (prints_at node mutes ++ prints)
  mutes_tell past node [] prints mute tells = tells
  mutes_tell past node (print ∷ mutes) prints mute tells =
      telling.mute last past node print (prints_at node mutes ++ prints) mute.0.0 mute.0.1 (mutes_tell past node mutes prints mute.1 tells)

  -- steps that print nothing
  pub steps_tell : (inputs past : List NodeInput) (prints : List NodePrint) → MayHappen cluster (behind inputs past) →
      Tells last (behind inputs past) prints → Tells last past prints
  steps_tell [] past prints may tells = tells
  steps_tell (next ∷ inputs) past prints may tells =
      telling.step last past next prints (happened_before cluster inputs (next ∷ past) may) (steps_tell inputs (next ∷ past) prints may tells)
