-- By which acts of a step a node gives out ESME_ROK to a cancel_sm, and a receipt.
use Rattle.std.proofs.Common.{◌≡◌, ℕ, List, [], ◌∷◌, Some, refl, sym, ap, subst, ◌∙◌, inl, inr}
use Rattle.std.specs.Prelude.{reverse}
use Rattle.mc_model.specs.message.Chain.{final_in}
use Rattle.mc_model.specs.message.Decree.{Author, Decree, Deleted}
use Rattle.mc_model.specs.message.Ids.{node_of}
use Rattle.mc_model.specs.synod.Lists.{In}
use Rattle.mc_model.specs.node.Act.{Act, Replies, Reports}
use Rattle.mc_model.specs.node.Outputs.{Outputs, Receipt, Reply, receipts_in, replies_in}
use Rattle.mc_model.specs.node.Replies.{Answer, Removed}
use Rattle.mc_model.specs.cluster.Steps.{AreSteps, Cluster, by_node}
use Rattle.mc_model.specs.cluster.World.{IsRun, May, World, reached, start}
use Rattle.mc_laws.proofs.invariant.Deeds.{removed_deleted}
use Rattle.node_laws.specs.Clusters.{CameEarlier, GrantsOut, MayHappen, NodeInput, StatesFinal, cluster_outputs, outputs_at, step_outputs, world_at}
use Rattle.node_laws.specs.GivenOut.{Cancels, CancelsDelete, EndsInToldOf, ReceiptsStand}
use Rattle.node_laws.proofs.cluster.Clustered.{clustered, one_more}
use Rattle.node_laws.proofs.cluster.NoGrant.{no_grant}
use Rattle.node_laws.proofs.cluster.Sources.{in_older}
use Rattle.node_laws.proofs.invariant.Orders.{in_reverse}

-- ---- acts

-- ESME_ROK to a cancel_sm tells of a deletion
removals_end : (node : ℕ) (w : World) (acts : List Act) → IsRun w (by_node node acts) → (reply : Reply) → In reply (replies_in acts) → (chain : List Decree) →
    reply.answer ≡ Removed chain → final_in chain ≡ Some Deleted
removals_end node w [] run reply among chain is = absurd among
removals_end node w (newest ∷ older) run reply among chain is =
    by_act (λ later. removals_end node w older run.1 reply later chain is) newest run.0 among
  where
    before : World
    before = reached w (by_node node older)

    by_act : (In reply (replies_in older) → final_in chain ≡ Some Deleted) → (act : Act) → May before node act → In reply (replies_in (act ∷ older)) →
        final_in chain ≡ Some Deleted
    by_act others (Replies ticket id answer) may (inl same) =
        let here : answer ≡ Removed chain = ap (λ (r : Reply). r.answer) (sym same) ∙ is in
        let removes = (subst (λ (a : Answer). May before node (Replies ticket id a)) here may).needs in
        removed_deleted before.nodes node (before.actors node) removes.asked.waiting removes.asked.waiting.request chain removes.fits
    by_act others (Replies ticket id answer) may (inr among) = others among
    by_act others act may among = others among

-- a receipt is written by the node that the id names, on a Told of its own
abbrev StandsAt : ℕ → Receipt → Type 0
StandsAt node receipt = (node_of receipt.id ≡ node) × EndsInToldOf node receipt.chain

reports_stand : (node : ℕ) (w : World) (acts : List Act) → IsRun w (by_node node acts) → (receipt : Receipt) → In receipt (receipts_in acts) →
    StandsAt node receipt
reports_stand node w [] run receipt among = absurd among
reports_stand node w (newest ∷ older) run receipt among = by_act (λ later. reports_stand node w older run.1 receipt later) newest run.0 among
  where
    before : World
    before = reached w (by_node node older)

    by_act : (In receipt (receipts_in older) → StandsAt node receipt) → (act : Act) → May before node act → In receipt (receipts_in (act ∷ older)) →
        StandsAt node receipt
    by_act others (Reports id chain) may (inl same) =
        let it = may.needs.told in (
          ap (λ (r : Receipt). node_of r.id) same ∙ may.needs.named,
          record {
            told = it.told;
            older = it.older;
            chain_is = ap (λ (r : Receipt). r.chain) same ∙ it.chain_is;
            kind = it.kind;
            node_is = ap (λ (author : Author). author.node) it.author;
          },
        )
    by_act others (Reports id chain) may (inr among) = others among
    by_act others act may among = others among

-- ---- a step

module _ (cluster : Cluster) (next : NodeInput) (past : List NodeInput) (may : MayHappen cluster (next ∷ past)) where
  -- the acts of one more input
  abbrev pub next_acts : List Act
  next_acts = (one_more cluster next past may).acts

  pub next_run : IsRun (world_at cluster (clustered cluster past may.4).steps) (by_node next.node next_acts)
  next_run =
      (subst (AreSteps cluster (start cluster.nodes cluster.serials)) (one_more cluster next past may).steps
      (clustered cluster (next ∷ past) may).are).0.run

  firsts_same : (one other : Outputs) (ones others : List Outputs) → one ∷ ones ≡ other ∷ others → one ≡ other
  firsts_same one other ones others is = cc

  pub replies_are : (outputs_at cluster past next).replies ≡ reverse (replies_in next_acts)
  replies_are = ap (λ (outputs : Outputs). outputs.replies)
      (firsts_same _ _ _ _ ((clustered cluster (next ∷ past) may).outputs ∙ ap (step_outputs cluster) (one_more cluster next past may).steps))

  pub receipts_are : (outputs_at cluster past next).receipts ≡ reverse (receipts_in next_acts)
  receipts_are = ap (λ (outputs : Outputs). outputs.receipts)
      (firsts_same _ _ _ _ ((clustered cluster (next ∷ past) may).outputs ∙ ap (step_outputs cluster) (one_more cluster next past may).steps))

  pub removal_ends : (reply : Reply) → In reply (outputs_at cluster past next).replies → (chain : List Decree) → reply.answer ≡ Removed chain →
      final_in chain ≡ Some Deleted
  removal_ends reply among =
      removals_end next.node (world_at cluster (clustered cluster past may.4).steps) next_acts next_run reply
      (in_reverse reply (replies_in next_acts) (subst (In reply) replies_are among))

  pub receipts_stand : ReceiptsStand next.node (outputs_at cluster past next)
  receipts_stand id chain among =
      let receipt : Receipt = record { id = id; chain = chain } in
      reports_stand next.node (world_at cluster (clustered cluster past may.4).steps) next_acts next_run receipt
      (in_reverse receipt (receipts_in next_acts) (subst (In receipt) receipts_are among))

-- ---- all that was given out

-- ESME_ROK to a cancel_sm states a final state, if its chain ends in it
states_deleted : (outputs : Outputs) (id : ℕ) (cancels : Cancels outputs id) → final_in cancels.chain ≡ Some Deleted → StatesFinal outputs id Deleted
states_deleted outputs id cancels ends = record {
  chain = cancels.chain;
  tells = inl (record {
    reply = record { ticket = cancels.ticket; id = id; answer = Removed cancels.chain };
    among = cancels.among;
    about = refl;
    shown = refl;
  });
  state = ends;
}

pub cancels_delete : (cluster : Cluster) (inputs : List NodeInput) → MayHappen cluster inputs → CancelsDelete (cluster_outputs cluster inputs)
cancels_delete cluster [] may outputs id among cancels = absurd among
cancels_delete cluster (next ∷ past) may outputs id (inl same) cancels =
    let reply : Reply = record { ticket = cancels.ticket; id = id; answer = Removed cancels.chain } in
    let here = subst (λ (o : Outputs). In reply o.replies) same cancels.among in
    states_deleted outputs id cancels (removal_ends cluster next past may reply here cancels.chain refl)
cancels_delete cluster (next ∷ past) may outputs id (inr before) cancels = cancels_delete cluster past may.4 outputs id before cancels

-- so nothing is granted of a message behind it
module _ (cluster : Cluster) (inputs : List NodeInput) (may : MayHappen cluster inputs) where
  pub cancelled_stays : (cancelling granting : Outputs) (id : ℕ) → CameEarlier cancelling granting (cluster_outputs cluster inputs) →
      Cancels cancelling id → GrantsOut granting id → ⊥
  cancelled_stays cancelling granting id came cancels =
      let among = subst (In cancelling) (sym came.split) (in_older came.newer granting came.older cancelling came.before) in
      no_grant cluster inputs may cancelling granting id Deleted came (cancels_delete cluster inputs may cancelling id among cancels)
