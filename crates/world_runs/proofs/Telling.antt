-- What a world tells on a cancel_sm, and by a receipt.
use Rattle.std.proofs.Common.{◌≡◌, ℕ, List, ◌∷◌, ◌++◌, Ok, Err, sym, ap, subst}
use Rattle.mc_model.specs.message.Decree.{Deleted}
use Rattle.mc_model.specs.synod.Lists.{In}
use Rattle.mc_model.specs.node.Outputs.{Outputs, Reply}
use Rattle.mc_model.specs.node.Replies.{Removed}
use Rattle.mc_model.specs.cluster.Steps.{Cluster}
use Rattle.mc_parts.proofs.Membership.{in_left}
use Rattle.node_laws.specs.Clusters.{MayHappen, NodeInput, StatesFinal, kept_reached, outputs_at}
use Rattle.node_laws.specs.GivenOut.{Cancels, EndsInToldOf, ReceiptsStand}
use Rattle.node_laws.proofs.cluster.GivenOut.{cancels_delete, receipts_stand}
use Rattle.node_laws.proofs.cluster.Sources.{may_until}
use Rattle.world.specs.declared.given.Given.{Given}
use Rattle.world.specs.Step.{Step}
use Rattle.world.specs.Runs.{IsGiven, given_out}
use Rattle.world.specs.Taking.{node_at}
use Rattle.world_runs.specs.Tellings.{AllReceiptsStand, CancelsAreDeletions, GrantsNoneAfterACancel}
use Rattle.world_runs.specs.Traces.{Answer, Event, HaltedOver, StartedOver, Tried, answers_in, told_by}
use Rattle.world_runs.proofs.Coming.{node_of_step}
use Rattle.world_runs.proofs.Events.{ReachesBy, given_in, goes_on_by, passed, tried_of}
use Rattle.world_runs.proofs.Tracing.{grants_none, states_so}

-- ---- an answer and what the model gives out

abbrev cancels_given : (given : Given) (outputs : Outputs) → IsGiven given outputs → (id : ℕ) → Cancels (given_out given) id → Cancels outputs id
cancels_given given outputs is id cancels = record {
  ticket = cancels.ticket;
  chain = cancels.chain;
  among = subst (In (record { ticket = cancels.ticket; id = id; answer = Removed cancels.chain })) (ap (λ (o : Outputs). o.replies) is.others) cancels.among;
}

receipts_given_stand : (node : ℕ) (given : Given) (outputs : Outputs) → IsGiven given outputs → ReceiptsStand node outputs → ReceiptsStand node (given_out given)
receipts_given_stand node given outputs is stand id chain among =
    stand id chain (subst (In (record { id = id; chain = chain })) (ap (λ (o : Outputs). o.receipts) is.others) among)

-- ---- over a run

module _ (cluster : Cluster) (inputs : List NodeInput) (events : List Event) (last : List NodeInput) (r : ReachesBy cluster inputs events last)
    (may : MayHappen cluster last) where
  deleted_by : (event : Event) → In event events → (id : ℕ) → Cancels (told_by event) id → StatesFinal (told_by event) id Deleted
  deleted_by (Tried step (Ok given)) among id cancels =
      let it = given_in cluster inputs events last r step given among in
      states_so it.outputs (given_out given) (ap (λ (o : Outputs). o.replies) it.is.others) (ap (λ (o : Outputs). o.receipts) it.is.others) id Deleted
      (cancels_delete cluster last may it.outputs id it.among (cancels_given given it.outputs it.is id cancels))
  deleted_by (Tried step (Err fault)) among id cancels = absurd cancels.among
  deleted_by StartedOver among id cancels = absurd cancels.among
  deleted_by (HaltedOver count fault) among id cancels = absurd cancels.among

  pub cancels_are_deletions : CancelsAreDeletions (answers_in events)
  cancels_are_deletions answer id among cancels = let it = tried_of events answer among in deleted_by (Tried it.0 answer) it.1 id cancels

  pub grants_none_after_a_cancel : GrantsNoneAfterACancel (answers_in events)
  grants_none_after_a_cancel cancelling granting id came cancels =
      let among = subst (In cancelling) (sym came.split) (in_left cancelling came.older (granting ∷ came.newer) came.before) in
      grants_none cluster inputs events last r may cancelling granting id Deleted came (cancels_are_deletions cancelling id among cancels)

  pub all_receipts_stand : AllReceiptsStand events
  all_receipts_stand step given among =
      let it = passed cluster inputs events (Tried step (Ok given)) last r among in
      let mid = it.until.mid in
      let goes = it.until.goes_on in
      let way = goes_on_by cluster (goes.0 ∷ mid) it.after last goes.4 in
      let may_here = may_until cluster way.newer (goes.0 ∷ mid) (subst (MayHappen cluster) way.split may) in
      receipts_given_stand (node_at step) given (outputs_at cluster mid goes.0) goes.3
      (subst (λ (node : ℕ). ReceiptsStand node (outputs_at cluster mid goes.0)) (node_of_step cluster goes.1 (kept_reached cluster mid) step goes.0 goes.2)
      (receipts_stand cluster goes.0 mid may_here))
