-- What a cluster of nodes by what they keep states of a message is stated by a deed of the model.
use Rattle.std.proofs.Common.{◌≡◌, ℕ, List, [], ◌∷◌, refl, sym, ap, subst, inl, inr}
use Rattle.std.specs.Prelude.{reverse}
use Rattle.mc_model.specs.message.Decree.{Final}
use Rattle.mc_model.specs.synod.Lists.{In}
use Rattle.mc_model.specs.node.Act.{Act, Replies, Reports}
use Rattle.mc_model.specs.node.Outputs.{Outputs, Receipt, Reply, receipts_in, replies_in}
use Rattle.mc_model.specs.cluster.Fate.{States, TellsOf}
use Rattle.mc_model.specs.cluster.Steps.{Cluster, Step, StepRun, acts_in, by_node, world_after}
use Rattle.mc_model.specs.cluster.World.{Deed, World, reached, start}
use Rattle.mc_laws.proofs.step.Behind.{reached_on, run_by}
use Rattle.mc_laws.proofs.invariant.Reached.{holds, one_fate}
use Rattle.node_laws.specs.Clusters.{MayHappen, NodeInput, StatesFinal, cluster_outputs, step_outputs, world_at}
use Rattle.node_laws.proofs.cluster.Clustered.{clustered}
use Rattle.node_laws.proofs.invariant.Orders.{in_reverse, mapped_in}

-- ---- what goes out is done by an act

pub reply_act : (acts : List Act) (reply : Reply) → In reply (replies_in acts) → In (Replies reply.ticket reply.id reply.answer) acts
reply_act [] reply none = absurd none
reply_act (Replies ticket id answer ∷ acts) reply (inl same) = inl (ap (λ (r : Reply). Replies r.ticket r.id r.answer) same)
reply_act (Replies ticket id answer ∷ acts) reply (inr later) = inr (reply_act acts reply later)
reply_act (act ∷ acts) reply among = inr (reply_act acts reply among)

pub receipt_act : (acts : List Act) (receipt : Receipt) → In receipt (receipts_in acts) → In (Reports receipt.id receipt.chain) acts
receipt_act [] receipt none = absurd none
receipt_act (Reports id chain ∷ acts) receipt (inl same) = inl (ap (λ (r : Receipt). Reports r.id r.chain) same)
receipt_act (Reports id chain ∷ acts) receipt (inr later) = inr (receipt_act acts receipt later)
receipt_act (act ∷ acts) receipt among = inr (receipt_act acts receipt among)

-- ---- an act of a step is a deed that is remembered

pub record IsDone (w : World) (act : Act) : Type 0 where
  pub deed : Deed
  pub past : In deed w.past
  pub act_is : deed.act ≡ act

done_in : (first : World) (deeds : List (ℕ × Act)) (node : ℕ) (act : Act) → In (node, act) deeds → IsDone (reached first deeds) act
done_in first [] node act none = absurd none
done_in first (newest ∷ older) node act (inl same) = record { deed = _; past = inl refl; act_is = ap (λ (x : ℕ × Act). x.1) (sym same) }
done_in first (newest ∷ older) node act (inr before) =
    let it = done_in first older node act before in record { deed = it.deed; past = inr it.past; act_is = it.act_is }

pub past_still : (first : World) (deeds : List (ℕ × Act)) (deed : Deed) → In deed first.past → In deed (reached first deeds).past
past_still first [] deed past = past
past_still first (newest ∷ older) deed past = inr (past_still first older deed past)

module _ (cluster : Cluster) where
  abbrev first : World
  first = start cluster.nodes cluster.serials

  -- the step that gave this out, whose acts are remembered
  pub record IsGivenBy (steps : List Step) (outputs : Outputs) : Type 0 where
    pub acts : List Act
    pub replies_are : outputs.replies ≡ reverse (replies_in acts)
    pub receipts_are : outputs.receipts ≡ reverse (receipts_in acts)
    pub done : (act : Act) → In act acts → IsDone (world_at cluster steps) act

  pub given_by : (steps : List Step) (outputs : Outputs) → In outputs (step_outputs cluster steps) → IsGivenBy steps outputs
  given_by [] outputs none = absurd none
  given_by (newest ∷ older) outputs (inl same) = record {
    acts = newest.acts;
    replies_are = ap (λ (o : Outputs). o.replies) same;
    receipts_are = ap (λ (o : Outputs). o.receipts) same;
    done = λ act among.
        subst (λ (w : World). IsDone w act) (sym (reached_on first (by_node newest.node newest.acts) (acts_in older)))
        (done_in (reached first (acts_in older)) (by_node newest.node newest.acts) newest.node act
        (mapped_in (λ (a : Act). (newest.node, a)) newest.acts act among));
  }
  given_by (newest ∷ older) outputs (inr before) =
      let it = given_by older outputs before in
      record {
        acts = it.acts;
        replies_are = it.replies_are;
        receipts_are = it.receipts_are;
        done = λ act among.
            let done = it.done act among in
            record {
              deed = done.deed;
              past = subst (λ (w : World). In done.deed w.past) (sym (reached_on first (by_node newest.node newest.acts) (acts_in older)))
                  (past_still (reached first (acts_in older)) (by_node newest.node newest.acts) done.deed done.past);
              act_is = done.act_is;
            };
      }

  -- ---- a statement is one of the model

  pub record IsStatedIn (w : World) (id : ℕ) (final : Final) : Type 0 where
    pub deed : Deed
    pub past : In deed w.past
    pub states : States deed id final

  pub stated : (steps : List Step) (outputs : Outputs) → In outputs (step_outputs cluster steps) → (id : ℕ) (final : Final) →
      StatesFinal outputs id final →
      IsStatedIn (world_at cluster steps) id final
  stated steps outputs among id final says = elim says.tells [
    | inl replies ↦
        let act = Replies replies.reply.ticket replies.reply.id replies.reply.answer in
        let done = it.done act (reply_act it.acts replies.reply
        (in_reverse replies.reply (replies_in it.acts) (subst (In replies.reply) it.replies_are replies.among))) in
        by_act act done (replies.about, replies.shown)
    | inr receipt ↦
        let done = it.done (Reports id says.chain)
        (receipt_act it.acts (record { id = id; chain = says.chain })
        (in_reverse _ (receipts_in it.acts) (subst (In (record { id = id; chain = says.chain })) it.receipts_are receipt))) in
        by_act (Reports id says.chain) done (refl, refl)
  ]
    where
      it : IsGivenBy steps outputs
      it = given_by steps outputs among

      by_act : (act : Act) → IsDone (world_at cluster steps) act → TellsOf act id says.chain → IsStatedIn (world_at cluster steps) id final
      by_act act done tells = record {
        deed = done.deed;
        past = done.past;
        states = record { chain = says.chain; tells = subst (λ (a : Act). TellsOf a id says.chain) (sym done.act_is) tells; state = says.state };
      }

  pub one_final : (inputs : List NodeInput) → MayHappen cluster inputs → (one other : Outputs) (id : ℕ) (final second : Final) →
      In one (cluster_outputs cluster inputs) → In other (cluster_outputs cluster inputs) → StatesFinal one id final →
      StatesFinal other id second → final ≡ second
  one_final inputs may one other id final second given also says tells =
      let run = clustered cluster inputs may in
      let steps : StepRun = record { cluster = cluster; steps = run.steps; are = run.are } in
      let acts = run_by steps in
      let here = stated run.steps one (subst (In one) run.outputs given) id final says in
      let there = stated run.steps other (subst (In other) run.outputs also) id second tells in
      one_fate (world_after steps) (holds acts.nodes acts.serials acts.acts acts.may) here.deed there.deed id final second here.past
      there.past here.states there.states
