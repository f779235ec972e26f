-- Where in a run of steps an act was done, and what came to its node then.
use Rattle.std.proofs.Common.{◌≡◌, ℕ, List, [], ◌∷◌, ◌++◌, map, refl, sym, ap, subst, ◌∙◌, inl, inr}
use Rattle.std.specs.Prelude.{reverse}
use Rattle.mc_model.specs.message.Decree.{Decree, Final}
use Rattle.mc_model.specs.synod.Lists.{In}
use Rattle.mc_model.specs.node.Act.{Act, Replies, Reports}
use Rattle.mc_model.specs.node.Outputs.{Outputs, outputs_of, receipts_in, replies_in}
use Rattle.mc_model.specs.node.Setup.{Setup}
use Rattle.mc_model.specs.cluster.Fate.{TellsOf}
use Rattle.mc_model.specs.cluster.Steps.{AreSteps, Cluster, IsStep, Step, acts_in, by_node, setup_of}
use Rattle.mc_model.specs.cluster.World.{Deed, World, reached, start}
use Rattle.node_laws.specs.Clusters.{MayHappen, NodeInput, StatesFinal, cluster_outputs, kept_reached, step_at, step_outputs, world_at}
use Rattle.node_laws.proofs.cluster.Causing.{IsBy, acts_by}
use Rattle.node_laws.proofs.cluster.NoGrant.{deed_at, done_behind}
use Rattle.node_laws.proofs.invariant.Orders.{in_reverse}
use Rattle.mc_laws.proofs.step.Behind.{reached_on}
use Rattle.node_laws.proofs.cluster.Stated.{receipt_act, reply_act}

-- ---- lists

pub record IsCutAt {A : Type 0} (x : A) (xs : List A) : Type 0 where
  pub newer : List A
  pub older : List A
  pub split : xs ≡ newer ++ x ∷ older

pub cut_at : {A : Type 0} (x : A) (xs : List A) → In x xs → IsCutAt x xs
cut_at x [] none = absurd none
cut_at x (first ∷ xs) (inl same) = record { newer = []; older = xs; split = λ i. sym same i ∷ xs }
cut_at x (first ∷ xs) (inr later) =
    let it = cut_at x xs later in record { newer = first ∷ it.newer; older = it.older; split = λ i. first ∷ it.split i }

pub in_cut : {A : Type 0} (newer older : List A) (x : A) → In x (newer ++ x ∷ older)
in_cut [] older x = inl refl
in_cut (first ∷ newer) older x = inr (in_cut newer older x)

pub in_older : {A : Type 0} (newer : List A) (first : A) (older : List A) (x : A) → In x older → In x (newer ++ first ∷ older)
in_older [] first older x among = inr among
in_older (next ∷ newer) first older x among = inr (in_older newer first older x among)

-- ---- inputs

-- a run of inputs has run up to each of them
pub may_until : (cluster : Cluster) (newer older : List NodeInput) → MayHappen cluster (newer ++ older) → MayHappen cluster older
may_until cluster [] older may = may
may_until cluster (next ∷ newer) older may = may_until cluster newer older may.4

-- ---- steps

abbrev pub came_by : Step → NodeInput
came_by step = record { node = step.node; input = step.input }

module _ (cluster : Cluster) where
  abbrev first : World
  first = start cluster.nodes cluster.serials

  -- a step of a run, behind which stand the steps of these inputs
  pub record IsStepOf (steps : List Step) (middle : List NodeInput) (next : NodeInput) (older : List NodeInput) : Type 0 where
    pub later : List Step
    pub step : Step
    pub before : List Step
    pub split : steps ≡ later ++ step ∷ before
    pub later_are : map came_by later ≡ middle
    pub step_is : came_by step ≡ next
    pub before_are : map came_by before ≡ older
    pub is : IsStep (world_at cluster before) (setup_of cluster step.node) step.input step.acts
    pub are : AreSteps cluster first before
    pub outputs_are : (step_at cluster (kept_reached cluster older) next).outputs
        ≡ outputs_of step.node ((world_at cluster before).actors step.node) ((world_at cluster before).records step.node) step.input step.acts
    pub older_outputs : cluster_outputs cluster older ≡ step_outputs cluster before

  pub step_of : (steps : List Step) → AreSteps cluster first steps → (middle : List NodeInput) (next : NodeInput) (older : List NodeInput) →
      map came_by steps ≡ middle ++ next ∷ older →
      cluster_outputs cluster (middle ++ next ∷ older) ≡ step_outputs cluster steps → IsStepOf steps middle next older
  step_of [] are [] next older inputs outputs = absurd (cc)
  step_of [] are (last ∷ middle) next older inputs outputs = absurd (cc)
  step_of (step ∷ before) are [] next older inputs outputs = record {
    later = [];
    step = step;
    before = before;
    split = refl;
    later_are = refl;
    step_is = cc;
    before_are = cc;
    is = are.0;
    are = are.1;
    outputs_are = cc;
    older_outputs = cc;
  }
  step_of (step ∷ before) are (last ∷ middle) next older inputs outputs =
      let same : came_by step ≡ last = cc in
      let rest : map came_by before ≡ middle ++ next ∷ older = cc in
      let given : cluster_outputs cluster (middle ++ next ∷ older) ≡ step_outputs cluster before = cc in
      let it = step_of before are.1 middle next older rest given in
      record {
        later = step ∷ it.later;
        step = it.step;
        before = it.before;
        split = λ i. step ∷ it.split i;
        later_are = λ i. same i ∷ it.later_are i;
        step_is = it.step_is;
        before_are = it.before_are;
        is = it.is;
        are = it.are;
        outputs_are = it.outputs_are;
        older_outputs = it.older_outputs;
      }

  abbrev pub setup_by : Step → Setup
  setup_by step = setup_of cluster step.node

  -- what an act was done by
  pub input_of : (step : Step) (before : List Step) → IsStep (world_at cluster before) (setup_by step) step.input step.acts →
      (act : Act) → In act step.acts → IsBy step.input act
  input_of step before is act among =
      acts_by (setup_by step) ((world_at cluster before).actors step.node) ((world_at cluster before).records step.node) step.input step.acts is.exact act among

  -- ---- the deed of an act of a step

  abbrev pub past_of : List (ℕ × Act) → List Deed
  past_of acts = (reached first acts).past

  abbrev pub past_behind : Step → List Step → List Act → List Deed
  past_behind step before rest = past_of (by_node step.node rest ++ acts_in before)

  pub record IsDeed (step : Step) (before : List Step) (act : Act) : Type 0 where
    pub rest : List Act
    pub parts : (other : Act) → In other rest → In other step.acts
    pub newer : List Deed
    pub split : (world_at cluster (step ∷ before)).past
        ≡ newer ++ deed_at (reached first (by_node step.node rest ++ acts_in before)) step.node act ∷ past_behind step before rest

  pub deed_of : (step : Step) (before : List Step) (act : Act) → In act step.acts → IsDeed step before act
  deed_of step before act among =
      let cut = cut_at act step.acts among in
      let it = done_behind (world_at cluster before) step.node cut.newer act cut.older in
      record {
        rest = cut.older;
        parts = λ other is. subst (In other) (sym cut.split) (in_older cut.newer act cut.older other is);
        newer = it.newer;
        split =
            ap (λ (w : World). w.past) (reached_on first (by_node step.node step.acts) (acts_in before))
            ∙ ap (λ (acts : List Act). (reached (world_at cluster before) (by_node step.node acts)).past) cut.split
            ∙ it.split
            ∙ ap (λ (w : World). it.newer ++ deed_at w step.node act ∷ w.past) (sym (reached_on first (by_node step.node cut.older) (acts_in before)));
      }

-- ---- what is told is an act

pub record IsToldBy (acts : List Act) (id : ℕ) (chain : List Decree) : Type 0 where
  pub act : Act
  pub among : In act acts
  pub tells : TellsOf act id chain

pub told_by : (outputs : Outputs) (acts : List Act) → outputs.replies ≡ reverse (replies_in acts) → outputs.receipts ≡ reverse (receipts_in acts) →
    (id : ℕ) (final : Final) → (says : StatesFinal outputs id final) → IsToldBy acts id says.chain
told_by outputs acts replies receipts id final says = elim says.tells [
  | inl it ↦ record {
    act = Replies it.reply.ticket it.reply.id it.reply.answer;
    among = reply_act acts it.reply (in_reverse it.reply (replies_in acts) (subst (In it.reply) replies it.among));
    tells = (it.about, it.shown);
  }
  | inr receipt ↦ record {
    act = Reports id says.chain;
    among = receipt_act acts (record { id = id; chain = says.chain })
        (in_reverse _ (receipts_in acts) (subst (In (record { id = id; chain = says.chain })) receipts receipt));
    tells = (refl, refl);
  }
]
