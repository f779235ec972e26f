-- Each DELIVERED that a cluster of nodes by what they keep gives out stands on an attempt that was granted and answered.
use Rattle.std.proofs.Common.{◌≡◌, ◌⊎◌, ℕ, Bool, true, false, List, [], ◌∷◌, ◌++◌, map, Some, refl, sym, ap, subst, ◌∙◌, inl, inr}
use Rattle.std.specs.Prelude.{if◌then◌else◌}
use Rattle.std.proofs.lemmas.List.{map-append}
use Rattle.mc_model.specs.message.Decree.{Author, Decree, Delivered, Fate, Final}
use Rattle.mc_model.specs.message.Chain.{final_in}
use Rattle.mc_model.specs.synod.Lists.{In}
use Rattle.mc_model.specs.synod.Packet.{Slot, slot_of}
use Rattle.mc_model.specs.node.Act.{Act, Concludes, Grants}
use Rattle.mc_model.specs.node.Input.{Grant, Input, Response, Restart}
use Rattle.mc_model.specs.node.Outcome.{Concluded, Outcome}
use Rattle.mc_model.specs.node.Outputs.{Outputs}
use Rattle.mc_model.specs.node.Setup.{Setup}
use Rattle.mc_model.specs.cluster.Fate.{CameBefore, IsDelivery, TellsOf, deed_by}
use Rattle.mc_model.specs.cluster.Steps.{AreSteps, Cluster, IsStep, Step, StepRun, acts_in, by_node, setup_of, world_after}
use Rattle.mc_model.specs.cluster.World.{Deed, World, reached, start}
use Rattle.mc_laws.proofs.invariant.Answers.{done}
use Rattle.mc_laws.proofs.step.Behind.{run_by}
use Rattle.mc_laws.proofs.invariant.Reached.{holds, stands_on_delivery}
use Rattle.node_model.specs.Kept.{Kept}
use Rattle.node_model.specs.Stepped.{stepped, stepped_down, stepped_up}
use Rattle.node_laws.specs.Clusters.{CameInOneLife, IsDeliveredBy, KeptCluster, LivesOn, MayHappen, NodeInput, StatesFinal, comes_to}
use Rattle.node_laws.specs.Clusters.{kept_reached, step_at, world_at}
use Rattle.node_laws.proofs.cluster.Clustered.{clustered}
use Rattle.node_laws.proofs.cluster.Lives.{life_in, life_within, lives_on}
use Rattle.node_laws.proofs.cluster.NoGrant.{deed_at}
use Rattle.node_laws.proofs.cluster.Sources.{IsDeed, came_by, cut_at, deed_of, input_of, may_until, past_behind, past_of, setup_by, step_of, told_by}

-- ---- from acts to steps

-- an act is done in a step, behind these of it
record IsWithin (node : ℕ) (acts : List Act) (older : List (ℕ × Act)) (by : ℕ) (act : Act) (earlier : List (ℕ × Act)) : Type 0 where
  node_is : node ≡ by
  among : In act acts
  rest : List Act
  parts : (other : Act) → In other rest → In other acts
  earlier_is : earlier ≡ by_node node rest ++ older

-- or before it
record IsBefore (older : List (ℕ × Act)) (by : ℕ) (act : Act) (earlier : List (ℕ × Act)) : Type 0 where
  later : List (ℕ × Act)
  split : older ≡ later ++ (by, act) ∷ earlier

within_or_before : (node : ℕ) (acts : List Act) (older later : List (ℕ × Act)) (by : ℕ) (act : Act) (earlier : List (ℕ × Act)) →
    by_node node acts ++ older ≡ later ++ (by, act) ∷ earlier → IsWithin node acts older by act earlier ⊎ IsBefore older by act earlier
within_or_before node [] older later by act earlier split = inr (record { later = later; split = split })
within_or_before node (first ∷ acts) older [] by act earlier split =
    let heads : ◌≡◌ {A = ℕ × Act} (node, first) (by, act) = cc in
    let tails : by_node node acts ++ older ≡ earlier = cc in
    inl (record {
      node_is = ap (λ (x : ℕ × Act). x.0) heads;
      among = inl (ap (λ (x : ℕ × Act). x.1) (sym heads));
      rest = acts;
      parts = λ other among. inr among;
      earlier_is = sym tails;
    })
within_or_before node (first ∷ acts) older (next ∷ later) by act earlier split =
    let tails : by_node node acts ++ older ≡ later ++ (by, act) ∷ earlier = cc in
    elim (within_or_before node acts older later by act earlier tails) [
      | inl it ↦ inl (record {
        node_is = it.node_is;
        among = inr it.among;
        rest = it.rest;
        parts = λ other among. inr (it.parts other among);
        earlier_is = it.earlier_is;
      })
      | inr it ↦ inr it
    ]

module _ (cluster : Cluster) where
  abbrev first : World
  first = start cluster.nodes cluster.serials

  -- the step in which an act was done
  record IsDoneIn (steps : List Step) (by : ℕ) (act : Act) (earlier : List (ℕ × Act)) : Type 0 where
    later : List Step
    step : Step
    before : List Step
    split : steps ≡ later ++ step ∷ before
    is : IsStep (world_at cluster before) (setup_of cluster step.node) step.input step.acts
    are : AreSteps cluster first before
    within : IsWithin step.node step.acts (acts_in before) by act earlier

  done_in : (steps : List Step) → AreSteps cluster first steps → (later : List (ℕ × Act)) (by : ℕ) (act : Act) (earlier : List (ℕ × Act)) →
      acts_in steps ≡ later ++ (by, act) ∷ earlier → IsDoneIn steps by act earlier
  done_in [] are [] by act earlier split = absurd (cc)
  done_in [] are (next ∷ later) by act earlier split = absurd (cc)
  done_in (step ∷ before) are later by act earlier split = elim (within_or_before step.node step.acts (acts_in before) later by act earlier split) [
    | inl it ↦ record { later = []; step = step; before = before; split = refl; is = are.0; are = are.1; within = it }
    | inr it ↦
        let there = done_in before are.1 it.later by act earlier it.split in
        record {
          later = step ∷ there.later;
          step = there.step;
          before = there.before;
          split = λ i. step ∷ there.split i;
          is = there.is;
          are = there.are;
          within = there.within;
        }
  ]

  -- the inputs of a run, where it has done a step
  inputs_split : (steps later : List Step) (step : Step) (before : List Step) (inputs : List NodeInput) →
      map came_by steps ≡ inputs → steps ≡ later ++ step ∷ before →
      inputs ≡ map came_by later ++ came_by step ∷ map came_by before
  inputs_split steps later step before inputs are split = sym are ∙ ap (map came_by) split ∙ map-append came_by later (step ∷ before)

  -- the incarnation of a deed, and of its node before the step
  life_before : (steps : List Step) (by : ℕ) (act : Act) (earlier : List (ℕ × Act)) (there : IsDoneIn steps by act earlier) →
      ((lost : ℕ) → there.step.input ≡ Restart lost → ⊥) → life_in by (reached first earlier) ≡ life_in by (world_at cluster there.before)
  life_before steps by act earlier there none =
      ap (λ (acts : List (ℕ × Act)). life_in by (reached first acts)) there.within.earlier_is
      ∙ life_within cluster by there.step there.before there.is none there.within.rest there.within.parts

  -- ---- a grant before an answer

  no_start : (input other : Input) → input ≡ other → ((lost : ℕ) → other ≡ Restart lost → ⊥) → (lost : ℕ) → input ≡ Restart lost → ⊥
  no_start input other same none lost anew = none lost (sym same ∙ anew)

  module _ (author : Author) (slot : Slot) where
    abbrev grant_deed : Deed
    grant_deed = deed_by author (Grants slot)

    -- the step of a grant, in the life of its author
    record IsGrantStep (steps : List Step) : Type 0 where
      later : List Step
      step : Step
      before : List Step
      split : steps ≡ later ++ step ∷ before
      is : IsStep (world_at cluster before) (setup_by cluster step) step.input step.acts
      came : came_by step ≡ comes_to author.node (Grant slot)
      life : author.incarnation ≡ life_in author.node (world_at cluster before)

    -- a grant that was done before the step of an answer, or in it, was done before
    grant_step : (step : Step) (before : List Step) → IsStep (world_at cluster before) (setup_by cluster step) step.input step.acts →
        AreSteps cluster first before → (rest : List Act) → ((act : Act) → In act rest → In act step.acts) → (step.input ≡ Grant slot → ⊥) →
        In grant_deed (past_of cluster (by_node step.node rest ++ acts_in before)) → IsGrantStep before
    grant_step step before is are rest parts other among =
        let cut = cut_at grant_deed _ among in
        let d = done cluster.nodes cluster.serials (by_node step.node rest ++ acts_in before) cut.newer grant_deed cut.older cut.split in
        elim (within_or_before step.node rest (acts_in before) d.later author.node (Grants slot) d.earlier d.split) [
          | inl it ↦ absurd (other (input_of cluster step before is (Grants slot) (parts (Grants slot) it.among)))
          | inr it ↦
              let there = done_in before are it.later author.node (Grants slot) d.earlier it.split in
              let granted : there.step.input ≡ Grant slot = input_of cluster there.step there.before there.is (Grants slot) there.within.among in
              record {
                later = there.later;
                step = there.step;
                before = there.before;
                split = there.split;
                is = there.is;
                came = λ i. comes_to (there.within.node_is i) (granted i);
                life = d.incarnation ∙ life_before before author.node (Grants slot) d.earlier there
                    (no_start there.step.input (Grant slot) granted (λ lost is. cc));
              }
        ]

    -- and the node lived on until a later step in that life
    grant_lives : (steps : List Step) → AreSteps cluster first steps → author.incarnation ≡ life_in author.node (world_at cluster steps) →
        (it : IsGrantStep steps) →
        LivesOn author.node (map came_by it.later)
    grant_lives steps are life it =
        lives_on cluster author.node it.later (it.step ∷ it.before) (subst (AreSteps cluster first) it.split are)
        (sym (ap (λ (ss : List Step). life_in author.node (world_at cluster ss)) it.split)
        ∙ sym life ∙ it.life
        ∙ sym (life_within cluster author.node it.step it.before it.is
        (no_start it.step.input (Grant slot) (ap (λ (x : NodeInput). x.input) it.came) (λ lost is. cc)) it.step.acts (λ act among. among)))

    module _ (outcome : Outcome) where
      abbrev answer_deed : Deed
      answer_deed = deed_by author (Concludes slot outcome)

      abbrev answer_input : NodeInput
      answer_input = comes_to author.node (Response slot outcome)

      no_grant_so : (input : Input) → input ≡ Response slot outcome → input ≡ Grant slot → ⊥
      no_grant_so input answer grant = let both : Response slot outcome ≡ Grant slot = sym answer ∙ grant in cc

      in_one_life : (steps later : List Step) (step : Step) (before : List Step) → AreSteps cluster first before →
          steps ≡ later ++ step ∷ before → came_by step ≡ answer_input →
          author.incarnation ≡ life_in author.node (world_at cluster before) → IsGrantStep before →
          CameInOneLife author.node (Grant slot) (Response slot outcome) (map came_by steps)
      in_one_life steps later step before are split came life grant = record {
        newer = map came_by later;
        middle = map came_by grant.later;
        older = map came_by grant.before;
        split =
            inputs_split steps later step before (map came_by steps) refl split
            ∙ (λ i. map came_by later ++ came i ∷ inputs_split before grant.later grant.step grant.before (map came_by before) refl grant.split i)
            ∙ (λ i. map came_by later ++ answer_input ∷ (map came_by grant.later ++ grant.came i ∷ map came_by grant.before));
        lives = grant_lives before are life grant;
      }

      -- both came before a step, if an outcome is not its input
      both_came : (step : Step) (before : List Step) → IsStep (world_at cluster before) (setup_by cluster step) step.input step.acts →
          AreSteps cluster first before → (rest : List Act) → ((act : Act) → In act rest → In act step.acts) → (step.input ≡ Response slot outcome → ⊥) →
          CameBefore grant_deed answer_deed (past_of cluster (by_node step.node rest ++ acts_in before)) →
          CameInOneLife author.node (Grant slot) (Response slot outcome) (map came_by before)
      both_came step before is are rest parts other came =
          let d = done cluster.nodes cluster.serials (by_node step.node rest ++ acts_in before) came.newer answer_deed came.older came.split in
          elim (within_or_before step.node rest (acts_in before) d.later author.node (Concludes slot outcome) d.earlier d.split) [
            | inl it ↦ absurd (other (input_of cluster step before is (Concludes slot outcome) (parts (Concludes slot outcome) it.among)))
            | inr it ↦
                let there = done_in before are it.later author.node (Concludes slot outcome) d.earlier it.split in
                let answered : there.step.input ≡ Response slot outcome =
                input_of cluster there.step there.before there.is (Concludes slot outcome) there.within.among in
                let past : past_of cluster (by_node there.step.node there.within.rest ++ acts_in there.before) ≡ came.older =
                ap (past_of cluster) (sym there.within.earlier_is) ∙ d.past in
                in_one_life before there.later there.step there.before there.are there.split (λ i. comes_to (there.within.node_is i) (answered i))
                (d.incarnation ∙ life_before before author.node (Concludes slot outcome) d.earlier there
                (no_start there.step.input (Response slot outcome) answered (λ lost is. cc)))
                (grant_step there.step there.before there.is there.are there.within.rest there.within.parts (no_grant_so there.step.input answered)
                (subst (In grant_deed) (sym past) came.before))
          ]

  -- ---- a statement

  stands : (step : Step) (before : List Step) → IsStep (world_at cluster before) (setup_by cluster step) step.input step.acts → AreSteps cluster first before →
      (id : ℕ) (chain : List Decree) (act : Act) (it : IsDeed cluster step before act) → TellsOf act id chain →
      final_in chain ≡ Some Delivered → IsDelivery id chain (past_behind cluster step before it.rest)
  stands step before is are id chain act it tells state =
      let steps : StepRun = record { cluster = cluster; steps = step ∷ before; are = (is, are) } in
      let acts = run_by steps in
      stands_on_delivery (world_after steps) (holds acts.nodes acts.serials acts.acts acts.may) it.newer
      (deed_at (reached first (by_node step.node it.rest ++ acts_in before)) step.node act) (past_behind cluster step before it.rest) id it.split
      (record { chain = chain; tells = tells; state = state })

  -- nothing is told as an outcome comes
  silent : (setup : Setup) (k : Kept) (slot : Slot) (outcome : Outcome) (up : Bool) (id : ℕ) (final : Final) →
      StatesFinal (if up then stepped_up setup k (Response slot outcome) else stepped_down setup k (Response slot outcome)).outputs id final → ⊥
  silent setup k slot outcome true id final says = elim says.tells [ inl it ↦ it.among | inr receipt ↦ receipt ]
  silent setup k slot outcome false id final says = elim says.tells [ inl it ↦ it.among | inr receipt ↦ receipt ]

  silent_at : (w : KeptCluster) (next : NodeInput) (slot : Slot) (outcome : Outcome) → next.input ≡ Response slot outcome →
      (id : ℕ) (final : Final) → StatesFinal (step_at cluster w next).outputs id final → ⊥
  silent_at w next slot outcome answer id final says =
      silent (setup_of cluster next.node) (w.kept next.node) slot outcome (w.kept next.node).up id final
      (subst (λ (input : Input). StatesFinal (stepped (setup_of cluster next.node) (w.kept next.node) input).outputs id final) answer says)

  -- an outcome of ESME_ROK has no error
  no_error : (inputs : List NodeInput) → MayHappen cluster inputs → (slot : Slot) (error node : ℕ) →
      CameInOneLife node (Grant slot) (Response slot (Concluded Delivered error)) inputs → error ≡ 0
  no_error inputs may slot error node came =
      let there = may_until cluster came.newer _ (subst (MayHappen cluster) came.split may) in
      there.2.possible

  module _ (next : NodeInput) (inputs : List NodeInput) (may : MayHappen cluster (next ∷ inputs)) (id : ℕ)
      (says : StatesFinal (step_at cluster (kept_reached cluster inputs) next).outputs id Delivered) where
    by_delivery : (before : List Step) → map came_by before ≡ inputs → (d : (deeds : List Deed) × IsDelivery id says.chain deeds) →
        CameInOneLife d.1.attempt.author.node (Grant (slot_of id (d.1.attempt ∷ d.1.older)))
        (Response (slot_of id (d.1.attempt ∷ d.1.older)) (Concluded Delivered d.1.error)) (map came_by before) →
        IsDeliveredBy id says.chain inputs
    by_delivery before older_is (deeds, d) came =
        let slot = slot_of id (d.attempt ∷ d.older) in
        let both = subst (CameInOneLife d.attempt.author.node (Grant slot) (Response slot (Concluded Delivered d.error))) older_is came in
        let none = no_error inputs may.4 slot d.error d.attempt.author.node both in
        record {
          fate = d.fate;
          attempt = d.attempt;
          older = d.older;
          number = d.number;
          chain_is = d.chain_is;
          attempted = d.attempted;
          delivered = d.delivered ∙ ap (Fate Delivered) none;
          author = d.author;
          granted = subst (λ (error : ℕ). CameInOneLife d.attempt.author.node (Grant slot) (Response slot (Concluded Delivered error)) inputs) none both;
        }

    pub delivered : IsDeliveredBy id says.chain inputs
    delivered =
        let run = clustered cluster (next ∷ inputs) may in
        let r = step_of cluster run.steps run.are [] next inputs run.inputs_are run.outputs in
        let told = told_by _ r.step.acts (ap (λ (o : Outputs). o.replies) r.outputs_are) (ap (λ (o : Outputs). o.receipts) r.outputs_are) id Delivered says in
        let it = deed_of cluster r.step r.before told.act told.among in
        let d = stands r.step r.before r.is r.are id says.chain told.act it told.tells says.state in
        by_delivery r.before r.before_are (past_behind cluster r.step r.before it.rest, d)
        (both_came d.attempt.author (slot_of id (d.attempt ∷ d.older)) (Concluded Delivered d.error) r.step r.before r.is r.are it.rest it.parts
        (λ answer. silent_at (kept_reached cluster inputs) next (slot_of id (d.attempt ∷ d.older)) (Concluded Delivered d.error)
        (ap (λ (x : NodeInput). x.input) (sym r.step_is) ∙ answer) id Delivered says)
        d.granted)
