-- No attempt is granted once a final state was stated.
use Rattle.std.proofs.Common.{◌≡◌, ℕ, List, [], ◌∷◌, ◌++◌, Some, refl, sym, ap, subst, ◌∙◌, append_assoc}
use Rattle.mc_model.specs.message.Decree.{Final}
use Rattle.mc_model.specs.synod.Lists.{In}
use Rattle.mc_model.specs.synod.Packet.{Slot}
use Rattle.mc_model.specs.node.Act.{Act, Grants}
use Rattle.mc_model.specs.node.Core.{IsCore}
use Rattle.mc_model.specs.node.Input.{Arrival, Crash, Delivery, Grant, Input, Refusal, Response, Restart, Tick}
use Rattle.mc_model.specs.node.Outputs.{Outputs, granted_by, outputs_of}
use Rattle.mc_model.specs.cluster.Steps.{AreSteps, Cluster, IsStep, Step, StepRun, acts_in, by_node, setup_of, world_after}
use Rattle.mc_model.specs.cluster.World.{Deed, World, reached, start}
use Rattle.mc_laws.proofs.step.Behind.{reached_on, run_by}
use Rattle.mc_laws.proofs.invariant.Reached.{holds, no_grant_after}
use Rattle.node_laws.specs.Clusters.{CameEarlier, GrantsOut, MayHappen, NodeInput, StatesFinal, cluster_outputs, step_outputs, world_at}
use Rattle.node_laws.proofs.cluster.Clustered.{clustered}
use Rattle.node_laws.proofs.cluster.Stated.{stated}

-- an input by which an attempt is granted is a grant
grant_only : (input : Input) (slot : Slot) → granted_by input ≡ Some slot → input ≡ Grant slot
grant_only (Grant other) slot same = cc
grant_only (Delivery packet) slot same = absurd (cc)
grant_only (Crash packet after) slot same = absurd (cc)
grant_only (Arrival request) slot same = absurd (cc)
grant_only (Refusal status) slot same = absurd (cc)
grant_only (Tick moment reach) slot same = absurd (cc)
grant_only (Response other outcome) slot same = absurd (cc)
grant_only (Restart lost) slot same = absurd (cc)

abbrev pub deed_at : World → ℕ → Act → Deed
deed_at w node act = record { node = node; incarnation = (w.actors node).incarnation; act = act }

-- the deed of an act stands right behind what was done before
pub record IsNext (first : World) (node : ℕ) (act : Act) (older : List Act) (after : List Deed) : Type 0 where
  pub newer : List Deed
  pub split : after ≡ newer ++ deed_at (reached first (by_node node older)) node act ∷ (reached first (by_node node older)).past

pub done_behind : (first : World) (node : ℕ) (front : List Act) (act : Act) (older : List Act) →
    IsNext first node act older (reached first (by_node node (front ++ act ∷ older))).past
done_behind first node [] act older = record { newer = []; split = refl }
done_behind first node (newest ∷ front) act older =
    let it = done_behind first node front act older in
    record { newer = _ ∷ it.newer; split = λ i. deed_at (reached first (by_node node (front ++ act ∷ older))) node newest ∷ it.split i }

pub past_grows : (first : World) (deeds : List (ℕ × Act)) → (newer : List Deed) × ((reached first deeds).past ≡ newer ++ first.past)
past_grows first [] = ([], refl)
past_grows first (newest ∷ older) = let it = past_grows first older in (_ ∷ it.0, λ i. deed_at (reached first older) newest.0 newest.1 ∷ it.1 i)

module _ (cluster : Cluster) where
  abbrev first : World
  first = start cluster.nodes cluster.serials

  -- a grant that is given out is a deed, and what was done before stands behind it
  record IsGranted (steps : List Step) (older : List Step) (slot : Slot) : Type 0 where
    deed : Deed
    newer : List Deed
    split : (world_at cluster steps).past ≡ newer ++ deed ∷ (world_at cluster older).past
    act_is : deed.act ≡ Grants slot

  granted_now : (step : Step) (older : List Step) → IsStep (world_at cluster older) (setup_of cluster step.node) step.input step.acts →
      (slot : Slot) → granted_by step.input ≡ Some slot →
      IsGranted (step ∷ older) older slot
  granted_now step older is slot granted =
      let grant : step.input ≡ Grant slot = grant_only step.input slot granted in
      let core : is.exact.core ≡ Grants slot ∷ [] = core_of step.input grant is.exact.core is.exact.core_is in
      let acts : step.acts ≡ front ++ Grants slot ∷ [] = is.exact.acts_are ∙ ap (λ (c : List Act). front ++ c) core in
      let done = done_behind (world_at cluster older) step.node front (Grants slot) [] in
      record {
        deed = deed_at (world_at cluster older) step.node (Grants slot);
        newer = done.newer;
        split =
            ap (λ (w : World). w.past) (reached_on first (by_node step.node step.acts) (acts_in older))
            ∙ ap (λ (done_so : List Act). (reached (world_at cluster older) (by_node step.node done_so)).past) acts
            ∙ done.split;
        act_is = refl;
      }
    where
      front : List Act
      front = is.exact.reports ++ is.exact.replies ++ is.exact.proposes ++ is.exact.prepares ++ is.exact.abandons ++ is.exact.asks ++
          is.exact.late ++ is.exact.settles

      core_of : (input : Input) → input ≡ Grant slot → (core : List Act) → IsCore (setup_of cluster step.node)
          ((world_at cluster older).actors step.node) ((world_at cluster older).records step.node) input core →
          core ≡ Grants slot ∷ []
      core_of input same core done = subst (λ (i : Input). IsCore (setup_of cluster step.node) ((world_at cluster older).actors step.node)
          ((world_at cluster older).records step.node) i core) same done

  -- the steps that were taken before one gave this out
  record IsCut (steps : List Step) (second : Outputs) (older : List Outputs) : Type 0 where
    step : Step
    before : List Step
    is : IsStep (world_at cluster before) (setup_of cluster step.node) step.input step.acts
    are : AreSteps cluster first before
    older_is : older ≡ step_outputs cluster before
    second_is : second ≡ outputs_of step.node ((world_at cluster before).actors step.node) ((world_at cluster before).records step.node) step.input step.acts
    newer : List Deed
    past : (world_at cluster steps).past ≡ newer ++ (world_at cluster (step ∷ before)).past

  cut : (steps : List Step) → AreSteps cluster first steps → (newer older : List Outputs) (second : Outputs) →
      step_outputs cluster steps ≡ newer ++ second ∷ older →
      IsCut steps second older
  cut [] are [] older second split = absurd (cc)
  cut [] are (one ∷ newer) older second split = absurd (cc)
  cut (step ∷ before) are [] older second split = record {
    step = step;
    before = before;
    is = are.0;
    are = are.1;
    older_is = cc;
    second_is = cc;
    newer = [];
    past = refl;
  }
  cut (step ∷ before) are (one ∷ newer) older second split =
      let rest : step_outputs cluster before ≡ newer ++ second ∷ older = cc in
      let it = cut before are.1 newer older second rest in
      let grown = past_grows (world_at cluster before) (by_node step.node step.acts) in
      record {
        step = it.step;
        before = it.before;
        is = it.is;
        are = it.are;
        older_is = it.older_is;
        second_is = it.second_is;
        newer = grown.0 ++ it.newer;
        past =
            ap (λ (w : World). w.past) (reached_on first (by_node step.node step.acts) (acts_in before))
            ∙ grown.1
            ∙ ap (λ (ds : List Deed). grown.0 ++ ds) it.past
            ∙ sym (append_assoc grown.0 it.newer (world_at cluster (it.step ∷ it.before)).past);
      }

  pub no_grant : (inputs : List NodeInput) → MayHappen cluster inputs → (stating granting : Outputs) (id : ℕ) (final : Final) →
      CameEarlier stating granting (cluster_outputs cluster inputs) → StatesFinal stating id final → GrantsOut granting id → ⊥
  no_grant inputs may stating granting id final came says grants =
      let run = clustered cluster inputs may in
      let steps : StepRun = record { cluster = cluster; steps = run.steps; are = run.are } in
      let acts = run_by steps in
      let it = cut run.steps run.are came.newer came.older granting (sym run.outputs ∙ came.split) in
      let granted : granted_by it.step.input ≡ Some grants.slot = ap (λ (o : Outputs). o.granted) (sym it.second_is) ∙ grants.granted in
      let grant = granted_now it.step it.before it.is grants.slot granted in
      let said = stated cluster it.before stating (subst (In stating) it.older_is came.before) id final says in
      no_grant_after (world_after steps) (holds acts.nodes acts.serials acts.acts acts.may) said.deed grant.deed id final
      (record {
        newer = it.newer ++ grant.newer;
        older = (world_at cluster it.before).past;
        split = it.past ∙ ap (λ (ds : List Deed). it.newer ++ ds) grant.split ∙ sym
            (append_assoc it.newer grant.newer (grant.deed ∷ (world_at cluster it.before).past));
        before = said.past;
      })
      said.states
      (record { slot = grants.slot; grants = grant.act_is; about = grants.about })
