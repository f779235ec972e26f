-- A step of a node by itself is a step of the cluster, once its packet was sent.
use Rattle.std.proofs.Common.{◌≡◌, ℕ, Bool, true, false, List, [], ◌∷◌, ◌++◌, refl, sym, ◌∙◌, ap, subst, inl, inr}
use Rattle.std.specs.Prelude.{◌==◌, if◌then◌else◌}
use Rattle.std.proofs.lemmas.Bool.{eqb-true, eq-eqb}
use Rattle.mc_model.specs.synod.Lists.{In}
use Rattle.mc_model.specs.synod.Packet.{Packet}
use Rattle.mc_model.specs.synod.Acceptor.{Records}
use Rattle.mc_model.specs.node.Actor.{Actor}
use Rattle.mc_model.specs.node.Act.{Act, Receives}
use Rattle.mc_model.specs.node.Input.{Input}
use Rattle.mc_model.specs.node.Step.{IsExact}
use Rattle.mc_model.specs.node.Alone.{Node, after_alone, IsRunAlone, IsStepAlone, AreStepsAlone, MayAlone, reached_alone, opened_new, own_acts}
use Rattle.mc_model.specs.cluster.World.{World, reached, start, IsRun, sent_by}
use Rattle.mc_model.specs.cluster.Steps.{Cluster, setup_of, IsStep, Step, AreSteps, CameTo, by_node, acts_in}
use Rattle.mc_model.specs.cluster.Assembly.{EachCame, WasSent, acts_of, steps_of}
use Rattle.mc_parts.proofs.Membership.{in_right}
use Rattle.mc_laws.proofs.step.Receiving.{came_by_input, exact_receives}
use Rattle.mc_laws.proofs.step.Behind.{run_behind, steps_run}
use Rattle.mc_laws.proofs.step.Together.{acts_here, acts_apart, alone, may_together, IsAlone}

-- ---- a run goes on by the acts of one node

pub acts_on : (node : ℕ) (more : List Act) (acts : List (ℕ × Act)) → acts_of node (by_node node more ++ acts) ≡ more ++ acts_of node acts
acts_on node [] acts = refl
acts_on node (newest ∷ older) acts =
    acts_here node (node, newest) (by_node node older ++ acts) refl ∙ ap (λ (xs : List Act). newest ∷ xs) (acts_on node older acts)

pub alone_on : (node : ℕ) (first : Node) (more acts : List Act) →
    reached_alone node first (more ++ acts) ≡ reached_alone node (reached_alone node first acts) more
alone_on node first [] acts = refl
alone_on node first (newest ∷ older) acts = ap (λ (s : Node). after_alone node s newest) (alone_on node first older acts)

packets_more : (first : World) (later acts : List (ℕ × Act)) (packet : Packet) → In packet (reached first acts).packets →
    In packet (reached first (later ++ acts)).packets
packets_more first [] acts packet is_in = is_in
packets_more first (newest ∷ later) acts packet is_in =
    in_right packet (sent_by (reached first (later ++ acts)) newest.0 newest.1) _ (packets_more first later acts packet is_in)

abbrev WereSent : World → List Act → Type 0
WereSent w acts = (packet : Packet) → In (Receives packet) acts → In packet w.packets

sent_act : (w v : World) (act : Act) (older : List Act) → ((packet : Packet) → In packet w.packets → In packet v.packets) →
    WereSent w (act ∷ older) →
    WasSent v act
sent_act w v (Receives packet) older more sent = more packet (sent packet (inl refl))
sent_act w v act older more sent = tt

pub goes_on : (nodes : ℕ) (serials : ℕ → ℕ) (acts : List (ℕ × Act)) (node : ℕ) (more : List Act) → IsRun (start nodes serials) acts →
    IsRunAlone nodes node (reached_alone node (opened_new (serials node)) (acts_of node acts)) more →
    WereSent (reached (start nodes serials) acts) more →
    IsRun (start nodes serials) (by_node node more ++ acts)
goes_on nodes serials acts node [] run alone sent = run
goes_on nodes serials acts node (newest ∷ older) run alone sent =
    let first = opened_new (serials node) in
    let before = goes_on nodes serials acts node older run alone.1 (λ packet is_in. sent packet (inr is_in)) in
    let is = ap (reached_alone node first) (acts_on node older acts) ∙ alone_on node first older (acts_of node acts) in (
      may_together nodes serials (by_node node older ++ acts) node newest before
          (sent_act (reached (start nodes serials) acts) (reached (start nodes serials) (by_node node older ++ acts)) newest older
          (packets_more (start nodes serials) (by_node node older) acts) sent)
          (subst (λ (s : Node). MayAlone nodes node s newest) (sym is) alone.0),
      before,
    )

-- ---- a step of a node is a step of the cluster

pub step_together : (cluster : Cluster) (acts : List (ℕ × Act)) (node : ℕ) (input : Input) (more : List Act) →
    IsRun (start cluster.nodes cluster.serials) acts →
    IsStepAlone (setup_of cluster node) (reached_alone node (opened_new (cluster.serials node)) (acts_of node acts)) input more →
    CameTo (reached (start cluster.nodes cluster.serials) acts) input →
    IsStep (reached (start cluster.nodes cluster.serials) acts) (setup_of cluster node) input more
step_together cluster acts node input more run step came =
    let first = start cluster.nodes cluster.serials in
    let w = reached first acts in
    let s = reached_alone node (opened_new (cluster.serials node)) (acts_of node acts) in
    let is : IsAlone w node s = alone cluster.nodes cluster.serials acts node run in
    let sent : WereSent w more = λ packet is_in. came_by_input w input packet came
    (exact_receives (setup_of cluster node) _ _ input more step.exact packet is_in) in
    record {
      run = run_behind first (by_node node more) acts (goes_on cluster.nodes cluster.serials acts node more run step.run sent);
      came = came;
      exact = subst (λ (a : Actor). IsExact (setup_of cluster node) a (w.records node) input more) (sym is.actor)
          (subst (λ (r : Records). IsExact (setup_of cluster node) s.actor r input more) (sym is.records) step.exact);
    }

-- ---- the steps of all nodes

pub passed_by : (other node : ℕ) (acts : List Act) (rest : List (ℕ × Act)) → (other == node) ≡ false →
    acts_of node (by_node other acts ++ rest) ≡ acts_of node rest
passed_by other node [] rest apart = refl
passed_by other node (newest ∷ older) rest apart = acts_apart node (other, newest) (by_node other older ++ rest) apart ∙ passed_by other node older rest apart

own_on : (node : ℕ) (step : Step) (older : List Step) (test : Bool) → (step.node == node) ≡ test →
    own_acts (steps_of node older) ≡ acts_of node (acts_in older) →
    own_acts (steps_of node (step ∷ older)) ≡ acts_of node (acts_in (step ∷ older))
own_on node step older true same before =
    ap (λ (b : Bool). own_acts (if b then record { input = step.input; acts = step.acts } ∷ steps_of node older else steps_of node older)) same
    ∙ ap (λ (xs : List Act). step.acts ++ xs) before
    ∙ sym (acts_on node step.acts (acts_in older))
    ∙ ap (λ (n : ℕ). acts_of node (by_node n step.acts ++ acts_in older)) (sym (eqb-true step.node node same))
own_on node step older false apart before =
    ap (λ (b : Bool). own_acts (if b then record { input = step.input; acts = step.acts } ∷ steps_of node older else steps_of node older)) apart
    ∙ before
    ∙ sym (passed step.acts)
  where
    passed : (acts : List Act) → acts_of node (by_node step.node acts ++ acts_in older) ≡ acts_of node (acts_in older)
    passed acts = passed_by step.node node acts (acts_in older) apart

own_same : (node : ℕ) (steps : List Step) → own_acts (steps_of node steps) ≡ acts_of node (acts_in steps)
own_same node [] = refl
own_same node (step ∷ older) = own_on node step older (step.node == node) refl (own_same node older)

steps_here : (node : ℕ) (step : Step) (older : List Step) → step.node ≡ node →
    steps_of node (step ∷ older) ≡ record { input = step.input; acts = step.acts } ∷ steps_of node older
steps_here node step older is =
    ap (λ (b : Bool). if b then record { input = step.input; acts = step.acts } ∷ steps_of node older else steps_of node older) (eq-eqb step.node node is)

older_steps : (cluster : Cluster) (step : Step) (older : List Step) (node : ℕ) (test : Bool) → (step.node == node) ≡ test →
    AreStepsAlone (setup_of cluster node) (opened_new (cluster.serials node)) (steps_of node (step ∷ older)) →
    AreStepsAlone (setup_of cluster node) (opened_new (cluster.serials node)) (steps_of node older)
older_steps cluster step older node true same are =
    (subst (AreStepsAlone (setup_of cluster node) (opened_new (cluster.serials node))) (steps_here node step older (eqb-true step.node node same)) are).1
older_steps cluster step older node false apart are =
    subst (AreStepsAlone (setup_of cluster node) (opened_new (cluster.serials node)))
    (ap (λ (b : Bool). if b then record { input = step.input; acts = step.acts } ∷ steps_of node older else steps_of node older) apart) are

pub steps_together : (cluster : Cluster) (steps : List Step) →
    ((node : ℕ) → AreStepsAlone (setup_of cluster node) (opened_new (cluster.serials node)) (steps_of node steps)) →
    EachCame (start cluster.nodes cluster.serials) steps →
    AreSteps cluster (start cluster.nodes cluster.serials) steps
steps_together cluster [] alone came = tt
steps_together cluster (step ∷ older) alone came =
    let before = steps_together cluster older (λ node. older_steps cluster step older node (step.node == node) refl (alone node)) came.1 in
    let first = opened_new (cluster.serials step.node) in
    let mine = (subst (AreStepsAlone (setup_of cluster step.node) first) (steps_here step.node step older refl) (alone step.node)).0 in
    let here = subst (λ (acts : List Act). IsStepAlone (setup_of cluster step.node)
    (reached_alone step.node first acts) step.input step.acts) (own_same step.node older) mine in (
      step_together cluster (acts_in older) step.node step.input step.acts
          (steps_run cluster (start cluster.nodes cluster.serials) older before) here came.0,
      before,
    )
