-- A query_sm that came after a final state of its message was given out, and is answered ESME_ROK, is told that state.
use Rattle.std.proofs.Common.{◌≡◌, ℕ, Bool, true, false, List, [], ◌∷◌, ◌++◌, map, Some, refl, sym, ap, subst, ◌∙◌, inl, append_assoc}
use Rattle.std.specs.Prelude.{if◌then◌else◌}
use Rattle.mc_model.specs.message.Decree.{Decree, Final}
use Rattle.mc_model.specs.message.Chain.{final_in}
use Rattle.mc_model.specs.synod.Acceptor.{Records}
use Rattle.mc_model.specs.synod.Lists.{In}
use Rattle.mc_model.specs.node.Act.{Act, Begins, Replies}
use Rattle.mc_model.specs.node.Actor.{Actor, Request, id_in}
use Rattle.mc_model.specs.node.Core.{IsCore}
use Rattle.mc_model.specs.node.Input.{Arrival, Input, Restart}
use Rattle.mc_model.specs.node.Outputs.{Outputs, Reply, replies_in, ticket_of}
use Rattle.mc_model.specs.node.Replies.{Accepted, Answer, Shown, Unknown}
use Rattle.mc_model.specs.node.Setup.{Setup}
use Rattle.mc_model.specs.node.Step.{IsExact}
use Rattle.mc_model.specs.cluster.Fate.{States}
use Rattle.mc_model.specs.cluster.Steps.{AreSteps, Cluster, IsStep, Step, acts_in, by_node, setup_of}
use Rattle.mc_model.specs.cluster.World.{Deed, World, reached, start}
use Rattle.mc_parts.proofs.Membership.{in_right}
use Rattle.mc_laws.proofs.invariant.Answers.{Answered, answered, fresh_query, never_unknown as never_told}
use Rattle.mc_laws.proofs.step.Behind.{reached_on, steps_run}
use Rattle.node_model.specs.Kept.{Kept}
use Rattle.node_model.specs.Stepped.{stepped, stepped_down, stepped_up}
use Rattle.node_laws.specs.Clusters.{KeptCluster, LivesOn, MayHappen, NodeInput, StatesFinal, cluster_outputs, comes_to, kept_reached}
use Rattle.node_laws.specs.Clusters.{outputs_at, step_at, step_outputs, world_at}
use Rattle.node_laws.proofs.cluster.Clustered.{clustered}
use Rattle.node_laws.proofs.cluster.Lives.{life_along, life_in, life_within}
use Rattle.node_laws.proofs.cluster.NoGrant.{deed_at, past_grows}
use Rattle.node_laws.proofs.invariant.Orders.{in_reverse}
use Rattle.node_laws.proofs.cluster.Sources.{IsDeed, IsStepOf, came_by, deed_of, past_behind, step_of}
use Rattle.node_laws.proofs.cluster.Stated.{given_by, past_still, reply_act, stated}

begun_in : (setup : Setup) (a : Actor) (records : Records) (input : Input) (acts : List Act) → IsExact setup a records input acts →
    (request : Request) → input ≡ Arrival request →
    In (Begins a.ticket request) acts
begun_in setup a records input acts exact request same =
    let core : exact.core ≡ Begins a.ticket request ∷ [] = subst (λ (i : Input). IsCore setup a records i exact.core) same exact.core_is in
    subst (In (Begins a.ticket request)) (sym exact.acts_are)
    (in_right (Begins a.ticket request) _ exact.core (subst (In (Begins a.ticket request)) (sym core) (inl refl)))

-- nothing is answered as a node starts anew
silent : (setup : Setup) (k : Kept) (lost : ℕ) (up : Bool) (reply : Reply) →
    In reply (if up then stepped_up setup k (Restart lost) else stepped_down setup k (Restart lost)).outputs.replies → ⊥
silent setup k lost true reply among = among
silent setup k lost false reply among = among

module _ (cluster : Cluster) where
  abbrev first : World
  first = start cluster.nodes cluster.serials

  past_along : (later before : List Step) → (newer : List Deed) × ((world_at cluster (later ++ before)).past ≡ newer ++ (world_at cluster before).past)
  past_along [] before = ([], refl)
  past_along (step ∷ later) before =
      let it = past_along later before in
      let grown = past_grows (world_at cluster (later ++ before)) (by_node step.node step.acts) in (
        grown.0 ++ it.0,
        ap (λ (w : World). w.past) (reached_on first (by_node step.node step.acts) (acts_in (later ++ before)))
            ∙ grown.1
            ∙ ap (λ (deeds : List Deed). grown.0 ++ deeds) it.1
            ∙ sym (append_assoc grown.0 it.0 (world_at cluster before).past),
      )

  -- ---- a step of a node, and an earlier one in the same life

  module _ (next asked : Step) (earlier later before : List Step) (split : earlier ≡ later ++ asked ∷ before)
      (is : IsStep (world_at cluster earlier) (setup_of cluster next.node) next.input next.acts) (are : AreSteps cluster first earlier)
      (asks : IsStep (world_at cluster before) (setup_of cluster asked.node) asked.input asked.acts)
      (act : Act) (told : IsDeed cluster next earlier act) (ask : Act) (began : IsDeed cluster asked before ask) where
    abbrev now : World
    now = reached first (by_node next.node told.rest ++ acts_in earlier)

    abbrev before_it : World
    before_it = reached first (by_node asked.node began.rest ++ acts_in before)

    record IsBehind : Type 0 where
      middle : List Deed
      past : past_behind cluster next earlier told.rest ≡ middle ++ deed_at before_it asked.node ask ∷ past_behind cluster asked before began.rest

    behind_it : IsBehind
    behind_it =
        let grown = past_grows (world_at cluster earlier) (by_node next.node told.rest) in
        let more = past_along later (asked ∷ before) in
        record {
          middle = (grown.0 ++ more.0) ++ began.newer;
          past =
              ap (λ (w : World). w.past) (reached_on first (by_node next.node told.rest) (acts_in earlier))
              ∙ grown.1
              ∙ ap (λ (steps : List Step). grown.0 ++ (world_at cluster steps).past) split
              ∙ ap (λ (deeds : List Deed). grown.0 ++ deeds) more.1
              ∙ sym (append_assoc grown.0 more.0 (world_at cluster (asked ∷ before)).past)
              ∙ ap (λ (deeds : List Deed). (grown.0 ++ more.0) ++ deeds) began.split
              ∙ sym (append_assoc (grown.0 ++ more.0) began.newer (deed_at before_it asked.node ask ∷ past_behind cluster asked before began.rest));
        }

    -- the node does not start anew on the way
    same_deed : next.node ≡ asked.node → ((lost : ℕ) → next.input ≡ Restart lost → ⊥) → ((lost : ℕ) → asked.input ≡ Restart lost → ⊥) →
        LivesOn asked.node (map came_by later) →
        deed_at now next.node act ≡ record (deed_at before_it asked.node ask) { act = act }
    same_deed nodes none never between =
        let lives : life_in asked.node now ≡ life_in asked.node before_it =
        life_within cluster asked.node next earlier is none told.rest told.parts
        ∙ ap (λ (steps : List Step). life_in asked.node (world_at cluster steps)) split
        ∙ life_along cluster asked.node later (asked ∷ before) (subst (AreSteps cluster first) split are) between
        ∙ life_within cluster asked.node asked before asks never asked.acts (λ x among. among)
        ∙ sym (life_within cluster asked.node asked before asks never began.rest began.parts)
        in
        let lived : life_in next.node now ≡ life_in asked.node before_it = ap (λ (n : ℕ). life_in n now) nodes ∙ lives in
        λ i. record { node = nodes i; incarnation = lived i; act = act }

  -- what was given out before a step is a deed behind what it did
  past_within : (step : Step) (before : List Step) (rest : List Act) (deed : Deed) → In deed (world_at cluster before).past →
      In deed (past_behind cluster step before rest)
  past_within step before rest deed past =
      subst (λ (w : World). In deed w.past) (sym (reached_on first (by_node step.node rest) (acts_in before)))
      (past_still (world_at cluster before) (by_node step.node rest) deed past)

  -- the message of a reply is the one that was asked for
  about_it : (beginning : Deed) (ticket : ℕ) (request : Request) (id : ℕ) (answer : Answer) (older : List Deed) →
      Answered cluster.nodes cluster.serials beginning ticket request id answer older → id ≡ id_in request
  about_it beginning ticket request id answer older a =
      sym a.replies.asked.about ∙ a.asked.fresh.about a.asked.incarnation a.replies.asked.waiting a.replies.asked.waits a.replies.asked.ticket_is

  silent_at : (w : KeptCluster) (next : NodeInput) (lost : ℕ) → next.input ≡ Restart lost → (reply : Reply) →
      In reply (step_at cluster w next).outputs.replies → ⊥
  silent_at w next lost anew reply among =
      silent (setup_of cluster next.node) (w.kept next.node) lost (w.kept next.node).up reply
      (subst (λ (input : Input). In reply (stepped (setup_of cluster next.node) (w.kept next.node) input).outputs.replies) anew among)

  module _ (older middle : List NodeInput) (node ticket : ℕ) (request : Request) (next : Input) (id : ℕ) (answer : Answer) where
    abbrev asking : NodeInput
    asking = comes_to node (Arrival request)

    abbrev inputs : List NodeInput
    inputs = middle ++ asking ∷ older

    abbrev reply : Reply
    reply = record { ticket = ticket; id = id; answer = answer }

    abbrev answers : Act
    answers = Replies ticket id answer

    module _ (last : List Step) (r : IsStepOf cluster last [] (comes_to node next) inputs) (q : IsStepOf cluster r.before middle asking older) where
      arrives : q.step.input ≡ Arrival request
      arrives = ap (λ (x : NodeInput). x.input) q.step_is

      asked_under : (outputs_at cluster older asking).ticket ≡ Some ticket → In (Begins ticket request) q.step.acts
      asked_under is =
          let tickets : ticket_of ((world_at cluster q.before).actors q.step.node) (Arrival request) ≡ Some ticket =
          ap (ticket_of ((world_at cluster q.before).actors q.step.node)) (sym arrives) ∙ ap (λ (o : Outputs). o.ticket) (sym q.outputs_are) ∙ is in
          let same : ((world_at cluster q.before).actors q.step.node).ticket ≡ ticket = cc in
          subst (λ (t : ℕ). In (Begins t request) q.step.acts) same
          (begun_in (setup_of cluster q.step.node) ((world_at cluster q.before).actors q.step.node) ((world_at cluster q.before).records q.step.node)
          q.step.input q.step.acts q.is.exact request arrives)

      told_so : In reply (outputs_at cluster inputs (comes_to node next)).replies → In answers r.step.acts
      told_so among =
          reply_act r.step.acts reply (in_reverse reply (replies_in r.step.acts) (subst (In reply) (ap (λ (o : Outputs). o.replies) r.outputs_are) among))

      no_start : In reply (outputs_at cluster inputs (comes_to node next)).replies → (lost : ℕ) → r.step.input ≡ Restart lost → ⊥
      no_start among lost anew =
          silent_at (kept_reached cluster inputs) (comes_to node next) lost (ap (λ (x : NodeInput). x.input) (sym r.step_is) ∙ anew) reply among

      no_start_asking : (lost : ℕ) → q.step.input ≡ Restart lost → ⊥
      no_start_asking lost anew = let both : Arrival request ≡ Restart lost = sym arrives ∙ anew in cc

      abbrev Began : Type 0
      Began = IsDeed cluster q.step q.before (Begins ticket request)

      abbrev Told : Type 0
      Told = IsDeed cluster r.step r.before answers

      module _ (told : Told) (began : Began) where
        abbrev beginning : Deed
        beginning = deed_at (reached first (by_node q.step.node began.rest ++ acts_in q.before)) q.step.node (Begins ticket request)

        abbrev replying : Deed
        replying = deed_at (reached first (by_node r.step.node told.rest ++ acts_in r.before)) r.step.node answers

        abbrev past_then : List Deed
        past_then = past_behind cluster q.step q.before began.rest

        same_life : In reply (outputs_at cluster inputs (comes_to node next)).replies → LivesOn node middle → replying ≡ record beginning { act = answers }
        same_life among between =
            let here : r.step.node ≡ node = ap (λ (x : NodeInput). x.node) r.step_is in
            let there : q.step.node ≡ node = ap (λ (x : NodeInput). x.node) q.step_is in
            same_deed r.step q.step r.before q.later q.before q.split r.is r.are q.is answers told (Begins ticket request) began
            (here ∙ sym there) (no_start among) no_start_asking
            (subst (λ (n : ℕ). LivesOn n (map came_by q.later)) (sym there) (subst (LivesOn node) (sym q.later_are) between))

        answered_so : replying ≡ record beginning { act = answers } → Answered cluster.nodes cluster.serials beginning ticket request id answer past_then
        answered_so same =
            let behind = behind_it r.step q.step r.before q.later q.before q.split r.is r.are q.is answers told (Begins ticket request) began in
            answered cluster.nodes cluster.serials (acts_in (r.step ∷ r.before)) told.newer replying behind.middle beginning past_then
            ticket request id answer
            (steps_run cluster first (r.step ∷ r.before) (r.is, r.are))
            (told.split ∙ ap (λ (deeds : List Deed). told.newer ++ replying ∷ deeds) behind.past) refl same

    -- the request and its reply, as deeds of a run, behind what was given out before
    record IsAsked : Type 0 where
      before : List Step
      outputs : cluster_outputs cluster older ≡ step_outputs cluster before
      beginning : Deed
      past : List Deed
      behind : (deed : Deed) → In deed (world_at cluster before).past → In deed past
      answered : Answered cluster.nodes cluster.serials beginning ticket request id answer past

    is_asked : MayHappen cluster (comes_to node next ∷ inputs) → (outputs_at cluster older asking).ticket ≡ Some ticket → LivesOn node middle →
        In reply (outputs_at cluster inputs (comes_to node next)).replies → IsAsked
    is_asked may asked between among =
        let run = clustered cluster (comes_to node next ∷ inputs) may in
        let r = step_of cluster run.steps run.are [] (comes_to node next) inputs run.inputs_are run.outputs in
        let q = step_of cluster r.before r.are middle asking older r.before_are r.older_outputs in
        let began = deed_of cluster q.step q.before (Begins ticket request) (asked_under run.steps r q asked) in
        let told = deed_of cluster r.step r.before answers (told_so run.steps r q among) in
        record {
          before = q.before;
          outputs = q.older_outputs;
          beginning = beginning run.steps r q told began;
          past = past_then run.steps r q told began;
          behind = past_within q.step q.before began.rest;
          answered = answered_so run.steps r q told began (same_life run.steps r q told began among between);
        }

  module _ (older middle : List NodeInput) (node ticket : ℕ) (request : Request) (next : Input) (id : ℕ) where
    abbrev AnsweredSo : Answer → Type 0
    AnsweredSo answer = In (record { ticket = ticket; id = id; answer = answer })
        (outputs_at cluster (middle ++ comes_to node (Arrival request) ∷ older) (comes_to node next)).replies

    pub fresh : (chain : List Decree) (stating : Outputs) (final : Final) →
        MayHappen cluster (comes_to node next ∷ (middle ++ comes_to node (Arrival request) ∷ older)) →
        In stating (cluster_outputs cluster older) → StatesFinal stating id final →
        (outputs_at cluster older (comes_to node (Arrival request))).ticket ≡ Some ticket →
        LivesOn node middle → AnsweredSo (Shown chain) → final_in chain ≡ Some final
    fresh chain stating final may given says asked between among =
        let it = is_asked older middle node ticket request next id (Shown chain) may asked between among in
        let said = stated cluster it.before stating (subst (In stating) it.outputs given) id final says in
        fresh_query cluster.nodes cluster.serials it.beginning ticket request id chain it.past it.answered said.deed final (it.behind said.deed said.past)
        (subst (λ (i : ℕ). States said.deed i final) (about_it it.beginning ticket request id (Shown chain) it.past it.answered) said.states)

    -- the message of a reply is the one that was asked for
    pub about_asked : (answer : Answer) → MayHappen cluster (comes_to node next ∷ (middle ++ comes_to node (Arrival request) ∷ older)) →
        (outputs_at cluster older (comes_to node (Arrival request))).ticket ≡ Some ticket → LivesOn node middle → AnsweredSo answer → id ≡ id_in request
    about_asked answer may asked between among =
        let it = is_asked older middle node ticket request next id answer may asked between among in
        about_it it.beginning ticket request id answer it.past it.answered

    pub never_unknown : (accepting : Outputs) (taken : ℕ) →
        MayHappen cluster (comes_to node next ∷ (middle ++ comes_to node (Arrival request) ∷ older)) →
        In accepting (cluster_outputs cluster older) → In (record { ticket = taken; id = id; answer = Accepted }) accepting.replies →
        (outputs_at cluster older (comes_to node (Arrival request))).ticket ≡ Some ticket → LivesOn node middle → AnsweredSo Unknown → ⊥
    never_unknown accepting taken may given accepts asked between among =
        let it = is_asked older middle node ticket request next id Unknown may asked between among in
        let by = given_by cluster it.before accepting (subst (In accepting) it.outputs given) in
        let accepted : Reply = record { ticket = taken; id = id; answer = Accepted } in
        let done = by.done (Replies taken id Accepted)
        (reply_act by.acts accepted (in_reverse accepted (replies_in by.acts) (subst (In accepted) by.replies_are accepts))) in
        never_told cluster.nodes cluster.serials it.beginning ticket request id it.past it.answered done.deed taken (it.behind done.deed done.past)
        (done.act_is ∙ ap (λ (i : ℕ). Replies taken i Accepted) (about_it it.beginning ticket request id Unknown it.past it.answered))
