-- Over every list of steps one receipt is written of a message at most.
use Rattle.std.proofs.Common.{◌≡◌, ◌⊎◌, ℕ, suc, ◌+◌, ◌≤◌, List, [], ◌∷◌, ◌++◌, map, refl, sym, ◌∙◌, ap, subst, inl, inr, append_assoc, arith, true, false}
use Rattle.mc_model.specs.message.Decree.{Author, Decree}
use Rattle.mc_model.specs.synod.Lists.{In}
use Rattle.mc_model.specs.synod.Acceptor.{Records}
use Rattle.mc_model.specs.synod.OneSlot.{vote_at}
use Rattle.mc_model.specs.synod.Packet.{Ask, Packet, Prepare, Promise, Propose, Refused, Tell, Voted, slot_of}
use Rattle.mc_model.specs.node.Act.{Act, Begins, Concludes, Grants, Promises, Receives, Refuses, Reports, Restarts, Stops, Tells, Ticks, Votes}
use Rattle.mc_model.specs.node.Actor.{Actor}
use Rattle.mc_model.specs.node.Core.{AcceptorReplies, IsCore, IsHandled, IsReceived, IsSaved}
use Rattle.mc_model.specs.node.Due.{Fall, key_of}
use Rattle.mc_model.specs.node.Effect.{actor_by, did, saved}
use Rattle.mc_model.specs.node.Input.{Arrival, Crash, Delivery, Grant, Input, Refusal, Response, Restart, Tick}
use Rattle.mc_model.specs.node.Knowledge.{IsLearned, Knows}
use Rattle.mc_model.specs.node.Phases.{DueToAbandon, DueToAsk, DueToEnd, IsDueReport}
use Rattle.mc_model.specs.node.Setup.{Setup}
use Rattle.mc_model.specs.node.Step.{IsExact}
use Rattle.mc_model.specs.cluster.Fate.{CameBefore, TellsOf}
use Rattle.mc_model.specs.cluster.Steps.{AreSteps, Cluster, IsStep, Step, StepRun, acts_in, by_node, setup_of, world_after}
use Rattle.mc_model.specs.cluster.World.{Deed, IsRun, World, reached, start}
use Rattle.mc_parts.proofs.Membership.{in_either, in_right}
use Rattle.mc_laws.specs.Receipts.{EndsInItsTold}
use Rattle.mc_laws.proofs.invariant.Answers.{Done, done}
use Rattle.mc_laws.proofs.invariant.Agreement.{Chosen}
use Rattle.mc_laws.proofs.invariant.Growth.{remembers}
use Rattle.mc_laws.proofs.invariant.Receipts.{all_learned, one_told, reported, told_known}
use Rattle.mc_laws.proofs.invariant.Reached.{Holds, holds}
use Rattle.mc_laws.proofs.step.Behind.{reached_on, steps_run}
use Rattle.mc_laws.proofs.step.Decided.{below_all, fall_behind, in_keys}

-- ---- where an act of a list of steps was done

-- in a step, behind these acts of it and those of the steps before
record Located (cluster : Cluster) (first : World) (node : ℕ) (act : Act) (earlier : List (ℕ × Act)) : Type 0 where
  step : Step
  before : List Step
  newer : List Act
  older : List Act
  node_is : node ≡ step.node
  acts_are : step.acts ≡ newer ++ act ∷ older
  earlier_is : earlier ≡ by_node step.node older ++ acts_in before
  is : IsStep (reached first (acts_in before)) (setup_of cluster step.node) step.input step.acts
  are : AreSteps cluster first before

-- it is one of the acts of the newest step, or stands behind all of them
record Within (node of : ℕ) (acts : List Act) (act : Act) (rest earlier : List (ℕ × Act)) : Type 0 where
  newer : List Act
  older : List Act
  node_is : node ≡ of
  acts_are : acts ≡ newer ++ act ∷ older
  earlier_is : earlier ≡ by_node of older ++ rest

within : (node of : ℕ) (acts : List Act) (act : Act) (rest later earlier : List (ℕ × Act)) → by_node of acts ++ rest ≡ later ++ (node, act) ∷ earlier →
    Within node of acts act rest earlier ⊎ ((behind : List (ℕ × Act)) × (rest ≡ behind ++ (node, act) ∷ earlier))
within node of [] act rest later earlier is = inr (later, is)
within node of (newest ∷ acts) act rest [] earlier is =
    let heads : ◌≡◌ {A = ℕ × Act} (of, newest) (node, act) = cc in
    let tails : by_node of acts ++ rest ≡ earlier = cc in
    inl (record {
      newer = [];
      older = acts;
      node_is = ap (λ (x : ℕ × Act). x.0) (sym heads);
      acts_are = ap (λ (x : ℕ × Act). x.1 ∷ acts) heads;
      earlier_is = sym tails;
    })
within node of (newest ∷ acts) act rest (x ∷ later) earlier is =
    let tails : by_node of acts ++ rest ≡ later ++ (node, act) ∷ earlier = cc in
    elim (within node of acts act rest later earlier tails) [
      | inl here ↦ inl (record {
        newer = newest ∷ here.newer;
        older = here.older;
        node_is = here.node_is;
        acts_are = ap (λ (xs : List Act). newest ∷ xs) here.acts_are;
        earlier_is = here.earlier_is;
      })
      | inr behind ↦ inr behind
    ]

located : (cluster : Cluster) (first : World) (steps : List Step) → AreSteps cluster first steps → (node : ℕ) (act : Act)
    (later earlier : List (ℕ × Act)) → acts_in steps ≡ later ++ (node, act) ∷ earlier →
    Located cluster first node act earlier
located cluster first [] are node act [] earlier is = cc
located cluster first [] are node act (x ∷ later) earlier is = cc
located cluster first (newest ∷ steps) are node act later earlier is = elim (within node newest.node newest.acts act (acts_in steps) later earlier is) [
  | inl here ↦ record {
    step = newest;
    before = steps;
    newer = here.newer;
    older = here.older;
    node_is = here.node_is;
    acts_are = here.acts_are;
    earlier_is = here.earlier_is;
    is = are.0;
    are = are.1;
  }
  | inr behind ↦ located cluster first steps are.1 node act behind.0 earlier behind.1
]

-- ---- which acts of a step are receipts

regroup : (r a b c d e f g h : List Act) → (r ++ a ++ b ++ c ++ d ++ e ++ f ++ g ++ h) ≡ r ++ (a ++ b ++ c ++ d ++ e ++ f ++ g ++ h)
regroup r a b c d e f g h =
    ap (λ (x : List Act). x ++ c ++ d ++ e ++ f ++ g ++ h) (append_assoc r a b)
    ∙ (ap (λ (x : List Act). x ++ d ++ e ++ f ++ g ++ h) (append_assoc r (a ++ b) c)
    ∙ (ap (λ (x : List Act). x ++ e ++ f ++ g ++ h) (append_assoc r (a ++ b ++ c) d)
    ∙ (ap (λ (x : List Act). x ++ f ++ g ++ h) (append_assoc r (a ++ b ++ c ++ d) e)
    ∙ (ap (λ (x : List Act). x ++ g ++ h) (append_assoc r (a ++ b ++ c ++ d ++ e) f)
    ∙ (ap (λ (x : List Act). x ++ h) (append_assoc r (a ++ b ++ c ++ d ++ e ++ f) g)
    ∙ append_assoc r (a ++ b ++ c ++ d ++ e ++ f ++ g) h)))))

module _ (id : ℕ) (chain : List Decree) where
  abbrev receipt : Act
  receipt = Reports id chain

  none_in : (acts : List Act) → acts ≡ [] → In receipt acts → ⊥
  none_in acts is is_in = subst (In receipt) is is_in

  not_only : (x : Act) (acts : List Act) → (receipt ≡ x → ⊥) → acts ≡ x ∷ [] → In receipt acts → ⊥
  not_only x acts apart is is_in = elim (subst (In receipt) is is_in) [ inl same ↦ apart same | inr none ↦ none ]

  not_both : (x y : Act) (acts : List Act) → (receipt ≡ x → ⊥) → (receipt ≡ y → ⊥) → acts ≡ x ∷ y ∷ [] → In receipt acts → ⊥
  not_both x y acts apart away is is_in = elim (subst (In receipt) is is_in) [
    | inl same ↦ apart same
    | inr later ↦ elim later [ inl same ↦ away same | inr none ↦ none ]
  ]

  answers_none : (records : Records) (packet : Packet) (acts : List Act) → AcceptorReplies records packet acts → In receipt acts → ⊥
  answers_none records (Prepare sender slot ballot) acts (inl is) = not_only (Promises slot ballot true) acts (λ same. cc) is.1
  answers_none records (Prepare sender slot ballot) acts (inr is) = not_only (Refuses slot ballot) acts (λ same. cc) is.1
  answers_none records (Propose sender slot vote) acts (inl is) = not_only (Votes slot vote true) acts (λ same. cc) is.1
  answers_none records (Propose sender slot vote) acts (inr is) = not_only (Refuses slot vote.ballot) acts (λ same. cc) is.1
  answers_none records (Ask sender other name) acts is = not_only (Tells other name is.0) acts (λ same. cc) is.2
  answers_none records (Promise sender slot ballot report) acts is = none_in acts is
  answers_none records (Voted sender slot vote) acts is = none_in acts is
  answers_none records (Refused sender slot ballot promised) acts is = none_in acts is
  answers_none records (Tell sender name told) acts is = none_in acts is

  received_none : (records : Records) (packet : Packet) (acts : List Act) → IsReceived records packet acts → In receipt acts → ⊥
  received_none records packet acts it is_in = elim (in_either receipt it.answer (Receives packet ∷ []) (subst (In receipt) it.acts_are is_in)) [
    | inl answered ↦ answers_none records packet it.answer it.answered answered
    | inr last ↦ elim last [ inl same ↦ cc | inr none ↦ none ]
  ]

  saved_none : (records : Records) (packet : Packet) (acts : List Act) → IsSaved records packet acts → In receipt acts → ⊥
  saved_none records (Prepare sender slot ballot) acts (inl is) =
      not_both (Promises slot ballot false) (Receives (Prepare sender slot ballot)) acts (λ same. cc) (λ same. cc) is.1
  saved_none records (Prepare sender slot ballot) acts (inr is) = none_in acts is.1
  saved_none records (Propose sender slot vote) acts (inl is) =
      not_both (Votes slot vote false) (Receives (Propose sender slot vote)) acts (λ same. cc) (λ same. cc) is.1
  saved_none records (Propose sender slot vote) acts (inr is) = none_in acts is.1
  saved_none records (Ask sender other name) acts is = none_in acts is
  saved_none records (Promise sender slot ballot report) acts is = none_in acts is
  saved_none records (Voted sender slot vote) acts is = none_in acts is
  saved_none records (Refused sender slot ballot promised) acts is = none_in acts is
  saved_none records (Tell sender name told) acts is = none_in acts is

  handled_none : (Concerned : Type 0) (Does : List Act → Type 0) → ((acts : List Act) → Does acts → In receipt acts → ⊥) → (acts : List Act) →
      IsHandled Concerned Does acts → In receipt acts → ⊥
  handled_none Concerned Does none acts (inl does) = none acts does.1
  handled_none Concerned Does none acts (inr is) = none_in acts is.1

  core_none : (setup : Setup) (a : Actor) (records : Records) (input : Input) (acts : List Act) → IsCore setup a records input acts → In receipt acts → ⊥
  core_none setup a records (Delivery packet) acts is = handled_none _ (IsReceived records packet) (received_none records packet) acts is
  core_none setup a records (Crash packet false) acts is = not_only Stops acts (λ same. cc) is
  core_none setup a records (Crash packet true) acts is = λ is_in. elim (subst (In receipt) is.acts_are is_in) [
    | inl same ↦ cc
    | inr before ↦ handled_none _ (IsSaved records packet) (saved_none records packet) is.before is.handled before
  ]
  core_none setup a records (Arrival request) acts is = not_only (Begins a.ticket request) acts (λ same. cc) is
  core_none setup a records (Refusal status) acts is = none_in acts is.1
  core_none setup a records (Tick moment reach) acts is = not_only (Ticks moment) acts (λ same. cc) is
  core_none setup a records (Grant slot) acts is = not_only (Grants slot) acts (λ same. cc) is
  core_none setup a records (Response slot outcome) acts is = not_only (Concludes slot outcome) acts (λ same. cc) is
  core_none setup a records (Restart lost) acts is = not_only (Restarts lost setup.first_serial) acts (λ same. cc) is

  -- nor is what is due besides
  ended_none : (a : Actor) (input : Input) → DueToEnd input a receipt → ⊥
  ended_none a (Delivery packet) due = due
  ended_none a (Crash packet after) due = due
  ended_none a (Arrival request) due = due
  ended_none a (Refusal status) due = due
  ended_none a (Tick moment reach) due = due
  ended_none a (Grant slot) due = due
  ended_none a (Response slot outcome) due = due
  ended_none a (Restart lost) due = due

  asked_none : (nodes node : ℕ) (before a : Actor) (input : Input) → DueToAsk nodes node before a input receipt → ⊥
  asked_none nodes node before a (Delivery packet) due = due
  asked_none nodes node before a (Crash packet after) due = due
  asked_none nodes node before a (Arrival request) due = due
  asked_none nodes node before a (Refusal status) due = due
  asked_none nodes node before a (Tick moment reach) due = due
  asked_none nodes node before a (Grant slot) due = due
  asked_none nodes node before a (Response slot outcome) due = due
  asked_none nodes node before a (Restart lost) due = due

  abandoned_none : (nodes node : ℕ) (a : Actor) (records : Records) (input : Input) → DueToAbandon nodes node a records input receipt → ⊥
  abandoned_none nodes node a records (Delivery packet) due = due
  abandoned_none nodes node a records (Crash packet after) due = due
  abandoned_none nodes node a records (Arrival request) due = due
  abandoned_none nodes node a records (Refusal status) due = due
  abandoned_none nodes node a records (Tick moment reach) due = due
  abandoned_none nodes node a records (Grant slot) due = due
  abandoned_none nodes node a records (Response slot outcome) due = due
  abandoned_none nodes node a records (Restart lost) due = due

  module _ (setup : Setup) (a : Actor) (records : Records) (input : Input) (acts : List Act) (exact : IsExact setup a records input acts) where
    abbrev others : List Act
    others =
        exact.replies ++ exact.proposes ++ exact.prepares ++ exact.abandons ++ exact.asks ++ exact.late ++ exact.settles ++ exact.core

    either : (one two : List Act) → (In receipt one → ⊥) → (In receipt two → ⊥) → In receipt (one ++ two) → ⊥
    either one two none also is_in = elim (in_either receipt one two is_in) [ inl first ↦ none first | inr second ↦ also second ]

    none_besides : In receipt others → ⊥
    none_besides =
        either _ exact.core
        (either _ exact.settles
        (either _ exact.late
        (either _ exact.asks
        (either _ exact.abandons
        (either _ exact.prepares
        (either exact.replies exact.proposes (λ is_in. (exact.replied.each receipt).0 is_in) (λ is_in. exact.proposed.only receipt is_in))
        (λ is_in. exact.prepared.only receipt is_in))
        (λ is_in. abandoned_none setup.nodes setup.node (did setup.node a (exact.late ++ exact.settles ++ exact.core)) (saved records exact.core) input ((exact.abandoned.each receipt).0 is_in)))
        (λ is_in. asked_none setup.nodes setup.node a (did setup.node a (exact.late ++ exact.settles ++ exact.core)) input ((exact.asked.each receipt).0 is_in)))
        (λ is_in. ended_none (did setup.node a (exact.settles ++ exact.core)) input ((exact.ended.each receipt).0 is_in)))
        (λ is_in. (exact.settled.each receipt).0 is_in))
        (core_none setup a records input exact.core exact.core_is)

    acts_split : acts ≡ exact.reports ++ others
    acts_split =
        exact.acts_are
        ∙ regroup exact.reports exact.replies exact.proposes exact.prepares exact.abandons exact.asks exact.late exact.settles exact.core

    -- so a receipt that is written is due
    receipt_due : In receipt acts → IsDueReport setup.nodes setup.node a (did setup.node a exact.core) id chain
    receipt_due is_in = elim (in_either receipt exact.reports others (subst (In receipt) acts_split is_in)) [
      | inl report ↦ (exact.reported.each receipt).0 report
      | inr other ↦ absurd (none_besides other)
    ]

-- ---- no two of one message in one step

module _ (id : ℕ) (one other : List Decree) where
  twice_none : (reports rest newer older : List Act) → Fall (map key_of reports) → ((chain : List Decree) → In (Reports id chain) rest → ⊥) →
      reports ++ rest ≡ newer ++ Reports id other ∷ older → In (Reports id one) older → ⊥
  twice_none [] rest newer older fall none is is_in =
      none other (subst (In (Reports id other)) (sym is) (in_right (Reports id other) newer (Reports id other ∷ older) (inl refl)))
  twice_none (first ∷ reports) rest [] older fall none is is_in =
      let heads : first ≡ Reports id other = cc in
      let tails : reports ++ rest ≡ older = cc in
      elim (in_either (Reports id one) reports rest (subst (In (Reports id one)) (sym tails) is_in)) [
        | inl again ↦
            let below = below_all (map key_of reports) (key_of first) fall id (in_keys (Reports id one) reports again) in
            let key : key_of first ≡ id = ap key_of heads in
            absurd (omega (arith, below, key))
        | inr behind ↦ none one behind
      ]
  twice_none (first ∷ reports) rest (x ∷ newer) older fall none is is_in =
      let tails : reports ++ rest ≡ newer ++ Reports id other ∷ older = cc in
      twice_none reports rest newer older (fall_behind (map key_of reports) (key_of first) fall) none tails is_in

-- ---- two receipts of one message

-- what a node does by itself ends its life or leaves it
did_later : (node : ℕ) (a : Actor) (acts : List Act) → a.incarnation ≤ (did node a acts).incarnation
did_later node a [] = omega arith
did_later node a (newest ∷ older) =
    let before = did_later node a older in
    elim (remembers node (did node a older) newest) [
      | inl anew ↦
          let later : (actor_by node (did node a older) newest).incarnation ≡ suc ((did node a older).incarnation + anew.0) =
          ap (λ (x : Act). (actor_by node (did node a older) x).incarnation) anew.2 in
          omega (arith, before, later)
      | inr keeps ↦ let same = keeps.incarnation in omega (arith, before, same)
    ]

nodes_stay : (w : World) (acts : List (ℕ × Act)) → (reached w acts).nodes ≡ w.nodes
nodes_stay w [] = refl
nodes_stay w (newest ∷ older) = nodes_stay w older

-- a deed of some acts of a node was done before them, or is one of them
record IsHere (node : ℕ) (acts : List Act) (deed : Deed) : Type 0 where
  node_is : deed.node ≡ node
  among : In deed.act acts

before_or_here : (w : World) (node : ℕ) (acts : List Act) (deed : Deed) → In deed (reached w (by_node node acts)).past → In deed w.past ⊎ IsHere node acts deed
before_or_here w node [] deed is_in = inl is_in
before_or_here w node (newest ∷ acts) deed (inl same) =
    inr (record { node_is = ap (λ (d : Deed). d.node) same; among = inl (ap (λ (d : Deed). d.act) same) })
before_or_here w node (newest ∷ acts) deed (inr later) = elim (before_or_here w node acts deed later) [
  | inl before ↦ inl before
  | inr here ↦ inr (record { node_is = here.node_is; among = inr here.among })
]

module _ (run : StepRun) (first second : Deed) (id : ℕ) (one other : List Decree) (came : CameBefore first second (world_after run).past)
    (is_one : first.act ≡ Reports id one) (is_other : second.act ≡ Reports id other) where
  abbrev cluster : Cluster
  cluster = run.cluster

  abbrev begins : World
  begins = start cluster.nodes cluster.serials

  abbrev acts : List (ℕ × Act)
  acts = acts_in run.steps

  may : IsRun begins acts
  may = steps_run cluster begins run.steps run.are

  holds_all : Holds (world_after run)
  holds_all = holds cluster.nodes cluster.serials acts may

  -- ---- it is one chain, and one author

  second_there : In second (world_after run).past
  second_there = subst (In second) (sym came.split) (in_right second came.newer (second ∷ came.older) (inl refl))

  first_there : In first (world_after run).past
  first_there = subst (In first) (sym came.split) (in_right first came.newer (second ∷ came.older) (inr came.before))

  one_is : EndsInItsTold first one
  one_is = reported cluster.nodes cluster.serials acts may first id one first_there is_one

  other_is : EndsInItsTold second other
  other_is = reported cluster.nodes cluster.serials acts may second id other second_there is_other

  chosen_by : (deed : Deed) (chain : List Decree) → In deed (world_after run).past → deed.act ≡ Reports id chain → Chosen (world_after run) id chain
  chosen_by deed chain is_in is = holds_all.told.chosen deed id chain is_in (subst (λ (act : Act). TellsOf act id chain) (sym is) (refl, refl))

  same_chain : one_is.told ∷ one_is.older ≡ other_is.told ∷ other_is.older
  same_chain =
      one_told (world_after run) holds_all id one_is.told one_is.older other_is.told other_is.older one_is.kind other_is.kind
      (subst (Chosen (world_after run) id) one_is.chain_is (chosen_by first one first_there is_one))
      (subst (Chosen (world_after run) id) other_is.chain_is (chosen_by second other second_there is_other))

  same_author : ◌≡◌ {A = Author} (record { node = first.node; incarnation = first.incarnation }) (record { node = second.node; incarnation = second.incarnation })
  same_author = let both = same_chain in let heads : one_is.told ≡ other_is.told = cc in sym one_is.author ∙ (ap (λ (d : Decree). d.author) heads ∙ other_is.author)

  -- ---- the step of the second one

  abbrev done_second : Done cluster.nodes cluster.serials acts second came.older
  done_second = done cluster.nodes cluster.serials acts came.newer second came.older came.split

  at : Located cluster begins second.node second.act done_second.earlier
  at = located cluster begins run.steps run.are second.node second.act done_second.later done_second.earlier done_second.split

  abbrev w0 : World
  w0 = reached begins (acts_in at.before)

  abbrev node : ℕ
  node = at.step.node

  abbrev a : Actor
  a = w0.actors node

  may_0 : IsRun begins (acts_in at.before)
  may_0 = steps_run cluster begins at.before at.are

  holds_0 : Holds w0
  holds_0 = holds cluster.nodes cluster.serials (acts_in at.before) may_0

  acts_here : at.step.acts ≡ at.newer ++ Reports id other ∷ at.older
  acts_here = at.acts_are ∙ ap (λ (act : Act). at.newer ++ act ∷ at.older) is_other

  due : IsDueReport cluster.nodes node a (did node a at.is.exact.core) id other
  due =
      receipt_due id other (setup_of cluster node) a (w0.records node) at.step.input at.step.acts at.is.exact
      (subst (In (Reports id other)) (sym acts_here) (in_right (Reports id other) at.newer (Reports id other ∷ at.older) (inl refl)))

  first_earlier : In first (reached w0 (by_node node at.older)).past
  first_earlier =
      subst (λ (w : World). In first w.past) (reached_on begins (by_node node at.older) (acts_in at.before))
      (subst (λ (earlier : List (ℕ × Act)). In first (reached begins earlier).past) at.earlier_is
      (subst (In first) (sym done_second.past) came.before))

  -- ---- the first one was written in an earlier step

  module _ (before : In first w0.past) where
    here : first.node ≡ node
    here = ap (λ (x : Author). x.node) same_author ∙ at.node_is

    now : first.incarnation ≡ (did node a at.is.exact.core).incarnation
    now =
        let both : other_is.told ∷ other_is.older ≡ due.told.told ∷ due.told.older = sym other_is.chain_is ∙ due.told.chain_is in
        let heads : other_is.told ≡ due.told.told = cc in
        ap (λ (x : Author). x.incarnation) (same_author ∙ (sym other_is.author ∙ (ap (λ (d : Decree). d.author) heads ∙ due.told.author)))

    still : first.incarnation ≡ (w0.actors first.node).incarnation
    still =
        let lived = holds_0.links.lived first before in
        let later = did_later node a at.is.exact.core in
        let same : (w0.actors first.node).incarnation ≡ a.incarnation = ap (λ (n : ℕ). (w0.actors n).incarnation) here in
        omega (arith, lived, later, same, now)

    learned : (ballot : ℕ) × IsLearned w0.nodes a.received (slot_of id (one_is.told ∷ one_is.older)) (vote_at ballot (one_is.told ∷ one_is.older))
    learned =
        let it = all_learned cluster.nodes cluster.serials (acts_in at.before) may_0 first id one before is_one still in (
          it.0,
          subst (λ (c : List Decree). IsLearned w0.nodes a.received (slot_of id c) (vote_at it.0 c)) one_is.chain_is
              (subst (λ (n : ℕ). IsLearned w0.nodes (w0.actors n).received (slot_of id one) (vote_at it.0 one)) here it.1),
        )

    not_new : Knows cluster.nodes a.received id other
    not_new =
        subst (λ (c : List Decree). Knows cluster.nodes a.received id c) (same_chain ∙ sym other_is.chain_is)
        (subst (λ (n : ℕ). Knows n a.received id (one_is.told ∷ one_is.older)) (nodes_stay begins (acts_in at.before))
        (told_known w0 holds_0 id node one_is.told one_is.older learned.0 one_is.kind learned.1))

  pub one_receipt : ⊥
  one_receipt = elim (before_or_here w0 node at.older first first_earlier) [
    | inl before ↦ due.new (not_new before)
    | inr same_step ↦
        twice_none id one other at.is.exact.reports (others id other (setup_of cluster node) a (w0.records node) at.step.input at.step.acts at.is.exact)
        at.newer at.older at.is.exact.reported.order
        (λ chain is_in. none_besides id chain (setup_of cluster node) a (w0.records node) at.step.input at.step.acts at.is.exact is_in)
        (sym (acts_split id other (setup_of cluster node) a (w0.records node) at.step.input at.step.acts at.is.exact) ∙ acts_here) (subst (λ (act : Act). In act at.older) is_one same_step.among)
  ]
