-- A request that comes, and that may wait, is an exact step of the actor.
use Rattle.std.proofs.Common.{◌≡◌, ℕ, zero, suc, ◌*◌, Bool, true, false, List, [], ◌∷◌, ◌++◌, map, Option, Some, None, refl, sym, ap, subst, ◌∙◌, inl, inr}
use Rattle.std.proofs.Common.{arith}
use Rattle.std.specs.Prelude.{◌&&◌, nat_lt, if◌then◌else◌}
use Rattle.std.proofs.lemmas.Bool.{true≢false}
use Rattle.std.proofs.lemmas.Bool.Decides.{nat_tests}
use Rattle.mc_model.specs.message.Decree.{Decree, Taken}
use Rattle.mc_model.specs.message.Ids.{IsNode}
use Rattle.mc_model.specs.message.Submission.{Submission}
use Rattle.mc_model.specs.synod.Lists.{In}
use Rattle.mc_model.specs.synod.Majority.{count}
use Rattle.mc_model.specs.node.Act.{Act, Asks, Begins as BeginsAct, Prepares}
use Rattle.mc_model.specs.node.Actor.{Cancel, Query, Request, Submit, Waiting, id_in}
use Rattle.mc_model.specs.node.Alone.{IsRunAlone, MayAlone, Node}
use Rattle.mc_model.specs.node.Causes.{Causes, CausesDelete, CausesTake, IsAsking}
use Rattle.mc_model.specs.node.Due.{AreDue, AreDueOnce}
use Rattle.mc_model.specs.node.Input.{Arrival}
use Rattle.mc_model.specs.node.Knowledge.{IsKnown, Knows}
use Rattle.mc_model.specs.node.Phases.{DueToAsk, DueToPrepare}
use Rattle.mc_model.specs.node.Proposal.{IsFirst}
use Rattle.mc_model.specs.node.Room.{IsFitToWait, IsNumbered, MayWait}
use Rattle.mc_model.specs.node.Setup.{Setup}
use Rattle.mc_parts.proofs.Membership.{in_either}
use Rattle.mc_parts.proofs.Tellings.{unannounced}
use Rattle.node_model.specs.Answers.{answer_by, answer_to}
use Rattle.node_model.specs.Kept.{Held, Kept}
use Rattle.node_model.specs.Proposer.{Prepared, started}
use Rattle.node_model.specs.Requests.{asks, is_cancel, is_reached, is_settled, settles}
use Rattle.node_model.specs.Sets.{is_majority, nobody}
use Rattle.node_model.specs.Starts.{take_for, taken_chain}
use Rattle.node_model.specs.Stepped.{stepped, stepped_down, stepped_up}
use Rattle.node_model.specs.Ticks.{on_arrival, question, waits_too}
use Rattle.node_laws.specs.Stands.{Stands}
use Rattle.node_laws.specs.Steps.{IsAtWork, StepsAs}
use Rattle.node_laws.proofs.invariant.Arrived.{arrived, arrived_agrees, came, new, unknown_yet}
use Rattle.node_laws.proofs.step.AskingAgain.{ask_act, ask_acts}
use Rattle.node_laws.proofs.step.Beginning.{Begins, TellsNothing, begun_steps}
use Rattle.node_laws.proofs.invariant.Deciding.{IsCalm, calm_of, known_for}
use Rattle.node_laws.proofs.invariant.Orders.{in_append}
use Rattle.mc_laws.proofs.story.FirstStep.{none_due}
use Rattle.node_laws.proofs.step.Started.{IsStartOf, IsToPrepare, StartsAs, started_as}

-- nobody is no majority
none_counted : (nodes : ℕ) → count nobody nodes ≡ 0
none_counted zero = refl
none_counted (suc nodes) = none_counted nodes

no_majority : (nodes : ℕ) → is_majority nodes nobody ≡ false
no_majority nodes =
    let none = none_counted nodes in
    let twice : 2 * count nobody nodes ≡ 0 = omega arith in
    ap (nat_lt nodes) twice ∙ not_below nodes
  where
    not_below : (n : ℕ) → nat_lt n 0 ≡ false
    not_below n = grind (arith, nat_tests)

unanswered_yet : (request : Request) (known : Option (List Decree)) →
    ((id : ℕ) (message : Submission) (chain : List Decree) → request ≡ Submit id message → known ≡ Some chain → ⊥) → answer_by known false false request ≡ None
unanswered_yet (Submit id message) None unknown = refl
unanswered_yet (Submit id message) (Some chain) unknown = absurd (unknown id message chain refl refl)
unanswered_yet (Query id account source) None unknown = refl
unanswered_yet (Query id account source) (Some chain) unknown = refl
unanswered_yet (Cancel id account source destination) None unknown = refl
unanswered_yet (Cancel id account source destination) (Some chain) unknown = refl

module _ (setup : Setup) (k : Kept) (s : Node) (stands : Stands setup k s) (works : IsAtWork setup s) (mine : IsNode setup.node) (request : Request)
    (may : MayWait setup.node s.actor s.actor.ticket request) where
  abbrev held : Held
  held = new setup k s stands.agrees request

  abbrev k1 : Kept
  k1 = waits_too k request held

  abbrev s1 : Node
  s1 = arrived setup k s stands.agrees request

  abbrev w : Waiting
  w = came setup k s stands.agrees request

  numbered : (id : ℕ) (message : Submission) → request ≡ Submit id message → IsNumbered setup.node s.actor id message
  numbered id message is = subst (λ (r : Request). IsFitToWait setup.node s.actor r) is may.fit

  unknown : (id : ℕ) (message : Submission) → request ≡ Submit id message → (chain : List Decree) → Knows setup.nodes s.actor.received id chain → ⊥
  unknown id message is chain knows = unknown_yet setup.nodes setup.node s.actor stands.agrees.coherent mine id message (numbered id message is) chain knows

  -- ---- nothing is due of it yet

  not_settled : (known : Option (List Decree)) → is_settled setup.nodes known held ≡ false
  not_settled known = ap (λ (b : Bool). b && is_reached known None) (no_majority setup.nodes)

  settles_not : (known : Option (List Decree)) → settles setup.nodes known held ≡ false
  settles_not known = ap (λ (b : Bool). is_cancel request && b) (not_settled known) ∙ never (is_cancel request)
    where
      never : (b : Bool) → b && false ≡ false
      never true = refl
      never false = refl

  answers_not : (known : Option (List Decree)) →
      ((id : ℕ) (message : Submission) (chain : List Decree) → request ≡ Submit id message → known ≡ Some chain → ⊥) → answer_to setup.nodes known held ≡ None
  answers_not known unheard = ap (λ (b : Bool). answer_by known b false request) (not_settled known) ∙ unanswered_yet request known unheard

  calm_before : IsCalm setup.nodes k
  calm_before = calm_of setup k s stands.agrees stands.quiet

  calm : IsCalm setup.nodes k1
  calm = record {
    settled = λ h among. elim (in_either h k.held (held ∷ []) among) [
      | inl before ↦ calm_before.settled h before
      | inr last ↦ elim last [
        | inl same ↦ subst (λ (x : Held). settles setup.nodes (known_for k1 x) x ≡ false) (sym same) (settles_not (known_for k1 held))
        | inr none ↦ absurd none
      ]
    ];
    answered = λ h among. elim (in_either h k.held (held ∷ []) among) [
      | inl before ↦ calm_before.answered h before
      | inr last ↦ elim last [
        | inl same ↦ subst (λ (x : Held). answer_to setup.nodes (known_for k1 x) x ≡ None) (sym same) (answers_not (known_for k1 held) taken_now)
        | inr none ↦ absurd none
      ]
    ];
  }
    where
      taken_now : (id : ℕ) (message : Submission) (chain : List Decree) → request ≡ Submit id message → known_for k1 held ≡ Some chain → ⊥
      taken_now id message chain is known =
          let about : id_in request ≡ id = ap id_in is in
          let knows : IsKnown setup.nodes s.actor.received (id_in request) (Some chain) =
          subst (IsKnown setup.nodes s.actor.received (id_in request)) known (stands.agrees.message (id_in request)).heard.known in
          unknown id message is chain (subst (λ (i : ℕ). Knows setup.nodes s.actor.received i chain) about knows)

  -- ---- the round of a submit_sm

  abbrev Due : ℕ → ℕ → List Decree → Type 0
  Due id place chain = Causes setup.nodes setup.node s.actor s1.actor (Arrival request) id place chain

  -- a cancel_sm that was settled was so before
  deletes_none : (id place : ℕ) (chain : List Decree) → CausesDelete setup.nodes setup.node s.actor s1.actor id place chain → ⊥
  deletes_none id place chain deletes =
      let cancelled = deletes.deletes.cancelled in
      elim (in_either cancelled.waiting s.actor.waiting (w ∷ []) cancelled.waits) [
        | inl before ↦
            deletes.new (record { waiting = cancelled.waiting; waits = before; ticket_is = refl; settled = cancelled.settled }) deletes.deletes.further.known
        | inr last ↦ elim last [
          | inl same ↦ true≢false (sym cancelled.settled ∙ ap (λ (x : Waiting). x.settled) same)
          | inr none ↦ absurd none
        ]
      ]

  abbrev Takes : Request → ℕ → ℕ → List Decree → Type 0
  Takes of id place chain = CausesTake (Arrival of) setup.node s1.actor id place chain

  takes_only : (id place : ℕ) (chain : List Decree) → Due id place chain → Takes request id place chain
  takes_only id place chain (inl take) = take
  takes_only id place chain (inr (inl close)) = absurd close
  takes_only id place chain (inr (inr (inl follows))) = absurd follows
  takes_only id place chain (inr (inr (inr (inl deletes)))) = absurd (deletes_none id place chain deletes)
  takes_only id place chain (inr (inr (inr (inr tells)))) = absurd (unannounced setup.nodes setup.node s.actor s1.actor id place chain
      (λ known knows. knows) tells)

  of_request : (of : Request) (id place : ℕ) (chain : List Decree) → Takes of id place chain → (id ≡ id_in of) × (place ≡ 0)
  of_request (Submit other message) id place chain take = (sym take.0, take.1)
  of_request (Query other account source) id place chain take = absurd take
  of_request (Cancel other account source destination) id place chain take = absurd take

  elsewhere : (id place : ℕ) (chain : List Decree) → Due id place chain → id ≡ id_in request
  elsewhere id place chain due = (of_request request id place chain (takes_only id place chain due)).0

  first_chain : (message : Submission) → taken_chain setup k held.waiting.since message ≡ record {
    author = record { node = setup.node; incarnation = s.actor.incarnation };
    moment = s.actor.clock;
    kind = Taken message;
  } ∷ []
  first_chain message = λ i. record {
    author = record { node = setup.node; incarnation = stands.agrees.incarnation i };
    moment = stands.agrees.clock i;
    kind = Taken message;
  } ∷ []

  is_first : (id : ℕ) (message : Submission) → request ≡ Submit id message → IsFirst setup.node s1.actor id (taken_chain setup k held.waiting.since message)
  is_first id message is = record {
    waiting = w;
    message = message;
    waits = in_append w s.actor.waiting (w ∷ []) (inr (inl refl));
    submits = is;
    chain_is = first_chain message;
  }

  start_of : (of : Request) → request ≡ of → IsStartOf setup s1 (id_in of) (Due (id_in of)) (take_for setup k held of)
  start_of (Submit id message) is = record {
    due = inl (subst (λ (r : Request). Takes r id 0 (taken_chain setup k held.waiting.since message)) (sym is) (refl, refl, is_first id message is));
    only = λ place chain due. (of_request request id place chain (takes_only id place chain due)).1;
    within = omega arith;
    ahead = λ chain knows. absurd (unknown id message is chain knows);
    free = inr (refl, inl (is_first id message is));
    behind = tt;
  }
  start_of (Query id account source) is = λ place chain due. subst (λ (r : Request). Takes r id place chain) is (takes_only id place chain due)
  start_of (Cancel id account source destination) is = λ place chain due. subst (λ (r : Request). Takes r id place chain) is (takes_only id place chain due)

  abbrev prepared : Prepared
  prepared = started setup k1 (id_in request) (take_for setup k held request)

  starts : StartsAs setup k1 s1 (id_in request) (Due (id_in request)) prepared
  starts =
      started_as setup k1 s1 (arrived_agrees setup k s stands.agrees request) mine (record { least = works.least; most = works.most; up = works.up })
      (id_in request) (Due (id_in request))
      (take_for setup k held request) (start_of request refl)

  abbrev ToPrepare : Act → Type 0
  ToPrepare = DueToPrepare setup.nodes setup.node s.actor s1.actor s.records (Arrival request)

  only_prepares : (act : Act) → ToPrepare act → IsToPrepare setup s1 (id_in request) (Due (id_in request)) act
  only_prepares (Prepares slot ballot chain) due =
      let same : slot.id ≡ id_in request = elsewhere slot.id slot.place chain due.0 in
      (same, (subst (λ (i : ℕ). Due i slot.place chain) same due.0, due.1))
  only_prepares act due = absurd due

  prepares_only : (act : Act) → IsToPrepare setup s1 (id_in request) (Due (id_in request)) act → ToPrepare act
  prepares_only (Prepares slot ballot chain) due = (subst (λ (i : ℕ). Due i slot.place chain) (sym due.0) due.1.0, due.1.1)
  prepares_only act due = absurd due

  prepares_due : AreDueOnce ToPrepare starts.acts
  prepares_due = record {
    only = λ act is_in. prepares_only act (starts.due.only act is_in);
    all = λ act due. starts.due.all act (only_prepares act due);
    order = starts.due.order;
  }

  -- ---- its questions

  abbrev asked : List Held
  asked = if asks request then held ∷ [] else []

  ask_is : ask_act held ≡ Asks (id_in request) s.actor.ticket
  ask_is = λ i. Asks (id_in request) (stands.agrees.ticket i)

  abbrev Asking : Request → ℕ → ℕ → Type 0
  Asking of id ticket = IsAsking s.actor (Arrival of) id ticket

  asks_none : (of : Request) → asks of ≡ false → (id ticket : ℕ) → Asking of id ticket → ⊥
  asks_none (Submit other message) none id ticket asking = asking
  asks_none (Query other account source) none id ticket asking = true≢false none
  asks_none (Cancel other account source destination) none id ticket asking = true≢false none

  asks_one : (of : Request) → asks of ≡ true → Asking of (id_in of) s.actor.ticket
  asks_one (Submit other message) is = absurd (true≢false (sym is))
  asks_one (Query other account source) is = (refl, refl)
  asks_one (Cancel other account source destination) is = (refl, refl)

  asks_only : (of : Request) → (id ticket : ℕ) → Asking of id ticket → (id ≡ id_in of) × (ticket ≡ s.actor.ticket)
  asks_only (Submit other message) id ticket asking = absurd asking
  asks_only (Query other account source) id ticket asking = (sym asking.0, asking.1)
  asks_only (Cancel other account source destination) id ticket asking = (sym asking.0, asking.1)

  abbrev ToAsk : Act → Type 0
  ToAsk = DueToAsk setup.nodes setup.node s.actor s1.actor (Arrival request)

  asks_due : (test : Bool) → asks request ≡ test → AreDue ToAsk (ask_acts (if test then held ∷ [] else []))
  asks_due false none = none_due ToAsk no
    where
      no : (act : Act) → ToAsk act → ⊥
      no (Asks id ticket) due = asks_none request none id ticket due
      no act due = due
  asks_due true is = record {
    each = λ act. (only act, all act);
    order = tt;
  }
    where
      only : (act : Act) → In act (ask_act held ∷ []) → ToAsk act
      only act (inl same) = subst ToAsk (sym (same ∙ ask_is)) (asks_one request is)
      only act (inr none) = absurd none

      all : (act : Act) → ToAsk act → In act (ask_act held ∷ [])
      all (Asks id ticket) due = let it = asks_only request id ticket due in inl ((λ i. Asks (it.0 i) (it.1 i)) ∙ sym ask_is)
      all act due = absurd due

  asks_may : (test : Bool) → IsRunAlone setup.nodes setup.node s1 (ask_acts (if test then held ∷ [] else []))
  asks_may false = tt
  asks_may true = (
    record {
      least = works.least;
      most = works.most;
      up = works.up;
      needs = record {
        waiting = w;
        waits = in_append w s.actor.waiting (w ∷ []) (inr (inl refl));
        ticket_is = sym stands.agrees.ticket;
        about = refl;
      };
    },
    tt,
  )

  -- ---- the step

  tells : TellsNothing setup.node s (BeginsAct s.actor.ticket request)
  tells = record { records = refl; received = refl; packets = refl; replies = refl; receipts = refl }

  may_begin : MayAlone setup.nodes setup.node s (BeginsAct s.actor.ticket request)
  may_begin = record { least = works.least; most = works.most; up = works.up; needs = may }

  begins_so : Begins setup s (Arrival request) (BeginsAct s.actor.ticket request) tells may_begin refl k1 asked (id_in request) (Due (id_in request)) prepared
  begins_so = record {
    agrees = arrived_agrees setup k s stands.agrees request;
    calm = calm;
    ends = none_due _ (λ act due. due);
    abandons = none_due _ (λ act due. due);
    asks = asks_due (asks request) refl;
    asks_may = asks_may (asks request);
    starts = starts;
    prepares = prepares_due;
  }

  packets_are : (test : Bool) →
      (if test then question setup k held ∷ [] else []) ++ prepared.packets ≡ map (question setup k1) (if test then held ∷ [] else []) ++ prepared.packets
  packets_are true = refl
  packets_are false = refl

  on_arrival_steps : StepsAs setup s (Arrival request) (on_arrival setup k request)
  on_arrival_steps = subst (StepsAs setup s (Arrival request)) same
      (begun_steps setup s (Arrival request) (BeginsAct s.actor.ticket request) tells may_begin refl k1 asked (id_in request)
      (Due (id_in request)) prepared begins_so)
    where
      same : record {
        kept = prepared.kept;
        outputs = record {
          ticket = Some s.actor.ticket;
          refused = None;
          packets = map (question setup k1) asked ++ prepared.packets;
          replies = [];
          receipts = [];
          granted = None;
        };
      } ≡ on_arrival setup k request
      same = λ i. record {
        kept = prepared.kept;
        outputs = record {
          ticket = Some (sym stands.agrees.ticket i);
          refused = None;
          packets = sym (packets_are (asks request)) i;
          replies = [];
          receipts = [];
          granted = None;
        };
      }

  pub arrival_steps : StepsAs setup s (Arrival request) (stepped setup k (Arrival request))
  arrival_steps = subst (StepsAs setup s (Arrival request)) (sym is_up) on_arrival_steps
    where
      is_up : stepped setup k (Arrival request) ≡ on_arrival setup k request
      is_up =
          ap (λ (running : Bool). if running then stepped_up setup k (Arrival request) else stepped_down setup k (Arrival request))
          (stands.agrees.up ∙ works.up)
