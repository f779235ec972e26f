-- The outcome of an attempt: it is closed, and its decree is due if the attempt is the newest that is known.
use Rattle.std.proofs.Common.{◌≡◌, ℕ, Bool, true, false, List, [], ◌∷◌, length, Option, Some, None, refl, sym, ap, subst, ◌∙◌, inl, inr, arith}
use Rattle.std.specs.Prelude.{◌&&◌, is_some, if◌then◌else◌}
use Rattle.std.proofs.lemmas.Bool.{and_from, and_parts, true≢false}
use Rattle.mc_model.specs.node.Reach.{Reach, of_all}
use Rattle.mc_model.specs.message.Submission.{Submission}
use Rattle.mc_model.specs.message.Decree.{Decree}
use Rattle.mc_model.specs.message.Chain.{taken_in}
use Rattle.mc_model.specs.message.Ids.{IsNode}
use Rattle.mc_model.specs.synod.Packet.{Slot, same_slot, slot_of}
use Rattle.mc_model.specs.node.Act.{Act, Asks, Concludes, Prepares}
use Rattle.mc_model.specs.node.Alone.{MayAlone, Node}
use Rattle.mc_model.specs.node.Causes.{Causes, CausesDelete, IsConcluded}
use Rattle.mc_model.specs.node.FirstRule.{Close}
use Rattle.mc_model.specs.node.Grant.{MayConclude}
use Rattle.mc_model.specs.node.Input.{Response}
use Rattle.mc_model.specs.node.Knowledge.{IsKnown, Knows}
use Rattle.mc_model.specs.node.Outcome.{Outcome, decree_of}
use Rattle.mc_model.specs.node.Phases.{DueToAsk, DueToPrepare}
use Rattle.mc_model.specs.node.Rules.{FitsClose}
use Rattle.mc_model.specs.node.Setup.{Setup}
use Rattle.mc_parts.proofs.Known.{knows_one}
use Rattle.mc_parts.proofs.Tellings.{unannounced}
use Rattle.node_model.specs.Answers.{answer_to}
use Rattle.node_model.specs.Attempts.{closed_by, concluded, on_response}
use Rattle.node_model.specs.Kept.{Kept, message_at}
use Rattle.node_model.specs.Message.{Message}
use Rattle.node_model.specs.Proposer.{Prepared, Start, started}
use Rattle.node_model.specs.Requests.{id_of, settles}
use Rattle.node_model.specs.Starts.{start_behind}
use Rattle.node_model.specs.Stepped.{stepped, stepped_down, stepped_up}
use Rattle.node_laws.specs.Stands.{Agrees, CoversGrant, Stands}
use Rattle.node_laws.specs.Steps.{IsAtWork, StepsAs}
use Rattle.node_laws.proofs.step.Beginning.{TellsNothing, begun_steps}
use Rattle.node_laws.proofs.invariant.Closing.{closed, closed_agrees}
use Rattle.node_laws.proofs.invariant.Deciding.{IsCalm, calm_of}
use Rattle.node_laws.proofs.step.KnownRules.{goes}
use Rattle.node_laws.proofs.invariant.Messages.{each_with}
use Rattle.node_laws.proofs.invariant.Slots.{slot_decides}
use Rattle.node_laws.proofs.step.RuleChains.{rule_next, rule_place}
use Rattle.mc_laws.proofs.story.FirstStep.{none_due}
use Rattle.node_laws.proofs.step.Started.{IsDueStart, IsStartOf, IsToPrepare, StartsAs, started_as}

module _ (setup : Setup) (k : Kept) (s : Node) (stands : Stands setup k s) (works : IsAtWork setup s) (mine : IsNode setup.node) (slot : Slot)
    (outcome : Outcome)
    (may : MayConclude s.actor slot outcome) where
  abbrev k1 : Kept
  k1 = closed_by k slot outcome

  abbrev s1 : Node
  s1 = closed setup s slot outcome

  agrees : Agrees setup k1 s1
  agrees = closed_agrees setup k s stands.agrees slot outcome (inl may.possible) may.closed

  abbrev m : Message
  m = message_at k slot.id

  abbrev Due : ℕ → ℕ → List Decree → Type 0
  Due id place chain = Causes setup.nodes setup.node s.actor s1.actor (Response slot outcome) id place chain

  abbrev Concluded : ℕ → ℕ → List Decree → Type 0
  Concluded id place chain = IsConcluded setup.nodes setup.node s1.actor slot outcome id place chain

  deletes_none : (id place : ℕ) (chain : List Decree) → CausesDelete setup.nodes setup.node s.actor s1.actor id place chain → ⊥
  deletes_none id place chain deletes =
      let cancelled = deletes.deletes.cancelled in
      deletes.new (record { waiting = cancelled.waiting; waits = cancelled.waits; ticket_is = refl; settled = cancelled.settled }) deletes.deletes.further.known

  closes_only : (id place : ℕ) (chain : List Decree) → Due id place chain → Concluded id place chain
  closes_only id place chain (inl take) = absurd take
  closes_only id place chain (inr (inl close)) = close
  closes_only id place chain (inr (inr (inl follows))) = absurd follows
  closes_only id place chain (inr (inr (inr (inl deletes)))) = absurd (deletes_none id place chain deletes)
  closes_only id place chain (inr (inr (inr (inr tells)))) = absurd (unannounced setup.nodes setup.node s.actor s1.actor id place chain
      (λ known knows. knows) tells)

  -- ---- the attempt is the newest decree that is known

  module _ (newest : Decree) (older : List Decree) (known_is : m.known ≡ Some (newest ∷ older)) where
    knows : Knows setup.nodes s1.actor.received slot.id (newest ∷ older)
    knows = subst (IsKnown setup.nodes s.actor.received slot.id) known_is (stands.agrees.message slot.id).heard.known

    same_known : (place : ℕ) (chain : List Decree) → (it : Concluded slot.id place chain) → it.further.newest ∷ it.further.older ≡ newest ∷ older
    same_known place chain it = knows_one setup.nodes s1.actor.received slot.id (it.further.newest ∷ it.further.older) (newest ∷ older) it.further.known knows

    module _ (taken : Submission) (message : taken_in (newest ∷ older) ≡ Some taken) (at : slot ≡ slot_of slot.id (newest ∷ older)) where
      abbrev start : Start
      start = start_behind setup k newest older (decree_of outcome)

      covers : CoversGrant setup.node s.actor (Some (newest ∷ older)) slot.place
      covers =
          subst (λ (known : Option (List Decree)). CoversGrant setup.node s.actor known slot.place) known_is
          ((stands.agrees.message slot.id).covers slot.place may.granted)

      fits : FitsClose setup.nodes setup.node s1.actor slot.id start.place start.chain
      fits =
          let own = covers.1 (ap (λ (x : Slot). x.place) at) in
          record {
            outcome = outcome;
            further = goes setup s1.actor k slot.id stands.agrees.incarnation stands.agrees.clock newest older taken knows message (decree_of outcome);
            attempt = own.0;
            now = own.1;
            closed = inl (λ i. (sym at i, outcome));
          }

      abbrev none_up : Reach
      none_up = of_all (λ account. false)

      is_start : IsDueStart setup s1 slot.id (Due slot.id) start
      is_start =
          let place = rule_place setup.nodes setup.node s1.actor agrees.coherent s1.records none_up slot.id Close start.place start.chain (omega arith) fits in
          let next = rule_next setup.nodes setup.node s1.actor agrees.coherent s1.records none_up slot.id Close start.place start.chain (omega arith) fits in
          record {
            due = inr (inl (record {
              about = refl;
              further = goes setup s1.actor k slot.id stands.agrees.incarnation stands.agrees.clock newest older taken knows message (decree_of outcome);
              newest = at;
            }));
            only = λ other chain due.
                let it = closes_only slot.id other chain due in
                it.further.behind ∙ ap length (same_known other chain it);
            within = place.within;
            ahead = place.ahead;
            free = inr (place.slot_is, inr next);
            behind = inr knows;
          }

    abbrev Test : Bool
    Test = same_slot slot (slot_of slot.id (newest ∷ older)) && is_some (taken_in (newest ∷ older))

    none_due_here : Test ≡ false → (place : ℕ) (chain : List Decree) → Due slot.id place chain → ⊥
    none_due_here fails place chain due =
        let it = closes_only slot.id place chain due in
        let same = same_known place chain it in
        let at : slot ≡ slot_of slot.id (newest ∷ older) = it.newest ∙ ap (slot_of slot.id) same in
        let taken : taken_in (newest ∷ older) ≡ Some it.further.taken = ap taken_in (sym same) ∙ it.further.message in
        true≢false (sym (and_from _ _ ((slot_decides slot (slot_of slot.id (newest ∷ older))).1 at) (ap is_some taken)) ∙ fails)

    start_here : IsStartOf setup s1 slot.id (Due slot.id) (concluded setup k slot outcome (Some (newest ∷ older)))
    start_here = by_test Test refl
      where
        by_taken : slot ≡ slot_of slot.id (newest ∷ older) → (taken : Option Submission) → taken_in (newest ∷ older) ≡ taken → is_some taken ≡ true →
            IsDueStart setup s1 slot.id (Due slot.id) (start_behind setup k newest older (decree_of outcome))
        by_taken at (Some taken) message some = is_start taken message at
        by_taken at None message some = absurd (true≢false (sym some))

        by_test : (test : Bool) → Test ≡ test →
            IsStartOf setup s1 slot.id (Due slot.id) (if test then Some (start_behind setup k newest older (decree_of outcome)) else None)
        by_test true holds =
            let parts = and_parts (same_slot slot (slot_of slot.id (newest ∷ older))) (is_some (taken_in (newest ∷ older))) holds in
            by_taken ((slot_decides slot (slot_of slot.id (newest ∷ older))).0 parts.0) (taken_in (newest ∷ older)) refl parts.1
        by_test false fails = none_due_here fails

  start_of : (known : Option (List Decree)) → m.known ≡ known → IsStartOf setup s1 slot.id (Due slot.id) (concluded setup k slot outcome known)
  start_of None is = λ place chain due.
      let nothing : IsKnown setup.nodes s.actor.received slot.id None =
      subst (IsKnown setup.nodes s.actor.received slot.id) is (stands.agrees.message slot.id).heard.known in
      nothing _ _ (closes_only slot.id place chain due).further.known.learned
  start_of (Some []) is = λ place chain due.
      let it = closes_only slot.id place chain due in
      let knows : IsKnown setup.nodes s.actor.received slot.id (Some []) =
      subst (IsKnown setup.nodes s.actor.received slot.id) is (stands.agrees.message slot.id).heard.known in
      let same : it.further.newest ∷ it.further.older ≡ [] =
      knows_one setup.nodes s1.actor.received slot.id (it.further.newest ∷ it.further.older) [] it.further.known knows in
      absurd (cc)
  start_of (Some (newest ∷ older)) is = start_here newest older is

  -- ---- the step

  abbrev prepared : Prepared
  prepared = started setup k1 slot.id (concluded setup k slot outcome m.known)

  starts : StartsAs setup k1 s1 slot.id (Due slot.id) prepared
  starts =
      started_as setup k1 s1 agrees mine (record { least = works.least; most = works.most; up = works.up }) slot.id (Due slot.id)
      (concluded setup k slot outcome m.known) (start_of m.known refl)

  calm : IsCalm setup.nodes k1
  calm =
      let before = calm_of setup k s stands.agrees stands.quiet in
      record {
        settled = λ h among. ap (λ (known : Option (List Decree)). settles setup.nodes known h) (same_known (id_of h)) ∙ before.settled h among;
        answered = λ h among. ap (λ (known : Option (List Decree)). answer_to setup.nodes known h) (same_known (id_of h)) ∙ before.answered h among;
      }
    where
      same_known : (id : ℕ) → (message_at k1 id).known ≡ (message_at k id).known
      same_known = each_with (λ id it. it.known ≡ (message_at k id).known) k slot.id _ refl (λ id apart. refl)

  abbrev ToPrepare : Act → Type 0
  ToPrepare = DueToPrepare setup.nodes setup.node s.actor s1.actor s.records (Response slot outcome)

  only_prepares : (act : Act) → ToPrepare act → IsToPrepare setup s1 slot.id (Due slot.id) act
  only_prepares (Prepares other ballot chain) due =
      let same : other.id ≡ slot.id = sym (closes_only other.id other.place chain due.0).about in
      (same, (subst (λ (i : ℕ). Due i other.place chain) same due.0, due.1))
  only_prepares act due = absurd due

  prepares_only : (act : Act) → IsToPrepare setup s1 slot.id (Due slot.id) act → ToPrepare act
  prepares_only (Prepares other ballot chain) due = (subst (λ (i : ℕ). Due i other.place chain) (sym due.0) due.1.0, due.1.1)
  prepares_only act due = absurd due

  asks_none : (act : Act) → DueToAsk setup.nodes setup.node s.actor s1.actor (Response slot outcome) act → ⊥
  asks_none (Asks id ticket) due = due
  asks_none act due = due

  tells : TellsNothing setup.node s (Concludes slot outcome)
  tells = record { records = refl; received = refl; packets = refl; replies = refl; receipts = refl }

  may_conclude : MayAlone setup.nodes setup.node s (Concludes slot outcome)
  may_conclude = record { least = works.least; most = works.most; up = works.up; needs = may }

  on_response_steps : StepsAs setup s (Response slot outcome) (on_response setup k slot outcome)
  on_response_steps =
      begun_steps setup s (Response slot outcome) (Concludes slot outcome) tells may_conclude refl k1 [] slot.id (Due slot.id) prepared (record {
        agrees = agrees;
        calm = calm;
        ends = none_due _ (λ act due. due);
        abandons = none_due _ (λ act due. due);
        asks = none_due _ asks_none;
        asks_may = tt;
        starts = starts;
        prepares = record {
          only = λ act is_in. prepares_only act (starts.due.only act is_in);
          all = λ act due. starts.due.all act (only_prepares act due);
          order = starts.due.order;
        };
      })

  pub response_steps : StepsAs setup s (Response slot outcome) (stepped setup k (Response slot outcome))
  response_steps = subst (StepsAs setup s (Response slot outcome)) (sym is_up) on_response_steps
    where
      is_up : stepped setup k (Response slot outcome) ≡ on_response setup k slot outcome
      is_up =
          ap (λ (running : Bool). if running then stepped_up setup k (Response slot outcome) else stepped_down setup k (Response slot outcome))
          (stands.agrees.up ∙ works.up)
