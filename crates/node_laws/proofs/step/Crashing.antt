-- The step of a node that stops, before it has saved what a packet has it save, or after it.
use Rattle.std.proofs.Common.{◌≡◌, ◌⊎◌, ℕ, ◌<◌, ◌≤◌, Bool, true, false, List, [], ◌∷◌, Option, Some, None, refl, sym, ap, subst, ◌∙◌, inl, inr, arith}
use Rattle.std.specs.Prelude.{if◌then◌else◌, nat_le, nat_lt, reverse}
use Rattle.std.proofs.lemmas.Bool.{true≢false}
use Rattle.std.proofs.lemmas.Bool.Decides.{Decides-ltb, nat_tests}
use Rattle.mc_model.specs.message.Decree.{Decree}
use Rattle.mc_model.specs.synod.Acceptor.{Records, SlotRecord, after_promise, after_vote, with_record}
use Rattle.mc_model.specs.synod.Lists.{In}
use Rattle.mc_model.specs.synod.OneSlot.{Vote}
use Rattle.mc_model.specs.synod.Packet.{Ask, Name, Packet, Prepare, Promise, Propose, Refused, Slot, Tell, TopVote, Voted}
use Rattle.mc_model.specs.node.Act.{Act, Asks, Prepares, Promises, Proposes, Receives, Replies, Reports, Settles, Stops, Votes}
use Rattle.mc_model.specs.node.Actor.{Actor, Waiting}
use Rattle.mc_model.specs.node.Alone.{IsRunAlone, Node, reached_alone}
use Rattle.mc_model.specs.node.Causes.{Causes, CausesDelete}
use Rattle.mc_model.specs.node.Concerns.{Concerns, IsMember}
use Rattle.mc_model.specs.node.Core.{IsCore}
use Rattle.mc_model.specs.node.Effect.{did, saved as saved_by_acts}
use Rattle.mc_model.specs.node.Input.{Crash}
use Rattle.mc_model.specs.node.Knowledge.{Knows}
use Rattle.mc_model.specs.node.Outputs.{packets_in, receipts_in, replies_in}
use Rattle.mc_model.specs.node.Phases.{DueToAsk, DueToPrepare, DueToPropose, DueToReply, DueToReport, DueToSettle}
use Rattle.mc_model.specs.node.Rounds.{IsPromised}
use Rattle.mc_model.specs.node.Setup.{Setup}
use Rattle.mc_model.specs.node.Step.{IsExact}
use Rattle.mc_parts.proofs.Tellings.{unannounced}
use Rattle.node_model.specs.Kept.{Kept, message_at, saved}
use Rattle.node_model.specs.Outputs.{leaves}
use Rattle.node_model.specs.Stepped.{stepped, stepped_down, stepped_up, stopped}
use Rattle.node_laws.specs.Stands.{Agrees, IsCoherent, IsMessage, Stands}
use Rattle.node_laws.specs.Steps.{IsAtWork, IsWellMade, StepsAs}
use Rattle.mc_model.specs.node.Alone.{MayAlone}
use Rattle.mc_model.specs.node.Concerns.{TellsAbout}
use Rattle.mc_model.specs.node.Core.{IsSaved}
use Rattle.mc_model.specs.node.Actor.{id_in}
use Rattle.node_model.specs.Acceptor.{Judgement, prepare_judged, propose_judged}
use Rattle.node_model.specs.Answers.{answer_to}
use Rattle.node_model.specs.Kept.{Held}
use Rattle.node_model.specs.Message.{Message}
use Rattle.node_model.specs.Packets.{is_member, is_own_name, tells_about, vote_concerns}
use Rattle.node_model.specs.Requests.{held_at, id_of, settles}
use Rattle.node_laws.specs.Stands.{IsAside, IsPlaced}
use Rattle.node_model.proofs.Records.{same_record}
use Rattle.node_laws.proofs.step.AcceptorSteps.{member_is, member_test, prepare_aside, propose_aside, voted_before}
use Rattle.node_laws.proofs.invariant.Aside.{knows_before, later, promise_before}
use Rattle.node_laws.proofs.step.AsideSteps.{same_with, stands_saved}
use Rattle.node_laws.proofs.invariant.Held.{IsKeptAs, kept_as, waits_among}
use Rattle.node_laws.proofs.invariant.Messages.{each_with, listed_with}
use Rattle.node_laws.proofs.invariant.Orders.{ascend_from, one_of_ticket}
use Rattle.node_laws.proofs.step.Promising.{was_asked}
use Rattle.node_laws.proofs.step.Telling.{own_decides, tells_decides}
use Rattle.node_laws.proofs.invariant.Told.{IsFound, found_at, none_at}
use Rattle.node_laws.proofs.step.Voting.{concerns_decides}
use Rattle.shelf.proofs.Entries.{still_ascends}
use Rattle.node_laws.proofs.invariant.Changing.{message_changed}
use Rattle.node_laws.proofs.invariant.Coherence.{fit_later}
use Rattle.node_laws.proofs.invariant.Deciding.{calm_of, quiet_of}
use Rattle.mc_laws.proofs.story.FirstStep.{none_due, none_due_once}
use Rattle.node_laws.proofs.invariant.Owning.{IsGround}

-- ---- a node that has stopped

module _ (setup : Setup) (s : Node) where
  abbrev pub down : Node
  down = record { actor = record s.actor { up = false }; records = s.records; began = s.began }

  ground : (id : ℕ) → IsGround setup.nodes id s.actor down.actor
  ground id = record {
    incarnation = refl;
    clock = refl;
    submits = λ w message waits submits. waits;
    cancels = λ w taken waits settled cancels. waits;
    closed = λ slot outcome closed. closed;
    learned = λ slot vote learned. learned;
  }

  coherent_down : IsCoherent setup.node s.actor → IsCoherent setup.node down.actor
  coherent_down is = record {
    life = is.life;
    ticked = is.ticked;
    fits = λ packet came. fit_later setup.node s.actor down.actor (record {
      incarnation = refl;
      sent = λ slot ballot sent. sent;
      ticket = omega arith;
      serial = omega arith;
    }) packet (is.fits packet came);
    own = is.own;
    prepared = is.prepared;
    outcomes = is.outcomes;
  }

  agrees_down : (k : Kept) → Agrees setup k s → Agrees setup (record k { up = false }) down
  agrees_down k agrees = record {
    up = refl;
    incarnation = agrees.incarnation;
    clock = agrees.clock;
    serial = agrees.serial;
    ticket = agrees.ticket;
    records = agrees.records;
    message = λ id.
        let is = agrees.message id in
        message_changed setup s false s.actor.serial s.actor.ticket s.actor.waiting s.actor.granted s.actor.closed id (ground id) (message_at k id)
        (message_at k id).granted (message_at k id).closed is
        (record { granted = is.attempts.granted; closed = is.attempts.closed }) is.covers;
    waiting = agrees.waiting;
    told = agrees.told;
    tickets = agrees.tickets;
    given = agrees.given;
    listed = agrees.listed;
    ascends = agrees.ascends;
    placed = agrees.placed;
    voted = agrees.voted;
    coherent = coherent_down agrees.coherent;
  }

  pub stands_down : (k : Kept) → Stands setup k s → Stands setup (record k { up = false }) down
  stands_down k stands =
      let agrees = agrees_down k stands.agrees in
      let calm = calm_of setup k s stands.agrees stands.quiet in
      record { agrees = agrees; quiet = quiet_of setup (record k { up = false }) down agrees (record { settled = calm.settled; answered = calm.answered }) }

-- ---- nothing is due of it

-- By acts that save and answer nothing the node came where it stands, and it knows no more, is promised no more, and no one waits who
-- did not.
pub record CameTo (setup : Setup) (s t : Node) (before : List Act) : Type 0 where
  pub run : IsRunAlone setup.nodes setup.node s before
  pub leads : reached_alone setup.node s before ≡ t
  pub did : did setup.node s.actor before ≡ t.actor
  pub packets : packets_in setup.node s.actor s.records before ≡ []
  pub replies : replies_in before ≡ []
  pub receipts : receipts_in before ≡ []
  pub knew : (id : ℕ) (chain : List Decree) → Knows setup.nodes t.actor.received id chain → Knows setup.nodes s.actor.received id chain
  pub waited : (w : Waiting) → In w t.actor.waiting → In w s.actor.waiting
  pub promised : (slot : Slot) (ballot : ℕ) → IsPromised setup.nodes t.actor slot ballot → IsPromised setup.nodes s.actor slot ballot

module _ (setup : Setup) (s t : Node) (before : List Act) (came : CameTo setup s t before) (k : Kept) (stands : Stands setup k t) (works : IsAtWork setup s)
    (up : t.actor.up ≡ true)
    (packet : Packet) (after : Bool) where
  abbrev b : Actor
  b = (down setup t).actor

  abbrev quiet_down : Stands setup (record k { up = false }) (down setup t)
  quiet_down = stands_down setup t k stands

  settles_none : (act : Act) → DueToSettle setup.nodes setup.node b act → ⊥
  settles_none (Settles ticket) due = quiet_down.quiet.settled ticket due
  settles_none act due = due

  asks_none : (act : Act) → DueToAsk setup.nodes setup.node s.actor b (Crash packet after) act → ⊥
  asks_none (Asks id ticket) due = due
  asks_none act due = due

  deletes_none : (id place : ℕ) (chain : List Decree) → CausesDelete setup.nodes setup.node s.actor b id place chain → ⊥
  deletes_none id place chain deletes =
      let cancelled = deletes.deletes.cancelled in
      deletes.new
      (record { waiting = cancelled.waiting; waits = came.waited cancelled.waiting cancelled.waits; ticket_is = refl; settled = cancelled.settled })
      (came.knew id _ deletes.deletes.further.known)

  causes_none : (id place : ℕ) (chain : List Decree) → Causes setup.nodes setup.node s.actor b (Crash packet after) id place chain → ⊥
  causes_none id place chain (inl take) = take
  causes_none id place chain (inr (inl close)) = close
  causes_none id place chain (inr (inr (inl follows))) = follows
  causes_none id place chain (inr (inr (inr (inl deletes)))) = deletes_none id place chain deletes
  causes_none id place chain (inr (inr (inr (inr tells)))) = unannounced setup.nodes setup.node s.actor b id place chain (came.knew id) tells

  prepares_none : (records : Records) (act : Act) → DueToPrepare setup.nodes setup.node s.actor b records (Crash packet after) act → ⊥
  prepares_none records (Prepares slot ballot chain) due = causes_none slot.id slot.place chain due.0
  prepares_none records act due = due

  proposes_none : (act : Act) → DueToPropose setup.nodes setup.node s.actor b act → ⊥
  proposes_none (Proposes slot vote) due =
      due.0.new (came.promised slot vote.ballot (record { test = due.0.promised.test; most = due.0.promised.most; each = due.0.promised.each }))
  proposes_none act due = due

  replies_none : (act : Act) → DueToReply setup.nodes setup.node b act → ⊥
  replies_none (Replies ticket id answer) due = quiet_down.quiet.answered ticket id answer due
  replies_none act due = due

  reports_none : (act : Act) → DueToReport setup.nodes setup.node s.actor b act → ⊥
  reports_none (Reports id chain) due = due.new (came.knew id chain due.known)
  reports_none act due = due

  abbrev core : List Act
  core = Stops ∷ before

  actor_is : did setup.node s.actor core ≡ b
  actor_is = ap (λ (x : Actor). record x { up = false }) came.did

  pub crash_exact : IsCore setup s.actor s.records (Crash packet after) core → IsExact setup s.actor s.records (Crash packet after) core
  crash_exact is = record {
    core = core;
    settles = [];
    late = [];
    asks = [];
    abandons = [];
    prepares = [];
    proposes = [];
    replies = [];
    reports = [];
    acts_are = refl;
    core_is = is;
    settled = none_due _ (λ act due. settles_none act (subst (λ (x : Actor). DueToSettle setup.nodes setup.node x act) actor_is due));
    ended = none_due _ (λ act due. due);
    asked = none_due _ (λ act due. asks_none act (subst (λ (x : Actor). DueToAsk setup.nodes setup.node s.actor x (Crash packet after) act) actor_is due));
    abandoned = none_due _ (λ act due. due);
    prepared = none_due_once _ (λ act due. prepares_none (saved_by_acts s.records core) act
        (subst (λ (x : Actor). DueToPrepare setup.nodes setup.node s.actor x (saved_by_acts s.records core) (Crash packet after) act) actor_is due));
    proposed = none_due_once _ (λ act due. proposes_none act (subst (λ (x : Actor). DueToPropose setup.nodes setup.node s.actor x act) actor_is due));
    replied = none_due _ (λ act due. replies_none act (subst (λ (x : Actor). DueToReply setup.nodes setup.node x act) actor_is due));
    reported = none_due _ (λ act due. reports_none act (subst (λ (x : Actor). DueToReport setup.nodes setup.node s.actor x act) actor_is due));
  }

  pub crash_from : IsCore setup s.actor s.records (Crash packet after) core → StepsAs setup s (Crash packet after) (leaves (record k { up = false }))
  crash_from is = record {
    acts = core;
    taken = record {
      run = (record { least = works.least; most = works.most; up = ap (λ (x : Node). x.actor.up) came.leads ∙ up; needs = tt }, came.run);
      exact = crash_exact is;
    };
    stands = subst (Stands setup (record k { up = false })) (λ i. down setup (sym came.leads i)) (stands_down setup t k stands);
    outputs = λ i. record {
      ticket = None;
      refused = None;
      packets = reverse (sym came.packets i);
      replies = reverse (sym came.replies i);
      receipts = reverse (sym came.receipts i);
      granted = None;
    };
  }

-- ---- whether a packet concerns the node

module _ (setup : Setup) (k : Kept) (s : Node) (stands : Stands setup k s) where
  abbrev IsConcerned : Packet → Type 0
  IsConcerned packet = Concerns setup.nodes setup.node s.actor packet ⊎ (Concerns setup.nodes setup.node s.actor packet → ⊥)

  of_member : (sender : ℕ) (packet : Packet) → (IsMember setup.nodes sender → IsConcerned packet) →
      (Concerns setup.nodes setup.node s.actor packet → IsMember setup.nodes sender) → IsConcerned packet
  of_member sender packet decided member = by_test (is_member setup sender) refl
    where
      by_test : (test : Bool) → is_member setup sender ≡ test → IsConcerned packet
      by_test true is = decided (member_is setup sender is)
      by_test false is = inr (λ concerned. true≢false (sym (member_test setup sender (member concerned)) ∙ is))

  vote_concern : (sender : ℕ) (slot : Slot) (vote : Vote) → IsMember setup.nodes sender → (test : Bool) → vote_concerns setup k slot vote ≡ test →
      IsConcerned (Voted sender slot vote)
  vote_concern sender slot vote member true is = let both = (concerns_decides setup k s stands slot vote).0 is in inl (member, both.0, both.1)
  vote_concern sender slot vote member false is = inr (λ concerned. true≢false
      (sym ((concerns_decides setup k s stands slot vote).1 (concerned.1, concerned.2)) ∙ is))

  module _ (sender : ℕ) (name : Name) (told : Option TopVote) (member : IsMember setup.nodes sender) where
    abbrev IsOwn : Type 0
    IsOwn = (name.node ≡ setup.node) × (name.incarnation ≡ s.actor.incarnation)

    kept_of : (waiting : Waiting) → In waiting s.actor.waiting → IsKeptAs k.held waiting
    kept_of waiting waits = kept_as k.held waiting (subst (λ (ws : List Waiting). In waiting ws) (sym stands.agrees.waiting) waits)

    held_waits : (h : Held) → In h k.held → In h.waiting s.actor.waiting
    held_waits h among = subst (λ (ws : List Waiting). In h.waiting ws) stands.agrees.waiting (waits_among k.held h among)

    told_concern : IsOwn → (it : Option Held) → held_at k.held name.ticket ≡ it → IsConcerned (Tell sender name told)
    told_concern own None none = by_ticket (nat_lt name.ticket k.ticket) refl
      where
        by_ticket : (given : Bool) → nat_lt name.ticket k.ticket ≡ given → IsConcerned (Tell sender name told)
        by_ticket true given = inl (
          member,
          λ node incarnation. record {
            given = let less = (Decides-ltb name.ticket k.ticket).0 given in let same = stands.agrees.ticket in omega arith;
            about = λ waiting waits ticket.
                let kept = kept_of waiting waits in
                absurd (none_at k.held name.ticket none kept.request kept.among (ap (λ (w : Waiting). w.ticket) kept.same ∙ ticket));
          },
        )
        by_ticket false not_yet = inr (λ concerned.
            let less = (concerned.1 own.0 own.1).given in
            let same = stands.agrees.ticket in
            true≢false (sym ((Decides-ltb name.ticket k.ticket).1 (omega arith)) ∙ not_yet))
    told_concern own (Some h) is = by_about (tells_about told (id_of h)) refl
      where
        found : IsFound k.held name.ticket h
        found = found_at k.held name.ticket h is

        by_about : (about : Bool) → tells_about told (id_of h) ≡ about → IsConcerned (Tell sender name told)
        by_about true about = inl (
          member,
          λ node incarnation. record {
            given = let less = stands.agrees.given h found.among in let same = stands.agrees.ticket in let at = found.ticket_is in omega arith;
            about = λ waiting waits ticket.
                let kept = kept_of waiting waits in
                let one : kept.request ≡ h =
                one_of_ticket k.held (ascend_from k.held stands.agrees.tickets) kept.request h kept.among found.among
                (ap (λ (w : Waiting). w.ticket) kept.same ∙ ticket ∙ sym found.ticket_is) in
                subst (TellsAbout told) (ap id_of (sym one) ∙ ap (λ (w : Waiting). id_in w.request) kept.same)
                ((tells_decides setup k s stands sender name told told (id_of h)).0 about);
          },
        )
        by_about false other = inr (λ concerned.
            true≢false (sym ((tells_decides setup k s stands sender name told told (id_of h)).1
            ((concerned.1 own.0 own.1).about h.waiting (held_waits h found.among) found.ticket_is)) ∙ other))

    tell_concern : (own : Bool) → is_own_name setup k name ≡ own → IsConcerned (Tell sender name told)
    tell_concern true own = told_concern ((own_decides setup k s stands sender name told).0 own) (held_at k.held name.ticket) refl
    tell_concern false strange =
        let none : IsOwn → ⊥ = λ own. true≢false (sym ((own_decides setup k s stands sender name told).1 own) ∙ strange) in
        inl (member, λ node incarnation. absurd (none (node, incarnation)))

  pub concern_decided : (packet : Packet) → IsConcerned packet
  concern_decided (Prepare sender slot ballot) = of_member sender (Prepare sender slot ballot) (λ member. inl member) (λ concerned. concerned)
  concern_decided (Propose sender slot vote) = of_member sender (Propose sender slot vote) (λ member. inl member) (λ concerned. concerned)
  concern_decided (Refused sender slot ballot promised) = of_member sender (Refused sender slot ballot promised) (λ member. inl member) (λ concerned. concerned)
  concern_decided (Ask sender id name) = of_member sender (Ask sender id name) (λ member. inl member) (λ concerned. concerned)
  concern_decided (Promise sender slot ballot report) = of_member sender (Promise sender slot ballot report)
      (λ member. elim (was_asked setup.node s.actor slot ballot) [ inl asked ↦ inl (member, asked) | inr strange ↦ inr (λ concerned. strange concerned.1) ])
      (λ concerned. concerned.0)
  concern_decided (Voted sender slot vote) = of_member sender (Voted sender slot vote)
      (λ member. vote_concern sender slot vote member (vote_concerns setup k slot vote) refl) (λ concerned. concerned.0)
  concern_decided (Tell sender name told) = of_member sender (Tell sender name told)
      (λ member. tell_concern sender name told member (is_own_name setup k name) refl) (λ concerned. concerned.0)

  -- ---- it saves nothing

  nothing_done : CameTo setup s s []
  nothing_done = record {
    run = tt;
    leads = refl;
    did = refl;
    packets = refl;
    replies = refl;
    receipts = refl;
    knew = λ id chain knows. knows;
    waited = λ w waits. waits;
    promised = λ slot ballot promised. promised;
  }

  before_steps : IsAtWork setup s → (packet : Packet) → StepsAs setup s (Crash packet false) (leaves (record k { up = false }))
  before_steps works packet = crash_from setup s s [] nothing_done k stands works works.up packet false refl

  -- a record in the place of itself
  stands_resaved : (slot : Slot) → Stands setup (saved k slot (k.records slot)) s
  stands_resaved slot =
      let agrees = resaved in
      let calm = calm_of setup k s stands.agrees stands.quiet in
      record {
        agrees = agrees;
        quiet = quiet_of setup (saved k slot (k.records slot)) s agrees (record {
          settled = λ h among. ap (λ (m : Message). settles setup.nodes m.known h) (still (id_of h)) ∙ calm.settled h among;
          answered = λ h among. ap (λ (m : Message). answer_to setup.nodes m.known h) (still (id_of h)) ∙ calm.answered h among;
        });
      }
    where
      still : (id : ℕ) → message_at (saved k slot (k.records slot)) id ≡ message_at k id
      still = each_with (λ id m. m ≡ message_at k id) k slot.id (message_at k slot.id) refl (λ id apart. refl)

      same : (other : Slot) → k.records other ≡ with_record k.records slot (k.records slot) other
      same other = same_record k.records slot other

      resaved : Agrees setup (saved k slot (k.records slot)) s
      resaved = record {
        up = stands.agrees.up;
        incarnation = stands.agrees.incarnation;
        clock = stands.agrees.clock;
        serial = stands.agrees.serial;
        ticket = stands.agrees.ticket;
        records = λ other. sym (same other) ∙ stands.agrees.records other;
        message = λ id. subst (IsMessage setup s id) (sym (still id)) (stands.agrees.message id);
        waiting = stands.agrees.waiting;
        told = stands.agrees.told;
        tickets = stands.agrees.tickets;
        given = stands.agrees.given;
        listed = λ other vote voted.
            listed_with k.messages slot.id (message_at k slot.id) other.id
            (stands.agrees.listed other vote (ap (λ (r : SlotRecord). r.vote) (same other) ∙ voted));
        ascends = still_ascends k.messages slot.id (message_at k slot.id) stands.agrees.ascends;
        placed = λ other vote voted. stands.agrees.placed other vote (ap (λ (r : SlotRecord). r.vote) (same other) ∙ voted);
        voted = λ other vote voted. stands.agrees.voted other vote (ap (λ (r : SlotRecord). r.vote) (same other) ∙ voted);
        coherent = stands.agrees.coherent;
      }

  -- ---- it saves a record

  module _ (works : IsAtWork setup s) (packet : Packet) (aside : IsAside packet) where
    saves_by : (act : Act) (records : Records) → reached_alone setup.node s (act ∷ Receives packet ∷ []) ≡ later setup s records packet aside →
        did setup.node s.actor (act ∷ Receives packet ∷ []) ≡ (later setup s records packet aside).actor →
        packets_in setup.node s.actor s.records (act ∷ Receives packet ∷ []) ≡ [] →
        replies_in (act ∷ Receives packet ∷ []) ≡ [] → receipts_in (act ∷ Receives packet ∷ []) ≡ [] →
        MayAlone setup.nodes setup.node (later setup s s.records packet aside) act →
        CameTo setup s (later setup s records packet aside) (act ∷ Receives packet ∷ [])
    saves_by act records leads does packets replies receipts may = record {
      run = (may, (record { least = works.least; most = works.most; up = works.up; needs = tt }, tt));
      leads = leads;
      did = does;
      packets = packets;
      replies = replies;
      receipts = receipts;
      knew = λ id chain knows. knows_before setup.nodes setup.node s.actor packet aside id chain knows;
      waited = λ w waits. waits;
      promised = λ slot ballot promised. record {
        test = promised.test;
        most = promised.most;
        each = λ acceptor least within passes.
            let promise = promised.each acceptor least within passes in
            (promise.0, promise_before setup.nodes setup.node s.actor packet aside acceptor ballot slot promise.0 promise.1);
      };
    }

  saved_prepare : IsAtWork setup s → (sender ballot : ℕ) (slot : Slot) → IsMember setup.nodes sender →
      StepsAs setup s (Crash (Prepare sender slot ballot) true) (leaves
      (record (saved k slot (prepare_judged setup.node slot ballot (k.records slot)).after) { up = false }))
  saved_prepare works sender ballot slot member = by_test (nat_lt (k.records slot).promised ballot) refl
    where
      aside : IsAside (Prepare sender slot ballot)
      aside = prepare_aside sender ballot slot

      judgement : Bool → Judgement
      judgement test =
          if test
          then record { answer = Promise setup.node slot ballot (k.records slot).vote; after = after_promise (k.records slot) ballot }
          else record { answer = Refused setup.node slot ballot (k.records slot).promised; after = k.records slot }

      by_test : (test : Bool) → nat_lt (k.records slot).promised ballot ≡ test →
          StepsAs setup s (Crash (Prepare sender slot ballot) true) (leaves (record (saved k slot (judgement test).after) { up = false }))
      by_test true below =
          let same = stands.agrees.records slot in
          let before : (k.records slot).promised < ballot = grind (arith, nat_tests) in
          let may : (s.records slot).promised < ballot = subst (λ (r : SlotRecord). r.promised < ballot) same before in
          let records = with_record s.records slot (after_promise (s.records slot) ballot) in
          crash_from setup s (later setup s records (Prepare sender slot ballot) aside)
          (Promises slot ballot false ∷ Receives (Prepare sender slot ballot) ∷ [])
          (saves_by works (Prepare sender slot ballot) aside (Promises slot ballot false) records refl refl refl refl refl
          (record { least = works.least; most = works.most; up = works.up; needs = record { sender = sender; prepared = inl refl; may = may } }))
          (saved k slot (after_promise (k.records slot) ballot))
          (stands_saved setup s (Prepare sender slot ballot) aside k stands slot (after_promise (k.records slot) ballot) records
          (same_with setup s (Prepare sender slot ballot) aside k stands slot (after_promise (k.records slot) ballot) (after_promise (s.records slot) ballot)
          (ap (λ (r : SlotRecord). after_promise r ballot) same))
          (voted_before setup k s stands works (Prepare sender slot ballot) aside slot))
          works works.up (Prepare sender slot ballot) true
          (record {
            before = Promises slot ballot false ∷ Receives (Prepare sender slot ballot) ∷ [];
            handled = inl (member, inl (may, refl));
            acts_are = refl;
          })
      by_test false above =
          let same = stands.agrees.records slot in
          let before : ballot ≤ (k.records slot).promised = grind (arith, nat_tests) in
          let may : ballot ≤ (s.records slot).promised = subst (λ (r : SlotRecord). ballot ≤ r.promised) same before in
          crash_from setup s s [] nothing_done (saved k slot (k.records slot)) (stands_resaved slot) works works.up (Prepare sender slot ballot) true
          (record { before = []; handled = inl (member, inr (may, refl)); acts_are = refl })

  saved_propose : IsAtWork setup s → (sender : ℕ) (slot : Slot) (vote : Vote) → IsPlaced slot vote → IsMember setup.nodes sender →
      StepsAs setup s (Crash (Propose sender slot vote) true) (leaves (record
      (saved k slot (propose_judged setup.node slot vote (k.records slot)).after) { up = false }))
  saved_propose works sender slot vote fits member = by_test (nat_le (k.records slot).promised vote.ballot) refl
    where
      aside : IsAside (Propose sender slot vote)
      aside = propose_aside sender slot vote

      judgement : Bool → Judgement
      judgement test =
          if test
          then record { answer = Voted setup.node slot vote; after = after_vote vote }
          else record { answer = Refused setup.node slot vote.ballot (k.records slot).promised; after = k.records slot }

      by_test : (test : Bool) → nat_le (k.records slot).promised vote.ballot ≡ test →
          StepsAs setup s (Crash (Propose sender slot vote) true) (leaves (record (saved k slot (judgement test).after) { up = false }))
      by_test true below =
          let same = stands.agrees.records slot in
          let before : (k.records slot).promised ≤ vote.ballot = grind (arith, nat_tests) in
          let may : (s.records slot).promised ≤ vote.ballot = subst (λ (r : SlotRecord). r.promised ≤ vote.ballot) same before in
          let records = with_record s.records slot (after_vote vote) in
          crash_from setup s (later setup s records (Propose sender slot vote) aside) (Votes slot vote false ∷ Receives (Propose sender slot vote) ∷ [])
          (saves_by works (Propose sender slot vote) aside (Votes slot vote false) records refl refl refl refl refl
          (record { least = works.least; most = works.most; up = works.up; needs = record { sender = sender; proposed = inl refl; may = may } }))
          (saved k slot (after_vote vote))
          (stands_saved setup s (Propose sender slot vote) aside k stands slot (after_vote vote) records
          (same_with setup s (Propose sender slot vote) aside k stands slot (after_vote vote) (after_vote vote) refl)
          (λ cast voted. let casts : vote ≡ cast = cc in (
            subst (IsPlaced slot) casts fits,
            inl
                (sender, cast.ballot, inl (λ i. Propose sender slot (sym casts i))),
          )))
          works works.up (Propose sender slot vote) true
          (record { before = Votes slot vote false ∷ Receives (Propose sender slot vote) ∷ []; handled = inl (member, inl (may, refl)); acts_are = refl })
      by_test false above =
          let same = stands.agrees.records slot in
          let before : vote.ballot < (k.records slot).promised = grind (arith, nat_tests) in
          let may : vote.ballot < (s.records slot).promised = subst (λ (r : SlotRecord). vote.ballot < r.promised) same before in
          crash_from setup s s [] nothing_done (saved k slot (k.records slot)) (stands_resaved slot) works works.up (Propose sender slot vote) true
          (record { before = []; handled = inl (member, inr (may, refl)); acts_are = refl })

  -- ---- any packet

  -- one of which it would save nothing
  idle_after : IsAtWork setup s → (packet : Packet) → IsSaved s.records packet [] → StepsAs setup s (Crash packet true) (leaves (record k { up = false }))
  idle_after works packet none = crash_from setup s s [] nothing_done k stands works works.up packet true (record {
    before = [];
    handled = elim (concern_decided packet) [ inl concerned ↦ inl (concerned, none) | inr strange ↦ inr (strange, refl) ];
    acts_are = refl;
  })

  -- or one that was not sent by a node
  strange_after : IsAtWork setup s → (packet : Packet) → (Concerns setup.nodes setup.node s.actor packet → ⊥) →
      StepsAs setup s (Crash packet true) (leaves (record k { up = false }))
  strange_after works packet strange = crash_from setup s s [] nothing_done k stands works works.up packet true
      (record { before = []; handled = inr (strange, refl); acts_are = refl })

  unsaved : IsAtWork setup s → (packet : Packet) → IsSaved s.records packet [] → (member : Bool) →
      StepsAs setup s (Crash packet true) (leaves (if member then record k { up = false } else record k { up = false }))
  unsaved works packet none true = idle_after works packet none
  unsaved works packet none false = idle_after works packet none

  after_steps : IsAtWork setup s → (packet : Packet) → IsWellMade packet → StepsAs setup s (Crash packet true) (leaves (stopped setup k packet true))
  after_steps works (Prepare sender slot ballot) made = by_member (is_member setup sender) refl
    where
      by_member : (member : Bool) → is_member setup sender ≡ member → StepsAs setup s (Crash (Prepare sender slot ballot) true)
          (leaves (if member then record (saved k slot (prepare_judged setup.node slot ballot (k.records slot)).after) { up = false } else record k {
            up = false;
          }))
      by_member true is = saved_prepare works sender ballot slot (member_is setup sender is)
      by_member false is = strange_after works (Prepare sender slot ballot) (λ concerned. true≢false (sym (member_test setup sender concerned) ∙ is))
  after_steps works (Propose sender slot vote) made = by_member (is_member setup sender) refl
    where
      by_member : (member : Bool) → is_member setup sender ≡ member → StepsAs setup s (Crash (Propose sender slot vote) true)
          (leaves (if member then record (saved k slot (propose_judged setup.node slot vote (k.records slot)).after) { up = false } else record k {
            up = false;
          }))
      by_member true is = saved_propose works sender slot vote made (member_is setup sender is)
      by_member false is = strange_after works (Propose sender slot vote) (λ concerned. true≢false (sym (member_test setup sender concerned) ∙ is))
  after_steps works (Promise sender slot ballot report) made = unsaved works (Promise sender slot ballot report) refl (is_member setup sender)
  after_steps works (Voted sender slot vote) made = unsaved works (Voted sender slot vote) refl (is_member setup sender)
  after_steps works (Refused sender slot ballot promised) made = unsaved works (Refused sender slot ballot promised) refl (is_member setup sender)
  after_steps works (Ask sender id name) made = unsaved works (Ask sender id name) refl (is_member setup sender)
  after_steps works (Tell sender name told) made = unsaved works (Tell sender name told) refl (is_member setup sender)

  pub crash_steps : IsAtWork setup s → (packet : Packet) (after : Bool) → IsWellMade packet →
      StepsAs setup s (Crash packet after) (stepped setup k (Crash packet after))
  crash_steps works packet after made = subst (StepsAs setup s (Crash packet after)) (sym up) (by_after after)
    where
      up : stepped setup k (Crash packet after) ≡ leaves (stopped setup k packet after)
      up = ap (λ (up : Bool). if up then stepped_up setup k (Crash packet after) else stepped_down setup k (Crash packet after)) (stands.agrees.up ∙ works.up)

      by_after : (after : Bool) → StepsAs setup s (Crash packet after) (leaves (stopped setup k packet after))
      by_after false = before_steps works packet
      by_after true = after_steps works packet made
