-- Message by message, a tick gives up attempts and starts rounds, by the first rule that fits.
use Rattle.std.proofs.Common.{◌≡◌, ◌⊎◌, ℕ, suc, pred, ◌<◌, ◌≤◌, Bool, true, false, List, [], ◌∷◌, ◌++◌, length, map, Option, Some, None, refl, sym, ap, subst}
use Rattle.std.proofs.Common.{◌∙◌, inl, inr, arith}
use Rattle.std.specs.Prelude.{if◌then◌else◌}
use Rattle.std.proofs.lemmas.Bool.{cases_lt}
use Rattle.mc_model.specs.node.Reach.{Reach}
use Rattle.mc_model.specs.message.Decree.{Decree}
use Rattle.mc_model.specs.synod.Acceptor.{Records, SlotRecord}
use Rattle.mc_model.specs.synod.Lists.{In}
use Rattle.mc_model.specs.synod.OneSlot.{Vote}
use Rattle.mc_model.specs.synod.Packet.{Packet, Prepare, Slot, Tell, slot_at, slot_of, top_at}
use Rattle.mc_model.specs.node.Act.{Act, Prepares}
use Rattle.mc_model.specs.node.Actor.{Actor, Offer, Request, Submit, id_in, name_of}
use Rattle.mc_model.specs.node.Alone.{Node, StandsAt, after_alone, reached_alone}
use Rattle.mc_model.specs.node.Due.{key_of}
use Rattle.mc_model.specs.node.FirstRule.{Announce, Close, Delete, Expire, FitsRule, Follow, GiveUp, IsFirstRule, Lose, Rule, Take, Try, Undeliver, order_of}
use Rattle.mc_model.specs.node.Knowledge.{IsKnown, IsLearned}
use Rattle.mc_model.specs.node.Outcome.{Outcome, Unanswered, no_session_error}
use Rattle.mc_model.specs.node.Outputs.{packets_in}
use Rattle.mc_model.specs.node.Proposal.{IsOwn}
use Rattle.mc_model.specs.node.Replies.{Accepted, FitsRequest}
use Rattle.mc_model.specs.node.Rounds.{HasSeen, MayPrepare, RunsNone}
use Rattle.mc_model.specs.node.Rules.{FitsFollow, FitsTake, IsAhead, IsShownAt}
use Rattle.mc_model.specs.node.Setup.{Setup}
use Rattle.mc_parts.proofs.Membership.{in_either, in_right}
use Rattle.node_model.specs.Kept.{Held, Kept, message_at}
use Rattle.node_model.specs.Message.{Message, most_places}
use Rattle.node_model.specs.Proposer.{Start, highest_round, is_free, prepared_at, started}
use Rattle.node_model.specs.Rules.{Fitting}
use Rattle.node_model.specs.Ticks.{abandoned, given_up}
use Rattle.node_model.specs.Acceptor.{ArePlaced}
use Rattle.node_laws.specs.Stands.{Agrees, HasAttempts, IsBehind, IsCoherent, IsQuiet}
use Rattle.node_laws.proofs.invariant.Closing.{closed_agrees}
use Rattle.node_laws.proofs.step.FirstRule.{AgreesOn, same_rule}
use Rattle.node_laws.proofs.invariant.Owning.{IsGround, own_later}
use Rattle.node_laws.proofs.invariant.Orders.{in_mapped}
use Rattle.node_model.proofs.Places.{message_elsewhere, message_here}
use Rattle.node_laws.proofs.invariant.Seeing.{seen_later as seen_of_slot}
use Rattle.node_laws.proofs.step.RuleChains.{after_rule, one_place, received_still, rule_next, rule_place}
use Rattle.node_laws.proofs.step.Started.{IsDueStart, behind_stood}

abbrev pub unanswered : Slot → Slot × Outcome
unanswered slot = (slot, Unanswered no_session_error)

abbrev pub prepare_of : Offer → Act
prepare_of offer = Prepares offer.slot offer.ballot offer.chain

abbrev pub id_of_offer : Offer → ℕ
id_of_offer offer = offer.slot.id

module _ (setup : Setup) (s : Node) where
  abbrev pub packet_of : Offer → Packet
  packet_of offer = Prepare setup.node offer.slot offer.ballot

  -- the node that has given up these attempts and started these rounds
  abbrev pub later : List Slot → List Offer → Node
  later slots offers = record {
    actor = record s.actor {
      sent = map packet_of offers ++ s.actor.sent;
      offers = offers ++ s.actor.offers;
      closed = map unanswered slots ++ s.actor.closed;
    };
    records = s.records;
    began = s.began;
  }

  -- a round is due by the first rule that fits, and so is the end of an attempt
  abbrev pub Starts : Reach → ℕ → ℕ → List Decree → Type 0
  Starts reach id place chain = (rule : Rule) × IsFirstRule setup.nodes setup.node s.actor s.records reach id place chain rule

  abbrev pub GivesUp : Reach → Slot → Type 0
  GivesUp reach slot = (chain : List Decree) × IsFirstRule setup.nodes setup.node s.actor s.records reach slot.id (suc slot.place) chain GiveUp

  -- ---- the first rule has one place

  follows_once : (id place at : ℕ) (chain of : List Decree) → FitsFollow setup.nodes setup.node s.actor s.records id place chain →
      FitsFollow setup.nodes setup.node s.actor s.records id at of → at ≡ place
  follows_once id place at chain of one other =
      let below = one.highest.place_most at other.vote other.highest.shown in
      let above = other.highest.place_most place one.vote one.highest.shown in
      omega arith

  module _ (coherent : IsCoherent setup.node s.actor) (reach : Reach) (id : ℕ) where
    abbrev Fits : Rule → ℕ → List Decree → Type 0
    Fits rule place chain = FitsRule setup.nodes setup.node s.actor s.records reach id place chain rule

    rule_once : (rule : Rule) (place at : ℕ) (chain of : List Decree) → Fits rule place chain → Fits rule at of → at ≡ place
    rule_once Take place at chain of one other = other.0 ∙ sym one.0
    rule_once Follow place at chain of one other = follows_once id place at chain of one other
    rule_once Close place at chain of one other =
        one_place setup.nodes setup.node s.actor coherent s.records reach id Close Close place at chain of (omega arith) (omega arith) one other
    rule_once Lose place at chain of one other =
        one_place setup.nodes setup.node s.actor coherent s.records reach id Lose Lose place at chain of (omega arith) (omega arith) one other
    rule_once GiveUp place at chain of one other =
        one_place setup.nodes setup.node s.actor coherent s.records reach id GiveUp GiveUp place at chain of (omega arith) (omega arith) one other
    rule_once Delete place at chain of one other =
        one_place setup.nodes setup.node s.actor coherent s.records reach id Delete Delete place at chain of (omega arith) (omega arith) one other
    rule_once Expire place at chain of one other =
        one_place setup.nodes setup.node s.actor coherent s.records reach id Expire Expire place at chain of (omega arith) (omega arith) one other
    rule_once Undeliver place at chain of one other =
        one_place setup.nodes setup.node s.actor coherent s.records reach id Undeliver Undeliver place at chain of (omega arith) (omega arith) one other
    rule_once Try place at chain of one other =
        one_place setup.nodes setup.node s.actor coherent s.records reach id Try Try place at chain of (omega arith) (omega arith) one other
    rule_once Announce place at chain of one other =
        one_place setup.nodes setup.node s.actor coherent s.records reach id Announce Announce place at chain of (omega arith) (omega arith) one other

    -- of two first rules neither stands before the other
    pub same_first : (rule other : Rule) (place at : ℕ) (chain of : List Decree) → IsFirstRule setup.nodes setup.node s.actor s.records reach id place chain rule →
        IsFirstRule setup.nodes setup.node s.actor s.records reach id at of other → other ≡ rule
    same_first rule other place at chain of one second = same_rule other rule (elim (cases_lt (order_of rule) (order_of other)) [
      | inl before ↦ absurd (second.first rule place chain before one.fits)
      | inr from ↦ elim (cases_lt (order_of other) (order_of rule)) [
        | inl before ↦ absurd (one.first other at of before second.fits)
        | inr least ↦ omega arith
      ]
    ])

    pub first_once : (rule other : Rule) (place at : ℕ) (chain of : List Decree) → IsFirstRule setup.nodes setup.node s.actor s.records reach id place chain rule →
        IsFirstRule setup.nodes setup.node s.actor s.records reach id at of other → at ≡ place
    first_once rule other place at chain of one second =
        rule_once rule place at chain of one.fits (subst (λ (r : Rule). Fits r at of) (same_first rule other place at chain of one second) second.fits)

  -- ---- what was started of other messages does not matter

  module _ (slots : List Slot) (offers : List Offer) (id : ℕ) (apart : (offer : Offer) → In offer offers → offer.slot.id ≡ id → ⊥) where
    prepared_before : (slot : Slot) (ballot : ℕ) → slot.id ≡ id → In (Prepare setup.node slot ballot) (map packet_of offers ++ s.actor.sent) →
        In (Prepare setup.node slot ballot) s.actor.sent
    prepared_before slot ballot about sent = elim (in_either (Prepare setup.node slot ballot) (map packet_of offers) s.actor.sent sent) [
      | inl now ↦
          let it = in_mapped packet_of offers (Prepare setup.node slot ballot) now in
          let packets : Prepare setup.node slot ballot ≡ Prepare setup.node it.from.slot it.from.ballot = it.is in
          let slots_same : slot ≡ it.from.slot = cc in
          absurd (apart it.from it.among (ap (λ (x : Slot). x.id) (sym slots_same) ∙ about))
      | inr before ↦ before
    ]

    seen_before : (slot : Slot) → slot.id ≡ id → (round : ℕ) → HasSeen setup.node (later slots offers).actor s.records slot round →
        HasSeen setup.node s.actor s.records slot round
    seen_before slot about round (inl own) = inl own
    seen_before slot about round (inr seen) =
        inr (seen_of_slot setup.node (later slots offers).actor s.actor slot refl (λ sender ballot promised heard. heard)
        (λ ballot sent. prepared_before slot ballot about sent) round seen)

    seen_later : (slot : Slot) (round : ℕ) → HasSeen setup.node s.actor s.records slot round →
        HasSeen setup.node (later slots offers).actor s.records slot round
    seen_later slot round (inl own) = inl own
    seen_later slot round (inr seen) =
        inr (seen_of_slot setup.node s.actor (later slots offers).actor slot refl (λ sender ballot promised heard. heard)
        (λ ballot sent. in_right (Prepare setup.node slot ballot) (map packet_of offers) s.actor.sent sent) round seen)

    pub may_before : RunsNone setup.nodes setup.node s.actor id → (slot : Slot) (ballot : ℕ) → slot.id ≡ id →
        MayPrepare setup.nodes setup.node (later slots offers).actor s.records slot ballot → MayPrepare setup.nodes setup.node s.actor s.records slot ballot
    may_before none slot ballot about may = record {
      none = subst (RunsNone setup.nodes setup.node s.actor) (sym about) none;
      next = record {
        highest = may.next.highest;
        seen = seen_before slot about may.next.highest may.next.seen;
        most = λ round seen. may.next.most round (seen_later slot round seen);
        ballot_is = may.next.ballot_is;
        round = may.next.round;
      };
    }

    pub may_later : RunsNone setup.nodes setup.node (later slots offers).actor id → (slot : Slot) (ballot : ℕ) → slot.id ≡ id →
        MayPrepare setup.nodes setup.node s.actor s.records slot ballot → MayPrepare setup.nodes setup.node (later slots offers).actor s.records slot ballot
    may_later none slot ballot about may = record {
      none = subst (RunsNone setup.nodes setup.node (later slots offers).actor) (sym about) none;
      next = record {
        highest = may.next.highest;
        seen = seen_later slot may.next.highest may.next.seen;
        most = λ round seen. may.next.most round (seen_before slot about round seen);
        ballot_is = may.next.ballot_is;
        round = may.next.round;
      };
    }

  -- ---- the round of a rule may be started

  abbrev pub given_slots : Rule → ℕ → ℕ → List Slot
  given_slots GiveUp id place = slot_at id (pred place) ∷ []
  given_slots rule id place = []

  module _ (coherent : IsCoherent setup.node s.actor) (reach : Reach) (id : ℕ) where
    ground_here : (slots : List Slot) (offers : List Offer) → IsGround setup.nodes id s.actor (later slots offers).actor
    ground_here slots offers = record {
      incarnation = refl;
      clock = refl;
      submits = λ w message waits submits. waits;
      cancels = λ w taken waits settled cancels. waits;
      closed = λ slot outcome is_in. in_right (slot, outcome) (map unanswered slots) s.actor.closed is_in;
      learned = λ slot vote learned. learned;
    }

    abbrev After : Rule → ℕ → Actor
    After rule place = after_rule setup.nodes setup.node s.actor coherent s.records reach id rule place

    ground_given : (place : ℕ) (slots : List Slot) (offers : List Offer) →
        IsGround setup.nodes id (After GiveUp place) (later (slot_at id (pred place) ∷ slots) offers).actor
    ground_given place slots offers = record {
      incarnation = refl;
      clock = refl;
      submits = λ w message waits submits. waits;
      cancels = λ w taken waits settled cancels. waits;
      closed = λ slot outcome is_in. elim is_in [
        | inl same ↦ inl same
        | inr before ↦ inr (in_right (slot, outcome) (map unanswered slots) s.actor.closed before)
      ];
      learned = λ slot vote learned. learned;
    }

    ground_of : (rule : Rule) (place : ℕ) (slots : List Slot) (offers : List Offer) →
        IsGround setup.nodes id (After rule place) (later (given_slots rule id place ++ slots) offers).actor
    ground_of Take place slots offers = ground_here slots offers
    ground_of Follow place slots offers = ground_here slots offers
    ground_of Close place slots offers = ground_here slots offers
    ground_of Lose place slots offers = ground_here slots offers
    ground_of GiveUp place slots offers = ground_given place slots offers
    ground_of Delete place slots offers = ground_here slots offers
    ground_of Expire place slots offers = ground_here slots offers
    ground_of Undeliver place slots offers = ground_here slots offers
    ground_of Try place slots offers = ground_here slots offers
    ground_of Announce place slots offers = ground_here slots offers

    -- a submit_sm that waits is of a message of which nothing is known
    take_ahead : IsQuiet setup.nodes setup.node s.actor → (place : ℕ) (chain : List Decree) → FitsTake setup.node s.actor id place chain →
        IsAhead setup.nodes s.actor id place
    take_ahead quiet place chain fits known knows =
        let w = fits.1.waiting in
        let about : id_in w.request ≡ id = ap id_in fits.1.submits in
        let accepted : FitsRequest setup.nodes setup.node s.actor w (Submit id fits.1.message) Accepted = record { chain = known; known = knows } in
        absurd (quiet.answered w.ticket id Accepted (record {
          asked = record { waiting = w; waits = fits.1.waits; ticket_is = refl; about = about };
          fits = subst (λ (r : Request). FitsRequest setup.nodes setup.node s.actor w r Accepted) (sym fits.1.submits) accepted;
        }))

    module _ (k : Kept) (slots : List Slot) (offers : List Offer) (agrees : Agrees setup k (later slots offers)) where
      shown_stands : (place : ℕ) (vote : Vote) → IsShownAt setup.node s.actor s.records id place vote →
          StandsAt (later slots offers) (slot_at id place) vote.chain
      shown_stands place vote (inl told) = inr (inr (inr (inl (told.told.teller, name_of setup.node s.actor told.waiting, vote.ballot, told.told.heard))))
      shown_stands place vote (inr voted) = agrees.voted (slot_at id place) vote (ap (λ (r : SlotRecord). r.vote) (agrees.records (slot_at id place)) ∙ voted)

      shown_within : (place : ℕ) (vote : Vote) → IsShownAt setup.node s.actor s.records id place vote → place < most_places
      shown_within place vote (inl told) =
          (coherent.fits (Tell told.told.teller (name_of setup.node s.actor told.waiting) (Some (top_at (slot_at id place) vote))) told.told.heard).0
      shown_within place vote (inr voted) =
          (agrees.placed (slot_at id place) vote (ap (λ (r : SlotRecord). r.vote) (agrees.records (slot_at id place)) ∙ voted)).1

      abbrev DueTo : ℕ → List Decree → Type 0
      DueTo place chain = Starts reach id place chain

      abbrev Given : Rule → ℕ → Node
      Given rule place = later (given_slots rule id place ++ slots) offers

      record IsReady (rule : Rule) (place : ℕ) (chain : List Decree) : Type 0 where
        within : place < most_places
        ahead : IsAhead setup.nodes s.actor id place
        behind : IsBehind setup.nodes s.actor.received id (StandsAt (Given rule place) (slot_at id place) chain) chain
        free :
            StandsAt (Given rule place) (slot_at id place) chain ⊎
            ((slot_at id place ≡ slot_of id chain) ×
            IsOwn (IsLearned setup.nodes (Given rule place).actor.received) setup.node (Given rule place).actor id chain)

      behind_ready : (rule : Rule) (place : ℕ) (chain : List Decree) → 3 ≤ order_of rule → Fits coherent reach id rule place chain → IsReady rule place chain
      behind_ready rule place chain late fits =
          let at = rule_place setup.nodes setup.node s.actor coherent s.records reach id rule place chain late fits in
          let next = rule_next setup.nodes setup.node s.actor coherent s.records reach id rule place chain late fits in
          let still = received_still setup.nodes setup.node s.actor coherent s.records reach id rule place in
          let own : IsOwn (IsLearned setup.nodes (After rule place).received) setup.node (After rule place) id chain = inr next in
          record {
            within = at.within;
            ahead = at.ahead;
            behind = subst (IsBehind setup.nodes s.actor.received id (StandsAt (Given rule place) (slot_at id place) chain)) (sym at.chain_is) (inr at.known);
            free =
                inr (at.slot_is, own_later setup.nodes setup.node id (After rule place) (Given rule place).actor (ground_of rule place slots offers) chain own);
          }

      ready : IsQuiet setup.nodes setup.node s.actor → (rule : Rule) (place : ℕ) (chain : List Decree) → Fits coherent reach id rule place chain →
          IsReady rule place chain
      ready quiet Take place chain fits = record {
        within = let first = fits.0 in omega arith;
        ahead = take_ahead quiet place chain fits;
        behind = subst (IsBehind setup.nodes s.actor.received id (StandsAt (later slots offers) (slot_at id place) chain)) (sym fits.1.chain_is) tt;
        free = inr (
          (let lengths : pred (length chain) ≡ 0 = ap (λ (c : List Decree). pred (length c)) fits.1.chain_is in ap (slot_at id) (fits.0 ∙ sym lengths)),
          own_later setup.nodes setup.node id s.actor (later slots offers).actor (ground_here slots offers) chain (inl fits.1),
        );
      }
      ready quiet Follow place chain fits =
          let stands = subst (StandsAt (later slots offers) (slot_at id place)) (sym fits.chain_is) (shown_stands place fits.vote fits.highest.shown) in
          record {
            within = shown_within place fits.vote fits.highest.shown;
            ahead = fits.ahead;
            behind = behind_stood setup.nodes id s.actor.received (StandsAt (later slots offers) (slot_at id place) chain) chain stands;
            free = inl stands;
          }
      ready quiet Close place chain fits = behind_ready Close place chain (omega arith) fits
      ready quiet Lose place chain fits = behind_ready Lose place chain (omega arith) fits
      ready quiet GiveUp place chain fits = behind_ready GiveUp place chain (omega arith) fits
      ready quiet Delete place chain fits = behind_ready Delete place chain (omega arith) fits
      ready quiet Expire place chain fits = behind_ready Expire place chain (omega arith) fits
      ready quiet Undeliver place chain fits = behind_ready Undeliver place chain (omega arith) fits
      ready quiet Try place chain fits = behind_ready Try place chain (omega arith) fits
      ready quiet Announce place chain fits = behind_ready Announce place chain (omega arith) fits

      pub is_start : IsQuiet setup.nodes setup.node s.actor → (fit : Fitting) →
          IsFirstRule setup.nodes setup.node s.actor s.records reach id fit.start.place fit.start.chain fit.rule →
          IsDueStart setup (Given fit.rule fit.start.place) id DueTo fit.start
      is_start quiet fit first =
          let it = ready quiet fit.rule fit.start.place fit.start.chain first.fits in
          record {
            due = (fit.rule, first);
            only = λ place chain other. first_once coherent reach id fit.rule other.0 fit.start.place place fit.start.chain chain first other.1;
            within = it.within;
            ahead = it.ahead;
            behind = it.behind;
            free = it.free;
          }

      -- ---- an attempt is given up

      give_up_agrees : (place : ℕ) (chain : List Decree) → Fits coherent reach id GiveUp place chain → ((slot : Slot) → In slot slots → slot.id ≡ id → ⊥) →
          Agrees setup (abandoned k id (pred place)) (later (slot_at id (pred place) ∷ slots) offers)
      give_up_agrees place chain fits apart =
          closed_agrees setup k (later slots offers) agrees (slot_at id (pred place)) (Unanswered no_session_error) (inr refl) open_yet
        where
          slots_same : slot_at id (pred place) ≡ slot_of id (fits.further.newest ∷ fits.further.older)
          slots_same = ap (λ (p : ℕ). slot_at id (pred p)) fits.further.behind

          open_yet : (other : Outcome) → In (slot_at id (pred place), other) (map unanswered slots ++ s.actor.closed) → ⊥
          open_yet other is_in = elim (in_either (slot_at id (pred place), other) (map unanswered slots) s.actor.closed is_in) [
            | inl now ↦
                let it = in_mapped unanswered slots (slot_at id (pred place), other) now in
                apart it.from it.among (ap (λ (x : Slot × Outcome). x.0.id) (sym it.is))
            | inr before ↦ fits.closed other (subst (λ (x : Slot). In (x, other) s.actor.closed) slots_same before)
          ]

      pub given_agrees : (rule : Rule) (place : ℕ) (chain : List Decree) → Fits coherent reach id rule place chain →
          ((slot : Slot) → In slot slots → slot.id ≡ id → ⊥) →
          Agrees setup (given_up rule k id (pred place)) (Given rule place)
      given_agrees Take place chain fits apart = agrees
      given_agrees Follow place chain fits apart = agrees
      given_agrees Close place chain fits apart = agrees
      given_agrees Lose place chain fits apart = agrees
      given_agrees GiveUp place chain fits apart = give_up_agrees place chain fits apart
      given_agrees Delete place chain fits apart = agrees
      given_agrees Expire place chain fits apart = agrees
      given_agrees Undeliver place chain fits apart = agrees
      given_agrees Try place chain fits apart = agrees
      given_agrees Announce place chain fits apart = agrees

-- ---- what is kept of other messages stays

pub record IsBeside (k new : Kept) (id : ℕ) : Type 0 where
  pub incarnation : new.incarnation ≡ k.incarnation
  pub clock : new.clock ≡ k.clock
  pub records : new.records ≡ k.records
  pub held : new.held ≡ k.held
  pub elsewhere : (other : ℕ) → (other ≡ id → ⊥) → message_at new other ≡ message_at k other

pub beside_same : (k : Kept) (id : ℕ) → IsBeside k k id
beside_same k id = record { incarnation = refl; clock = refl; records = refl; held = refl; elsewhere = λ other apart. refl }

pub beside_then : (k middle new : Kept) (id : ℕ) → IsBeside k middle id → IsBeside middle new id → IsBeside k new id
beside_then k middle new id one other = record {
  incarnation = other.incarnation ∙ one.incarnation;
  clock = other.clock ∙ one.clock;
  records = other.records ∙ one.records;
  held = other.held ∙ one.held;
  elsewhere = λ at apart. other.elsewhere at apart ∙ one.elsewhere at apart;
}

pub given_beside : (rule : Rule) (k : Kept) (id place : ℕ) → IsBeside k (given_up rule k id place) id
given_beside Take k id place = beside_same k id
given_beside Follow k id place = beside_same k id
given_beside Close k id place = beside_same k id
given_beside Lose k id place = beside_same k id
given_beside GiveUp k id place =
    record { incarnation = refl; clock = refl; records = refl; held = refl; elsewhere = λ other apart. message_elsewhere k id other _ apart }
given_beside Delete k id place = beside_same k id
given_beside Expire k id place = beside_same k id
given_beside Undeliver k id place = beside_same k id
given_beside Try k id place = beside_same k id
given_beside Announce k id place = beside_same k id

pub given_round : (rule : Rule) (k : Kept) (id place : ℕ) → (message_at k id).round ≡ None → (message_at (given_up rule k id place) id).round ≡ None
given_round Take k id place none = none
given_round Follow k id place none = none
given_round Close k id place none = none
given_round Lose k id place none = none
given_round GiveUp k id place none = ap (λ (m : Message). m.round) (message_here k id _) ∙ none
given_round Delete k id place none = none
given_round Expire k id place none = none
given_round Undeliver k id place none = none
given_round Try k id place none = none
given_round Announce k id place none = none

pub started_beside : (setup : Setup) (k : Kept) (id : ℕ) (start : Option Start) → IsBeside k (started setup k id start).kept id
started_beside setup k id None = beside_same k id
started_beside setup k id (Some start) = by_free (is_free k (slot_at id start.place))
  where
    by_free : (free : Bool) →
        IsBeside k (if free
        then prepared_at setup k (slot_at id start.place) (suc (highest_round k.records (message_at k id) (slot_at id start.place))) start.chain
        else record { kept = k; packets = [] }).kept id
    by_free true = record { incarnation = refl; clock = refl; records = refl; held = refl; elsewhere = λ other apart. message_elsewhere k id other _ apart }
    by_free false = beside_same k id

pub agrees_beside : (setup : Setup) (a : Actor) (records : Records) (k new : Kept) (id other : ℕ) → (other ≡ id → ⊥) → IsBeside k new id →
    AgreesOn setup a records k other → AgreesOn setup a records new other
agrees_beside setup a records k new id other apart beside is = record {
  incarnation = beside.incarnation ∙ is.incarnation;
  clock = beside.clock ∙ is.clock;
  same_records = λ slot. ap (λ (r : Records). r slot) beside.records ∙ is.same_records slot;
  placed = subst ArePlaced (sym beside.records) is.placed;
  waiting = ap (map (λ h. h.waiting)) beside.held ∙ is.waiting;
  told = λ h among. is.told h (subst (λ (hs : List Held). In h hs) beside.held among);
  known = subst (λ (m : Message). IsKnown setup.nodes a.received other m.known) (sym (beside.elsewhere other apart)) is.known;
  attempts = subst (λ (m : Message). HasAttempts a other m) (sym (beside.elsewhere other apart)) is.attempts;
}

-- ---- acts that start rounds, and what they leave

module _ (setup : Setup) (s : Node) where
  -- each of these acts starts a round of the message
  pub record AreStarts (acts : List Act) : Type 0 where
    pub offers : List Offer
    pub are : acts ≡ map prepare_of offers

  pub starts_of : (P : Act → Type 0) → ((act : Act) → P act → (offer : Offer) × (act ≡ prepare_of offer)) → (acts : List Act) →
      ((act : Act) → In act acts → P act) → AreStarts acts
  starts_of P each [] all = record { offers = []; are = refl }
  starts_of P each (act ∷ acts) all =
      let one = each act (all act (inl refl)) in
      let others = starts_of P each acts (λ other among. all other (inr among)) in
      record { offers = one.0 ∷ others.offers; are = λ i. one.1 i ∷ others.are i }

  pub reached_starts : (some : List Offer) (slots : List Slot) (offers : List Offer) →
      reached_alone setup.node (later setup s slots offers) (map prepare_of some) ≡ later setup s slots (some ++ offers)
  reached_starts [] slots offers = refl
  reached_starts (offer ∷ some) slots offers = ap (λ (x : Node). after_alone setup.node x (prepare_of offer)) (reached_starts some slots offers)

  pub packets_of_starts : (a : Actor) (records : Records) (some : List Offer) →
      packets_in setup.node a records (map prepare_of some) ≡ map (packet_of setup s) some
  packets_of_starts a records [] = refl
  packets_of_starts a records (offer ∷ some) = ap (λ (ps : List Packet). packet_of setup s offer ∷ ps) (packets_of_starts a records some)

pub keys_of_starts : (some : List Offer) → map key_of (map prepare_of some) ≡ map id_of_offer some
keys_of_starts [] = refl
keys_of_starts (offer ∷ some) = ap (λ (ns : List ℕ). offer.slot.id ∷ ns) (keys_of_starts some)
