-- What a round that starts leaves: a Prepare at the next ballot, and what is kept of its message.
use Rattle.std.proofs.Common.{◌≡◌, ◌⊎◌, ℕ, suc, ◌-◌, ◌<◌, ◌≤◌, Bool, true, false, List, [], ◌∷◌, length, get_or, set, take, Option, Some, None, refl}
use Rattle.std.proofs.Common.{sym, ap, subst, ◌∙◌, inl, inr, arith}
use Rattle.std.specs.Prelude.{◌==◌}
use Rattle.std.proofs.lemmas.Bool.{eqb-false, eqb-true, true≢false}
use Rattle.std.proofs.lemmas.List.{get_or-set_other, get_or-set_same, length-set}
use Rattle.mc_model.specs.message.Decree.{Decree}
use Rattle.mc_model.specs.message.Ids.{IsIncarnation, IsNode}
use Rattle.mc_model.specs.synod.Ballot.{ballot_of, incarnation_in, proposer_of, round_in}
use Rattle.mc_model.specs.synod.Lists.{In}
use Rattle.mc_model.specs.synod.OneSlot.{Vote}
use Rattle.mc_model.specs.synod.Packet.{Packet, Prepare, Promise, Propose, Slot, slot_at, slot_of}
use Rattle.mc_model.specs.node.Alone.{Node, StandsAt}
use Rattle.mc_model.specs.node.Knowledge.{IsLearned}
use Rattle.mc_model.specs.node.Proposal.{IsOwn, OwnBallot}
use Rattle.mc_model.specs.node.Rounds.{IsRefused, IsRunning, sent_since_tick}
use Rattle.mc_model.specs.node.Rules.{IsAhead}
use Rattle.mc_model.specs.node.Setup.{Setup}
use Rattle.node_model.specs.Message.{Message, Round, most_places}
use Rattle.node_model.specs.Proposer.{started_at}
use Rattle.node_laws.proofs.invariant.Running.{round_less, round_more, running_of}
use Rattle.node_laws.proofs.invariant.Seeing.{highest_later}
use Rattle.node_laws.specs.Stands.{IsBehind, IsCoherent, IsHighestSeen, IsMessage, IsRoundOf as IsKeptRound, WasSeen}
use Rattle.node_laws.proofs.invariant.Coherence.{IsLater, fit_later}
use Rattle.node_laws.proofs.invariant.Owning.{IsGround, own_later}

-- ---- the packets sent since the last tick

pub since_more : (packet : Packet) (sent : List Packet) (before : ℕ) → before ≤ length sent →
    take (length (packet ∷ sent) - before) (packet ∷ sent) ≡ packet ∷ take (length sent - before) sent
since_more packet sent before within =
    let more : length (packet ∷ sent) - before ≡ suc (length sent - before) = omega arith in
    ap (λ (n : ℕ). take n (packet ∷ sent)) more

-- ---- ballots

pub round_of : (number incarnation node : ℕ) → IsIncarnation incarnation → IsNode node → round_in (ballot_of number incarnation node) ≡ number
round_of number incarnation node life is = let most = life.most in let few = is.most in omega arith

pub own_ballot : (number incarnation node : ℕ) → IsIncarnation incarnation → IsNode node →
    (proposer_of (ballot_of number incarnation node) ≡ node) × (incarnation_in (ballot_of number incarnation node) ≡ incarnation)
own_ballot number incarnation node life is = let most = life.most in let few = is.most in (omega arith, omega arith)

-- a node of the cluster prepares at a ballot for a chain
module _ (setup : Setup) (s : Node) (slot : Slot) (ballot : ℕ) (chain : List Decree) where
  abbrev pub prepared : Node
  prepared = record {
    actor = record s.actor {
      sent = Prepare setup.node slot ballot ∷ s.actor.sent;
      offers = record { slot = slot; ballot = ballot; chain = chain } ∷ s.actor.offers;
    };
    records = s.records;
    began = s.began;
  }

  highest_other : (other : Slot) → (other ≡ slot → ⊥) → (round : ℕ) → IsHighestSeen setup.node s.actor other round →
      IsHighestSeen setup.node prepared.actor other round
  highest_other other differs = highest_later setup.node s.actor prepared.actor other refl (λ sender ballot promised. ((λ heard. heard), (λ heard. heard)))
      (λ above. (
        λ sent. inr sent,
        λ sent. elim sent [ inl now ↦ (let slots : other ≡ slot = cc in absurd (differs slots)) | inr before ↦ before ],
      ))

  same_ground : (id : ℕ) → IsGround setup.nodes id s.actor prepared.actor
  same_ground id = record {
    incarnation = refl;
    clock = refl;
    submits = λ w message waits submits. waits;
    cancels = λ w taken waits settled cancels. waits;
    closed = λ other outcome closed. closed;
    learned = λ other vote learned. learned;
  }

  pub coherent_prepared : OwnBallot setup.node s.actor ballot → IsCoherent setup.node s.actor → IsCoherent setup.node prepared.actor
  coherent_prepared mine is = record {
    life = is.life;
    ticked = let before = is.ticked in omega arith;
    fits = λ packet came. fit_later setup.node s.actor prepared.actor later packet (is.fits packet came);
    own = λ other above sent. elim sent [
      | inl now ↦ let same : above ≡ ballot = cc in subst (OwnBallot setup.node s.actor) (sym same) mine
      | inr before ↦ is.own other above before
    ];
    prepared = λ other vote sent. elim sent [ inl now ↦ absurd (cc) | inr before ↦ inr (is.prepared other vote before) ];
    outcomes = is.outcomes;
  }
    where
      later : IsLater setup.node s.actor prepared.actor
      later = record { incarnation = refl; sent = λ other above sent. inr sent; ticket = omega arith; serial = omega arith }

  -- ---- other messages

  module _ (id : ℕ) (apart : id ≡ slot.id → ⊥) (coherent : IsCoherent setup.node s.actor) where
    since_is : sent_since_tick prepared.actor ≡ Prepare setup.node slot ballot ∷ sent_since_tick s.actor
    since_is = since_more (Prepare setup.node slot ballot) s.actor.sent s.actor.before_tick coherent.ticked

    none_other : (other : Slot) → other.id ≡ id → (sender : ℕ) (at : Slot) (height : ℕ) → Prepare sender at height ≡ Prepare setup.node slot ballot →
        at.id ≡ other.id → ⊥
    none_other other about sender at height same ids =
        let slots : at ≡ slot = cc in apart (sym about ∙ sym ids ∙ ap (λ (x : Slot). x.id) slots)

    running_other : (other : Slot) (above : ℕ) → other.id ≡ id → IsRunning setup.nodes setup.node s.actor other above →
        IsRunning setup.nodes setup.node prepared.actor other above
    running_other other above about runs =
        running_of setup.nodes setup.node s.actor prepared.actor other above (λ sender promised greater heard. heard) (λ chain knows. knows)
        (round_more setup.node s.actor prepared.actor other above (Prepare setup.node slot ballot) since_is (none_other other about) runs.round)
        runs

    running_before : (other : Slot) (above : ℕ) → other.id ≡ id → IsRunning setup.nodes setup.node prepared.actor other above →
        IsRunning setup.nodes setup.node s.actor other above
    running_before other above about runs =
        running_of setup.nodes setup.node prepared.actor s.actor other above (λ sender promised greater heard. heard) (λ chain knows. knows)
        (round_less setup.node s.actor prepared.actor other above (Prepare setup.node slot ballot) since_is (none_other other about) runs.round)
        runs

    own_other : (own : List Decree) → IsOwn (IsLearned setup.nodes s.actor.received) setup.node s.actor id own →
        IsOwn (IsLearned setup.nodes prepared.actor.received) setup.node prepared.actor id own
    own_other own is = own_later setup.nodes setup.node id s.actor prepared.actor (same_ground id) own is

    round_other : (round : Option Round) → IsKeptRound setup.nodes setup.node s id round → IsKeptRound setup.nodes setup.node prepared id round
    round_other None none = λ other above about runs. none other above about (running_before other above about runs)
    round_other (Some r) is = record {
      about = is.about;
      running = running_other r.slot r.ballot is.about is.running;
      promised = is.promised;
      highest = is.highest;
      offered = inr is.offered;
      free = elim is.free [ inl stands ↦ inl stands | inr own ↦ inr (own.0, own_other r.own own.1) ];
      behind = is.behind;
      unproposed = λ few vote same sent. elim sent [ inl now ↦ absurd (cc) | inr before ↦ is.unproposed few vote same before ];
    }

    pub message_other : (m : Message) → IsMessage setup s id m → IsMessage setup prepared id m
    message_other m is = record {
      heard = is.heard;
      places = is.places;
      seen = λ place within. highest_other (slot_at id place) (λ same. apart (ap (λ (x : Slot). x.id) same)) _ (is.seen place within);
      round = round_other m.round is.round;
      attempts = record { granted = is.attempts.granted; closed = is.attempts.closed };
      covers = is.covers;
    }

  -- ---- the message itself, of which no round runs

  module _ (m : Message) (is : IsMessage setup s slot.id m) (coherent : IsCoherent setup.node s.actor) (mine : IsNode setup.node)
      (within : slot.place < most_places) (number : ℕ)
      (more : round_in (s.records slot).promised < number) (above : get_or m.seen slot.place 0 < number)
      (ballot_is : ballot ≡ ballot_of number s.actor.incarnation setup.node) where
    names_number : round_in ballot ≡ number
    names_number = ap round_in ballot_is ∙ round_of number s.actor.incarnation setup.node coherent.life mine

    own : OwnBallot setup.node s.actor ballot
    own =
        let both = own_ballot number s.actor.incarnation setup.node coherent.life mine in
        (ap proposer_of ballot_is ∙ both.0, ap incarnation_in ballot_is ∙ both.1)

    -- of its slot nothing was seen at the ballot, or above it
    unseen_above : (round : ℕ) → WasSeen setup.node s.actor slot round → number ≤ round → ⊥
    unseen_above round seen from = let most = (is.seen slot.place within).most round seen in omega arith

    unprepared : In (Prepare setup.node slot ballot) s.actor.sent → ⊥
    unprepared sent = let names = names_number in unseen_above (round_in ballot) (inr (record { ballot = ballot; sent = sent; names = refl })) (omega arith)

    unpromised : (acceptor : ℕ) (report : Option Vote) → In (Promise acceptor slot ballot report) s.actor.received → ⊥
    unpromised acceptor report came = unprepared (coherent.fits (Promise acceptor slot ballot report) came own)

    unproposed : (vote : Vote) → vote.ballot ≡ ballot → In (Propose setup.node slot vote) prepared.actor.sent → ⊥
    unproposed vote same (inl now) = absurd (cc)
    unproposed vote same (inr before) = unprepared (subst (λ (b : ℕ). In (Prepare setup.node slot b) s.actor.sent) same (coherent.prepared slot vote before))

    unrefused : IsRefused prepared.actor slot ballot → ⊥
    unrefused refused =
        let names = names_number in
        let greater = refused.greater in
        unseen_above (round_in refused.promised) (inl (record {
          sender = refused.sender;
          ballot = ballot;
          promised = refused.promised;
          heard = refused.heard;
          proposer = own.0;
          incarnation = own.1;
          names = refl;
        })) (omega arith)

    runs_now : IsAhead setup.nodes s.actor slot.id slot.place → IsRunning setup.nodes setup.node prepared.actor slot ballot
    runs_now ahead = record {
      round = record {
        newer = [];
        older = sent_since_tick s.actor;
        split = since_more (Prepare setup.node slot ballot) s.actor.sent s.actor.before_tick coherent.ticked;
        newest = λ sender other height none same. none;
      };
      accepted = unrefused;
      short = λ reached. let far = reached.far in let beyond = ahead reached.chain reached.known in omega arith;
    }

    highest_here : IsHighestSeen setup.node prepared.actor slot number
    highest_here = record {
      seen = inr (inr (record { ballot = ballot; sent = inl refl; names = sym names_number }));
      most = λ round seen. elim seen [
        | inl refused ↦ let most = (is.seen slot.place within).most round (inl (record {
          sender = refused.sender;
          ballot = refused.ballot;
          promised = refused.promised;
          heard = refused.heard;
          proposer = refused.proposer;
          incarnation = refused.incarnation;
          names = refused.names;
        })) in omega arith
        | inr sent ↦ most_sent round sent.ballot sent.sent sent.names
      ];
    }
      where
        most_sent : (round at : ℕ) → In (Prepare setup.node slot at) prepared.actor.sent → round ≡ round_in at → round ≤ number
        most_sent round at (inl now) names =
            let same : at ≡ ballot = cc in
            let rounds : round ≡ number = names ∙ ap round_in same ∙ names_number in
            omega arith
        most_sent round at (inr before) names = let most = (is.seen slot.place within).most round
            (inr (record { ballot = at; sent = before; names = names })) in omega arith

    seen_here : (place : ℕ) → place < most_places →
        IsHighestSeen setup.node prepared.actor (slot_at slot.id place) (get_or (set m.seen slot.place number) place 0)
    seen_here place fits = by_place (place == slot.place) refl
      where
        by_place : (same : Bool) → (place == slot.place) ≡ same →
            IsHighestSeen setup.node prepared.actor (slot_at slot.id place) (get_or (set m.seen slot.place number) place 0)
        by_place true same =
            let is_place : place ≡ slot.place = eqb-true place slot.place same in
            let long = is.places in
            subst (λ (p : ℕ). IsHighestSeen setup.node prepared.actor (slot_at slot.id p) (get_or (set m.seen slot.place number) p 0)) (sym is_place)
            (subst (IsHighestSeen setup.node prepared.actor slot) (sym (get_or-set_same m.seen slot.place number 0 (omega arith))) highest_here)
        by_place false differs =
            let apart : place ≡ slot.place → ⊥ = eqb-false place slot.place differs in
            subst (IsHighestSeen setup.node prepared.actor (slot_at slot.id place)) (sym (get_or-set_other m.seen slot.place place number 0 apart))
            (highest_other (slot_at slot.id place) (λ same. apart (ap (λ (x : Slot). x.place) same)) _ (is.seen place fits))

    -- the round is for a chain beyond what is known, which stands already or is the node's own
    pub message_here : IsAhead setup.nodes s.actor slot.id slot.place →
        StandsAt s slot chain ⊎ ((slot ≡ slot_of slot.id chain) × IsOwn (IsLearned setup.nodes s.actor.received) setup.node s.actor slot.id chain) →
        IsBehind setup.nodes s.actor.received slot.id (StandsAt s slot chain) chain →
        IsMessage setup prepared slot.id (started_at m slot number ballot chain)
    message_here ahead free behind = record {
      heard = record { votes = is.heard.votes; known = is.heard.known };
      places = length-set m.seen slot.place number ∙ is.places;
      seen = seen_here;
      round = record {
        about = refl;
        running = runs_now ahead;
        promised = λ acceptor. ((λ passes. absurd (true≢false (sym passes))), (λ promise. absurd (unpromised acceptor promise.0 promise.1)));
        highest = λ acceptor vote came. unpromised acceptor (Some vote) came;
        offered = inl refl;
        free = elim free [
          | inl stands ↦ inl stands
          | inr it ↦ inr (it.0, own_later setup.nodes setup.node slot.id s.actor prepared.actor (same_ground slot.id) chain it.1)
        ];
        behind = behind;
        unproposed = λ few. unproposed;
      };
      attempts = record { granted = is.attempts.granted; closed = is.attempts.closed };
      covers = is.covers;
    }
