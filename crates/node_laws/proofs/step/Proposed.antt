-- What a Propose leaves as it was: all but the packets that were sent.
use Rattle.std.proofs.Common.{◌≡◌, ℕ, false, ◌∷◌, Option, Some, None, refl, sym, subst₂, inl, inr, arith}
use Rattle.mc_model.specs.synod.Lists.{In}
use Rattle.mc_model.specs.synod.OneSlot.{Vote}
use Rattle.mc_model.specs.synod.Packet.{Prepare, Propose, Slot, slot_at}
use Rattle.mc_model.specs.node.Alone.{Node}
use Rattle.mc_model.specs.node.Rounds.{IsRunning, sent_since_tick}
use Rattle.mc_model.specs.node.Setup.{Setup}
use Rattle.node_model.specs.Kept.{Kept, message_at}
use Rattle.node_model.specs.Message.{Message, Round}
use Rattle.node_model.specs.Sets.{is_majority}
use Rattle.node_laws.proofs.invariant.Running.{round_less, round_more, running_of}
use Rattle.node_laws.proofs.invariant.Seeing.{highest_later}
use Rattle.node_laws.specs.Stands.{Agrees, IsCoherent, IsHighestSeen, IsMessage, IsRoundOf as IsKeptRound}
use Rattle.node_laws.proofs.invariant.Coherence.{IsLater, fit_later}
use Rattle.node_laws.proofs.invariant.Owning.{IsGround, own_later}
use Rattle.node_laws.proofs.step.Starting.{since_more}

module _ (setup : Setup) (s : Node) (slot : Slot) (vote : Vote) where
  abbrev pub proposed : Node
  proposed = record { actor = record s.actor { sent = Propose setup.node slot vote ∷ s.actor.sent }; records = s.records; began = s.began }

  -- a round that runs in this slot has its majority
  abbrev pub IsComplete : Option Round → Type 0
  IsComplete None = Unit {0}
  IsComplete (Some r) = is_majority setup.nodes r.promised ≡ false → r.slot ≡ slot → ⊥

  -- ---- rounds

  module _ (coherent : IsCoherent setup.node s.actor) where
    since_is : sent_since_tick proposed.actor ≡ Propose setup.node slot vote ∷ sent_since_tick s.actor
    since_is = since_more (Propose setup.node slot vote) s.actor.sent s.actor.before_tick coherent.ticked

    running_still : (other : Slot) (above : ℕ) → IsRunning setup.nodes setup.node s.actor other above →
        IsRunning setup.nodes setup.node proposed.actor other above
    running_still other above runs =
        running_of setup.nodes setup.node s.actor proposed.actor other above (λ sender promised greater heard. heard) (λ chain knows. knows)
        (round_more setup.node s.actor proposed.actor other above (Propose setup.node slot vote) since_is (λ sender at height same ids. absurd (cc)) runs.round)
        runs

    running_before : (other : Slot) (above : ℕ) → IsRunning setup.nodes setup.node proposed.actor other above →
        IsRunning setup.nodes setup.node s.actor other above
    running_before other above runs =
        running_of setup.nodes setup.node proposed.actor s.actor other above (λ sender promised greater heard. heard) (λ chain knows. knows)
        (round_less setup.node s.actor proposed.actor other above (Propose setup.node slot vote) since_is (λ sender at height same ids. absurd (cc)) runs.round)
        runs

    ground : (id : ℕ) → IsGround setup.nodes id s.actor proposed.actor
    ground id = record {
      incarnation = refl;
      clock = refl;
      submits = λ w message waits submits. waits;
      cancels = λ w taken waits settled cancels. waits;
      closed = λ other outcome closed. closed;
      learned = λ other cast learned. learned;
    }

    round_still : (id : ℕ) (round : Option Round) → IsComplete round → IsKeptRound setup.nodes setup.node s id round →
        IsKeptRound setup.nodes setup.node proposed id round
    round_still id None complete none = λ other above about runs. none other above about (running_before other above runs)
    round_still id (Some r) complete is = record {
      about = is.about;
      running = running_still r.slot r.ballot is.running;
      promised = is.promised;
      highest = is.highest;
      offered = is.offered;
      free = elim is.free [
        | inl stands ↦ inl stands
        | inr own ↦ inr (own.0, own_later setup.nodes setup.node id s.actor proposed.actor (ground id) r.own own.1)
      ];
      behind = is.behind;
      unproposed = λ few other same sent. elim sent [
        | inl now ↦ let slots : r.slot ≡ slot = cc in complete few slots
        | inr before ↦ is.unproposed few other same before
      ];
    }

  -- ---- rounds that were seen

  highest_still : (other : Slot) (round : ℕ) → IsHighestSeen setup.node s.actor other round → IsHighestSeen setup.node proposed.actor other round
  highest_still other = highest_later setup.node s.actor proposed.actor other refl (λ sender ballot promised. ((λ heard. heard), (λ heard. heard)))
      (λ ballot. ((λ sent. inr sent), (λ sent. elim sent [ inl now ↦ absurd (cc) | inr before ↦ before ])))

  -- ---- what is kept agrees

  pub message_proposed : IsCoherent setup.node s.actor → (id : ℕ) (m : Message) → IsComplete m.round → IsMessage setup s id m → IsMessage setup proposed id m
  message_proposed coherent id m complete is = record {
    heard = is.heard;
    places = is.places;
    seen = λ place within. highest_still (slot_at id place) _ (is.seen place within);
    round = round_still coherent id m.round complete is.round;
    attempts = record { granted = is.attempts.granted; closed = is.attempts.closed };
    covers = is.covers;
  }

  coherent_proposed : In (Prepare setup.node slot vote.ballot) s.actor.sent → IsCoherent setup.node s.actor → IsCoherent setup.node proposed.actor
  coherent_proposed prepared is = record {
    life = is.life;
    ticked = let before = is.ticked in omega arith;
    fits = λ packet came. fit_later setup.node s.actor proposed.actor later packet (is.fits packet came);
    own = λ other above sent. elim sent [ inl now ↦ absurd (cc) | inr before ↦ is.own other above before ];
    prepared = λ other cast sent. elim sent [
      | inl now ↦
          let slots : other ≡ slot = cc in
          let votes : cast ≡ vote = cc in
          inr (subst₂ (λ (x : Slot) (v : Vote). In (Prepare setup.node x v.ballot) s.actor.sent) (sym slots) (sym votes) prepared)
      | inr before ↦ inr (is.prepared other cast before)
    ];
    outcomes = is.outcomes;
  }
    where
      later : IsLater setup.node s.actor proposed.actor
      later = record { incarnation = refl; sent = λ other above sent. inr sent; ticket = omega arith; serial = omega arith }

  pub agrees_proposed : (k : Kept) → Agrees setup k s → In (Prepare setup.node slot vote.ballot) s.actor.sent →
      ((id : ℕ) → IsComplete (message_at k id).round) → Agrees setup k proposed
  agrees_proposed k agrees prepared complete = record {
    up = agrees.up;
    incarnation = agrees.incarnation;
    clock = agrees.clock;
    serial = agrees.serial;
    ticket = agrees.ticket;
    records = agrees.records;
    message = λ id. message_proposed agrees.coherent id (message_at k id) (complete id) (agrees.message id);
    waiting = agrees.waiting;
    told = agrees.told;
    tickets = agrees.tickets;
    given = agrees.given;
    listed = agrees.listed;
    ascends = agrees.ascends;
    placed = agrees.placed;
    voted = agrees.voted;
    coherent = coherent_proposed prepared agrees.coherent;
  }
