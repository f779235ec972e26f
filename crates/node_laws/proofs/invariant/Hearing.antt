-- What a packet leaves as it was of which it tells nothing.
use Rattle.std.proofs.Common.{◌≡◌, ◌⊎◌, ℕ, zero, suc, ◌-◌, ◌<◌, List, [], ◌∷◌, ◌++◌, length, take, Option, Some, None, sym, subst, ◌∙◌, inl, inr, refl}
use Rattle.mc_model.specs.message.Decree.{Decree}
use Rattle.mc_model.specs.synod.Lists.{In}
use Rattle.mc_model.specs.synod.OneSlot.{Vote}
use Rattle.mc_model.specs.synod.Packet.{Name, Packet, Prepare, Promise, Refused, Slot, Tell, TopVote, slot_at, slot_of}
use Rattle.mc_model.specs.node.Actor.{Actor}
use Rattle.mc_model.specs.node.Alone.{Node, StandsAt}
use Rattle.mc_model.specs.node.Knowledge.{IsKnown, IsLearned, Knows}
use Rattle.mc_model.specs.node.Proposal.{IsOwn, OwnBallot}
use Rattle.mc_model.specs.node.Rounds.{IsRoundOf, IsRunning}
use Rattle.mc_model.specs.node.Setup.{Setup}
use Rattle.mc_parts.proofs.Learning.{learned_still}
use Rattle.mc_parts.proofs.Membership.{in_right}
use Rattle.node_model.specs.Kept.{Held}
use Rattle.node_model.specs.Message.{Message, Round}
use Rattle.node_laws.proofs.invariant.Running.{running_later}
use Rattle.node_laws.proofs.invariant.Seeing.{seen_later}
use Rattle.node_laws.specs.Stands.{IsBehind, IsHeld, IsHighestReport, IsHighestSeen, IsHighestTold, IsMessage, IsRoundOf as IsKeptRound, TellsOfNone, WasSeen}
use Rattle.node_laws.proofs.invariant.Answered.{known_is}
use Rattle.node_laws.proofs.step.AsideSteps.{TellsNobody}
use Rattle.node_laws.proofs.invariant.Learning.{heard_still}
use Rattle.node_laws.proofs.invariant.Owning.{IsGround, own_later}

-- the actor to which a packet came
abbrev pub received : Node → Packet → Node
received s packet = record { actor = record s.actor { received = packet ∷ s.actor.received }; records = s.records; began = s.began }

-- a packet is no promise at this ballot, and no refusal of it
abbrev pub PromisesNone : Packet → Slot → ℕ → Type 0
PromisesNone packet slot ballot = (acceptor : ℕ) (report : Option Vote) → Promise acceptor slot ballot report ≡ packet → ⊥

abbrev pub RefusesNone : Packet → Slot → ℕ → Type 0
RefusesNone packet slot ballot = (sender promised : ℕ) → ballot < promised → Refused sender slot ballot promised ≡ packet → ⊥

abbrev pub IsUnpromised : Packet → Option Round → Type 0
IsUnpromised packet None = Unit {0}
IsUnpromised packet (Some r) = PromisesNone packet r.slot r.ballot

abbrev pub IsUnrefused : Packet → Option Round → Type 0
IsUnrefused packet None = Unit {0}
IsUnrefused packet (Some r) = RefusesNone packet r.slot r.ballot

-- it tells nothing about a message
pub record IsElsewhere (packet : Packet) (id : ℕ) : Type 0 where
  pub votes : TellsOfNone packet id
  pub promises : (slot : Slot) (ballot : ℕ) → slot.id ≡ id → PromisesNone packet slot ballot
  pub refusals : (slot : Slot) (ballot sender promised : ℕ) → slot.id ≡ id → Refused sender slot ballot promised ≡ packet → ⊥

-- ---- one round of a message runs

first_of_both : (node : ℕ) (one other : Slot) (at above : ℕ) (newer older later before : List Packet) → one.id ≡ other.id →
    newer ++ Prepare node one at ∷ older ≡ later ++ Prepare node other above ∷ before →
    ((sender : ℕ) (slot : Slot) (ballot : ℕ) → In (Prepare sender slot ballot) newer → slot.id ≡ one.id → ⊥) →
    ((sender : ℕ) (slot : Slot) (ballot : ℕ) → In (Prepare sender slot ballot) later → slot.id ≡ other.id → ⊥) → (one ≡ other) × (at ≡ above)
first_of_both node one other at above [] older [] before ids same none also =
    let packets : Prepare node one at ≡ Prepare node other above = cc in (cc, cc)
first_of_both node one other at above [] older (first ∷ later) before ids same none also =
    let packets : Prepare node one at ≡ first = cc in absurd (also node one at (inl packets) ids)
first_of_both node one other at above (first ∷ newer) older [] before ids same none also =
    let packets : Prepare node other above ≡ first = cc in absurd (none node other above (inl packets) (sym ids))
first_of_both node one other at above (first ∷ newer) older (second ∷ later) before ids same none also =
    let behind : newer ++ Prepare node one at ∷ older ≡ later ++ Prepare node other above ∷ before = cc in
    first_of_both node one other at above newer older later before ids behind
    (λ sender slot ballot is_in. none sender slot ballot (inr is_in))
    (λ sender slot ballot is_in. also sender slot ballot (inr is_in))

pub one_round : (node : ℕ) (a : Actor) (one other : Slot) (at above : ℕ) → one.id ≡ other.id → IsRoundOf node a one at → IsRoundOf node a other above →
    (one ≡ other) × (at ≡ above)
one_round node a one other at above ids first second =
    first_of_both node one other at above first.newer first.older second.newer second.older ids (sym first.split ∙ second.split) first.newest second.newest

-- it was prepared
pub round_sent : (node : ℕ) (a : Actor) (slot : Slot) (ballot : ℕ) → IsRoundOf node a slot ballot → In (Prepare node slot ballot) a.sent
round_sent node a slot ballot round =
    in_taken (length a.sent - a.before_tick) a.sent (Prepare node slot ballot)
    (subst (λ (ps : List Packet). In (Prepare node slot ballot) ps) (sym round.split)
    (in_right (Prepare node slot ballot) round.newer (Prepare node slot ballot ∷ round.older) (inl refl)))
  where
    in_taken : (n : ℕ) (ps : List Packet) (p : Packet) → In p (take n ps) → In p ps
    in_taken zero ps p is_in = absurd is_in
    in_taken (suc n) [] p is_in = is_in
    in_taken (suc n) (first ∷ ps) p (inl same) = inl same
    in_taken (suc n) (first ∷ ps) p (inr later) = inr (in_taken n ps p later)

-- ---- what was told to a request

module _ (s : Node) (packet : Packet) (tells : TellsNobody packet) where
  tell_before : (teller : ℕ) (name : Name) (told : Option TopVote) → In (Tell teller name told) (packet ∷ s.actor.received) →
      In (Tell teller name told) s.actor.received
  tell_before teller name told (inl same) = absurd (tells teller name told same)
  tell_before teller name told (inr before) = before

  top_still : (name : Name) (top : Option TopVote) → IsHighestTold s.actor.received name top → IsHighestTold (packet ∷ s.actor.received) name top
  top_still name None none = λ teller other heard. none teller other (tell_before teller name (Some other) heard)
  top_still name (Some top) is = record {
    told = (is.told.0, inr is.told.1);
    highest = λ teller other heard. is.highest teller other (tell_before teller name (Some other) heard);
  }

  pub held_heard : (name : Name) (h : Held) → IsHeld s.actor.received name h → IsHeld (packet ∷ s.actor.received) name h
  held_heard name h is = record {
    tellers = λ teller. (
      λ passes. let has = (is.tellers teller).0 passes in record { told = has.told; heard = inr has.heard },
      λ has. (is.tellers teller).1 (record { told = has.told; heard = tell_before teller name has.told has.heard }),
    );
    top = top_still name h.top is.top;
    about = λ teller told heard. is.about teller told (tell_before teller name (Some told) heard);
  }

-- ---- what stands, and what is the node's own

module _ (setup : Setup) (s : Node) (packet : Packet) where
  abbrev t : Node
  t = received s packet

  pub stands_heard : (slot : Slot) (chain : List Decree) → StandsAt s slot chain → StandsAt t slot chain
  stands_heard slot chain (inl (sender, ballot, heard)) = inl (sender, ballot, inr heard)
  stands_heard slot chain (inr (inl (sender, ballot, heard))) = inr (inl (sender, ballot, inr heard))
  stands_heard slot chain (inr (inr (inl (sender, asked, ballot, heard)))) = inr (inr (inl (sender, asked, ballot, inr heard)))
  stands_heard slot chain (inr (inr (inr (inl (sender, name, ballot, heard))))) = inr (inr (inr (inl (sender, name, ballot, inr heard))))
  stands_heard slot chain (inr (inr (inr (inr began)))) = inr (inr (inr (inr began)))

  ground_heard : (id : ℕ) → IsGround setup.nodes id s.actor t.actor
  ground_heard id = record {
    incarnation = refl;
    clock = refl;
    submits = λ w message waits submits. waits;
    cancels = λ w taken waits settled cancels. waits;
    closed = λ slot outcome closed. closed;
    learned = λ slot vote learned. learned_still setup.nodes packet s.actor.received slot vote learned;
  }

  pub free_heard : (slot : Slot) (id : ℕ) (chain : List Decree) →
      StandsAt s slot chain ⊎ ((slot ≡ slot_of id chain) × IsOwn (IsLearned setup.nodes s.actor.received) setup.node s.actor id chain) →
      StandsAt t slot chain ⊎ ((slot ≡ slot_of id chain) × IsOwn (IsLearned setup.nodes t.actor.received) setup.node t.actor id chain)
  free_heard slot id chain (inl stands) = inl (stands_heard slot chain stands)
  free_heard slot id chain (inr own) = inr (own.0, own_later setup.nodes setup.node id s.actor t.actor (ground_heard id) chain own.1)

  -- ---- rounds that were seen

  pub seen_heard : (slot : Slot) (round : ℕ) → WasSeen setup.node s.actor slot round → WasSeen setup.node t.actor slot round
  seen_heard slot = seen_later setup.node s.actor t.actor slot refl (λ sender ballot promised heard. inr heard) (λ ballot sent. sent)

  pub highest_heard : (slot : Slot) (round : ℕ) →
      ((ballot sender promised : ℕ) → OwnBallot setup.node s.actor ballot → Refused sender slot ballot promised ≡ packet → ⊥) →
      IsHighestSeen setup.node s.actor slot round → IsHighestSeen setup.node t.actor slot round
  highest_heard slot round none highest = record {
    seen = elim highest.seen [ inl nothing ↦ inl nothing | inr seen ↦ inr (seen_heard slot round seen) ];
    most = λ other seen. highest.most other (before other seen);
  }
    where
      before : (other : ℕ) → WasSeen setup.node t.actor slot other → WasSeen setup.node s.actor slot other
      before other (inl refused) = elim refused.heard [
        | inl same ↦ absurd (none refused.ballot refused.sender refused.promised (refused.proposer, refused.incarnation) same)
        | inr heard ↦ inl (record {
          sender = refused.sender;
          ballot = refused.ballot;
          promised = refused.promised;
          heard = heard;
          proposer = refused.proposer;
          incarnation = refused.incarnation;
          names = refused.names;
        })
      ]
      before other (inr sent) = inr (record { ballot = sent.ballot; sent = sent.sent; names = sent.names })

  -- ---- a round that runs, if what is known of its message stays

  module _ (id : ℕ) (known : Option (List Decree)) (before : IsKnown setup.nodes s.actor.received id known)
      (now : IsKnown setup.nodes t.actor.received id known) where
    knows_still : (chain : List Decree) → Knows setup.nodes s.actor.received id chain → Knows setup.nodes t.actor.received id chain
    knows_still chain knows = subst (IsKnown setup.nodes t.actor.received id) (known_is setup.nodes id s.actor.received known chain before knows) now

    knew : (chain : List Decree) → Knows setup.nodes t.actor.received id chain → Knows setup.nodes s.actor.received id chain
    knew chain knows = subst (IsKnown setup.nodes s.actor.received id) (known_is setup.nodes id t.actor.received known chain now knows) before

    pub running_heard : (slot : Slot) (ballot : ℕ) → slot.id ≡ id → RefusesNone packet slot ballot → IsRunning setup.nodes setup.node s.actor slot ballot →
        IsRunning setup.nodes setup.node t.actor slot ballot
    running_heard slot ballot about refuses =
        running_later setup.nodes setup.node s.actor t.actor slot ballot
        (λ sender promised greater came. elim came [ inl same ↦ absurd (refuses sender promised greater same) | inr heard ↦ heard ])
        (subst (λ (i : ℕ). (chain : List Decree) → Knows setup.nodes t.actor.received i chain → Knows setup.nodes s.actor.received i chain) (sym about) knew)
        refl

    pub behind_heard : (slot : Slot) (own chain : List Decree) → IsBehind setup.nodes s.actor.received id (StandsAt s slot own) chain →
        IsBehind setup.nodes t.actor.received id (StandsAt t slot own) chain
    behind_heard slot own [] is = tt
    behind_heard slot own (only ∷ []) is = tt
    behind_heard slot own (next ∷ newest ∷ older) (inl stands) = inl (stands_heard slot own stands)
    behind_heard slot own (next ∷ newest ∷ older) (inr knows) = inr (knows_still (newest ∷ older) knows)

    pub running_before : (slot : Slot) (ballot : ℕ) → slot.id ≡ id → IsRunning setup.nodes setup.node t.actor slot ballot →
        IsRunning setup.nodes setup.node s.actor slot ballot
    running_before slot ballot about =
        running_later setup.nodes setup.node t.actor s.actor slot ballot (λ sender promised greater heard. inr heard)
        (subst (λ (i : ℕ). (chain : List Decree) → Knows setup.nodes s.actor.received i chain → Knows setup.nodes t.actor.received i chain) (sym about)
        knows_still)
        refl

    -- the round that is kept, if it was neither promised nor refused
    pub round_heard : (round : Option Round) → IsUnpromised packet round → IsUnrefused packet round →
        IsKeptRound setup.nodes setup.node s id round → IsKeptRound setup.nodes setup.node t id round
    round_heard None promises refuses none = λ slot ballot about runs. none slot ballot about (running_before slot ballot about runs)
    round_heard (Some r) promises refuses is = record {
      about = is.about;
      running = running_heard r.slot r.ballot is.about refuses is.running;
      promised = λ acceptor. (
        λ passes. let promise = (is.promised acceptor).0 passes in (promise.0, inr promise.1),
        λ promise. (is.promised acceptor).1 (promise.0, promise_before acceptor promise.0 promise.1),
      );
      highest = report_still r.highest is.highest;
      offered = is.offered;
      free = free_heard r.slot id r.own is.free;
      behind = behind_heard r.slot r.own r.own is.behind;
      unproposed = is.unproposed;
    }
      where
        promise_before : (acceptor : ℕ) (report : Option Vote) → In (Promise acceptor r.slot r.ballot report) t.actor.received →
            In (Promise acceptor r.slot r.ballot report) s.actor.received
        promise_before acceptor report (inl same) = absurd (promises acceptor report same)
        promise_before acceptor report (inr before) = before

        report_still : (highest : Option Vote) → IsHighestReport s.actor.received r.slot r.ballot highest →
            IsHighestReport t.actor.received r.slot r.ballot highest
        report_still None none = λ acceptor vote heard. none acceptor vote (promise_before acceptor (Some vote) heard)
        report_still (Some top) highest = record {
          reported = (highest.reported.0, inr highest.reported.1);
          highest = λ acceptor vote heard. highest.highest acceptor vote (promise_before acceptor (Some vote) heard);
        }

  -- ---- a message about which nothing is told

  away_unpromised : (id : ℕ) → IsElsewhere packet id → (round : Option Round) → IsKeptRound setup.nodes setup.node s id round → IsUnpromised packet round
  away_unpromised id away None none = tt
  away_unpromised id away (Some r) is = away.promises r.slot r.ballot is.about

  away_unrefused : (id : ℕ) → IsElsewhere packet id → (round : Option Round) → IsKeptRound setup.nodes setup.node s id round → IsUnrefused packet round
  away_unrefused id away None none = tt
  away_unrefused id away (Some r) is = λ sender promised above same. away.refusals r.slot r.ballot sender promised is.about same

  pub message_heard : (id : ℕ) (m : Message) → IsElsewhere packet id → IsMessage setup s id m → IsMessage setup t id m
  message_heard id m away is =
      let heard = heard_still setup.nodes id packet s.actor.received m away.votes is.heard in
      record {
        heard = heard;
        places = is.places;
        seen = λ place within. highest_heard (slot_at id place) _ (λ ballot sender promised own same. away.refusals
            (slot_at id place) ballot sender promised refl same) (is.seen place within);
        round = round_heard id m.known is.heard.known heard.known m.round (away_unpromised id away m.round is.round)
            (away_unrefused id away m.round is.round) is.round;
        attempts = record { granted = is.attempts.granted; closed = is.attempts.closed };
        covers = is.covers;
      }
