-- What a packet leaves as it was that tells of no vote, no promise, no refusal and of nothing that a request asked: a Prepare, a
-- Propose or a question.
use Rattle.std.proofs.Common.{refl, ℕ, List, [], ◌∷◌, Option, Some, None, ap, inl, inr}
use Rattle.mc_model.specs.message.Submission.{Submission}
use Rattle.mc_model.specs.message.Decree.{Attempt, Author, Decree, Deleted, Failed, Fate, Told, Kind, Taken}
use Rattle.mc_model.specs.synod.Lists.{In}
use Rattle.mc_model.specs.synod.OneSlot.{Vote}
use Rattle.mc_model.specs.synod.Packet.{Name, Packet, Promise, Refused, Slot, Tell, TopVote, Voted, slot_at}
use Rattle.mc_model.specs.node.Actor.{Actor}
use Rattle.mc_model.specs.node.Knowledge.{IsKnown, IsLearned, Knows}
use Rattle.mc_model.specs.node.Proposal.{Allows, IsOwn}
use Rattle.mc_model.specs.node.Rounds.{IsRunning}
use Rattle.mc_model.specs.node.Settling.{HasTold, IsSettled}
use Rattle.mc_model.specs.synod.Acceptor.{Records}
use Rattle.mc_model.specs.node.Alone.{Node, StandsAt}
use Rattle.mc_model.specs.node.Setup.{Setup}
use Rattle.mc_parts.proofs.Learning.{known_stays, learned_still}
use Rattle.node_model.specs.Message.{Message, Round}
use Rattle.node_model.specs.Kept.{Held}
use Rattle.node_laws.proofs.invariant.Quiet.{quiet_with}
use Rattle.node_laws.proofs.invariant.Running.{running_later}
use Rattle.node_laws.proofs.invariant.Seeing.{highest_later}
use Rattle.node_laws.specs.Stands.{IsAside, IsBehind, IsHeld, IsHighestReport, IsHighestSeen, IsHighestTold, IsMessage, IsQuiet, IsRoundOf}
use Rattle.node_laws.proofs.invariant.Learning.{heard_still}

module _ (nodes node : ℕ) (a : Actor) (packet : Packet) (aside : IsAside packet) where
  abbrev pub b : Actor
  b = record a { received = packet ∷ a.received }

  -- ---- what was told

  vote_before : (voter : ℕ) (slot : Slot) (vote : Vote) → In (Voted voter slot vote) b.received → In (Voted voter slot vote) a.received
  vote_before voter slot vote (inl same) = absurd (aside.votes voter slot vote same)
  vote_before voter slot vote (inr before) = before

  pub promise_before : (acceptor ballot : ℕ) (slot : Slot) (report : Option Vote) → In (Promise acceptor slot ballot report) b.received →
      In (Promise acceptor slot ballot report) a.received
  promise_before acceptor ballot slot report (inl same) = absurd (aside.promises acceptor ballot slot report same)
  promise_before acceptor ballot slot report (inr before) = before

  refusal_before : (sender ballot promised : ℕ) (slot : Slot) → In (Refused sender slot ballot promised) b.received →
      In (Refused sender slot ballot promised) a.received
  refusal_before sender ballot promised slot (inl same) = absurd (aside.refusals sender ballot promised slot same)
  refusal_before sender ballot promised slot (inr before) = before

  tell_before : (teller : ℕ) (name : Name) (told : Option TopVote) → In (Tell teller name told) b.received → In (Tell teller name told) a.received
  tell_before teller name told (inl same) = absurd (aside.tells teller name told same)
  tell_before teller name told (inr before) = before

  -- ---- what is known

  learned_before : (slot : Slot) (vote : Vote) → IsLearned nodes b.received slot vote → IsLearned nodes a.received slot vote
  learned_before slot vote learned = record {
    test = learned.test;
    most = learned.most;
    each = λ voter least most passes. vote_before voter slot vote (learned.each voter least most passes);
  }

  pub knows_before : (id : ℕ) (chain : List Decree) → Knows nodes b.received id chain → Knows nodes a.received id chain
  knows_before id chain knows = record {
    ballot = knows.ballot;
    learned = learned_before _ _ knows.learned;
    longest = λ place vote learned. knows.longest place vote (learned_still nodes packet a.received (slot_at id place) vote learned);
    first = λ newer older vote split learned. knows.first (packet ∷ newer) older vote (ap (λ (ps : List Packet). packet ∷ ps) split) learned;
  }

  known_before : (id : ℕ) (known : Option (List Decree)) → IsKnown nodes b.received id known → IsKnown nodes a.received id known
  known_before id None nothing = λ place vote learned. nothing place vote (learned_still nodes packet a.received (slot_at id place) vote learned)
  known_before id (Some chain) knows = knows_before id chain knows

  pub known_still : (id : ℕ) (known : Option (List Decree)) → IsKnown nodes a.received id known → IsKnown nodes b.received id known
  known_still id known is =
      known_stays nodes packet a.received id known is (λ place vote now learned. absurd (aside.votes now.acceptor (slot_at id place) vote now.same))

  -- ---- requests

  told_before : (name : Name) (teller : ℕ) → HasTold b.received name teller → HasTold a.received name teller
  told_before name teller has = record { told = has.told; heard = tell_before teller name has.told has.heard }

  settled_before : (name : Name) (known : Option (List Decree)) → IsSettled nodes b.received name known → IsSettled nodes a.received name known
  settled_before name known settled = record {
    majority = record {
      test = settled.majority.test;
      most = settled.majority.most;
      each = λ teller least most passes. told_before name teller (settled.majority.each teller least most passes);
    };
    reached = λ teller told heard. settled.reached teller told (inr heard);
  }

  -- ---- rounds

  pub running_still : (slot : Slot) (ballot : ℕ) → IsRunning nodes node a slot ballot → IsRunning nodes node b slot ballot
  running_still slot ballot =
      running_later nodes node a b slot ballot (λ sender promised greater heard. refusal_before sender ballot promised slot heard) (knows_before slot.id) refl

  pub running_before : (slot : Slot) (ballot : ℕ) → IsRunning nodes node b slot ballot → IsRunning nodes node a slot ballot
  running_before slot ballot =
      running_later nodes node b a slot ballot (λ sender promised greater heard. inr heard) (λ chain. known_still slot.id (Some chain)) refl

  -- ---- what it may propose

  allows_still : (slot : Slot) (taken : Submission) (attempted : Author) (before next : Kind) → Allows a slot taken attempted before next →
      Allows b slot taken attempted before next
  allows_still slot taken attempted (Attempt number) next (inl closed) =
      inl (record { outcome = closed.outcome; incarnation = closed.incarnation; closed = closed.closed; kind = closed.kind })
  allows_still slot taken attempted (Attempt number) next (inr lost) = inr (record { incarnation = lost.incarnation; kind = lost.kind })
  allows_still slot taken attempted (Taken message) (Fate Deleted error) c =
      record { waiting = c.waiting; waits = c.waits; settled = c.settled; cancels = c.cancels }
  allows_still slot taken attempted (Failed cause) (Fate Deleted error) c =
      record { waiting = c.waiting; waits = c.waits; settled = c.settled; cancels = c.cancels }
  allows_still slot taken attempted (Fate final last) (Fate Deleted error) c =
      record { waiting = c.waiting; waits = c.waits; settled = c.settled; cancels = c.cancels }
  allows_still slot taken attempted Told (Fate Deleted error) c =
      record { waiting = c.waiting; waits = c.waits; settled = c.settled; cancels = c.cancels }
  allows_still slot taken attempted before next allowed = tt

  own_still : (id : ℕ) (chain : List Decree) → IsOwn (IsLearned nodes a.received) node a id chain → IsOwn (IsLearned nodes b.received) node b id chain
  own_still id chain (inl first) = inl (record {
    waiting = first.waiting;
    message = first.message;
    waits = first.waits;
    submits = first.submits;
    chain_is = first.chain_is;
  })
  own_still id chain (inr further) = inr (record {
    next = further.next;
    newest = further.newest;
    older = further.older;
    taken = further.taken;
    ballot = further.ballot;
    chain_is = further.chain_is;
    chosen = learned_still nodes packet a.received _ _ further.chosen;
    author = further.author;
    moment = further.moment;
    message = further.message;
    may = further.may;
    allowed = allows_still _ further.taken further.newest.author further.newest.kind further.next.kind further.allowed;
    error = further.error;
  })

-- ---- what is kept of a message stands for the same

module _ (setup : Setup) (s : Node) (records : Records) (packet : Packet) (aside : IsAside packet) where
  abbrev pub later : Node
  later = record { actor = record s.actor { received = packet ∷ s.actor.received }; records = records; began = s.began }

  pub stands_still : (slot : Slot) (chain : List Decree) → StandsAt s slot chain → StandsAt later slot chain
  stands_still slot chain (inl (sender, ballot, heard)) = inl (sender, ballot, inr heard)
  stands_still slot chain (inr (inl (sender, ballot, heard))) = inr (inl (sender, ballot, inr heard))
  stands_still slot chain (inr (inr (inl (sender, asked, ballot, heard)))) = inr (inr (inl (sender, asked, ballot, inr heard)))
  stands_still slot chain (inr (inr (inr (inl (sender, name, ballot, heard))))) = inr (inr (inr (inl (sender, name, ballot, inr heard))))
  stands_still slot chain (inr (inr (inr (inr began)))) = inr (inr (inr (inr began)))

  highest_still : (slot : Slot) (round : ℕ) → IsHighestSeen setup.node s.actor slot round → IsHighestSeen setup.node later.actor slot round
  highest_still slot = highest_later setup.node s.actor later.actor slot refl
      (λ sender ballot promised. (
        λ heard. inr heard,
        λ heard. refusal_before setup.nodes setup.node s.actor packet aside sender ballot promised slot heard,
      ))
      (λ ballot. ((λ sent. sent), (λ sent. sent)))

  report_still : (slot : Slot) (ballot : ℕ) (highest : Option Vote) → IsHighestReport s.actor.received slot ballot highest →
      IsHighestReport later.actor.received slot ballot highest
  report_still slot ballot None none =
      λ acceptor vote heard. none acceptor vote (promise_before setup.nodes setup.node s.actor packet aside acceptor ballot slot (Some vote) heard)
  report_still slot ballot (Some top) highest = record {
    reported = (highest.reported.0, inr highest.reported.1);
    highest =
        λ acceptor vote heard.
        highest.highest acceptor vote (promise_before setup.nodes setup.node s.actor packet aside acceptor ballot slot (Some vote) heard);
  }

  behind_still : (id : ℕ) (slot : Slot) (own chain : List Decree) → IsBehind setup.nodes s.actor.received id (StandsAt s slot own) chain →
      IsBehind setup.nodes later.actor.received id (StandsAt later slot own) chain
  behind_still id slot own [] is = tt
  behind_still id slot own (only ∷ []) is = tt
  behind_still id slot own (next ∷ newest ∷ older) (inl stands) = inl (stands_still slot own stands)
  behind_still id slot own (next ∷ newest ∷ older) (inr knows) = inr (known_still setup.nodes setup.node s.actor packet aside id (Some (newest ∷ older)) knows)

  round_still : (id : ℕ) (round : Option Round) → IsRoundOf setup.nodes setup.node s id round → IsRoundOf setup.nodes setup.node later id round
  round_still id None none = λ slot ballot about runs. none slot ballot about (running_before setup.nodes setup.node s.actor packet aside slot ballot runs)
  round_still id (Some r) is = record {
    about = is.about;
    running = running_still setup.nodes setup.node s.actor packet aside r.slot r.ballot is.running;
    promised = λ acceptor. (
      λ passes. let promise = (is.promised acceptor).0 passes in (promise.0, inr promise.1),
      λ promise. (is.promised acceptor).1 (promise.0, promise_before setup.nodes setup.node s.actor packet aside acceptor r.ballot r.slot promise.0 promise.1),
    );
    highest = report_still r.slot r.ballot r.highest is.highest;
    offered = is.offered;
    free = elim is.free [
      | inl stands ↦ inl (stands_still r.slot r.own stands)
      | inr own ↦ inr (own.0, own_still setup.nodes setup.node s.actor packet aside id r.own own.1)
    ];
    behind = behind_still id r.slot r.own r.own is.behind;
    unproposed = is.unproposed;
  }

  pub message_still : (id : ℕ) (m : Message) → IsMessage setup s id m → IsMessage setup later id m
  message_still id m is = record {
    heard = heard_still setup.nodes id packet s.actor.received m (λ voter place vote same. aside.votes voter (slot_at id place) vote same) is.heard;
    places = is.places;
    seen = λ place within. highest_still (slot_at id place) _ (is.seen place within);
    round = round_still id m.round is.round;
    attempts = record { granted = is.attempts.granted; closed = is.attempts.closed };
    covers = is.covers;
  }

  -- ---- what is kept of a request, too

  top_still : (name : Name) (top : Option TopVote) → IsHighestTold s.actor.received name top → IsHighestTold later.actor.received name top
  top_still name None none = λ teller other heard. none teller other (tell_before setup.nodes setup.node s.actor packet aside teller name (Some other) heard)
  top_still name (Some top) is = record {
    told = (is.told.0, inr is.told.1);
    highest = λ teller other heard. is.highest teller other (tell_before setup.nodes setup.node s.actor packet aside teller name (Some other) heard);
  }

  pub held_still : (name : Name) (h : Held) → IsHeld s.actor.received name h → IsHeld later.actor.received name h
  held_still name h is = record {
    tellers = λ teller. (
      λ passes. let has = (is.tellers teller).0 passes in record { told = has.told; heard = inr has.heard },
      λ has. (is.tellers teller).1 (told_before setup.nodes setup.node s.actor packet aside name teller has),
    );
    top = top_still name h.top is.top;
    about = λ teller told heard. is.about teller told (tell_before setup.nodes setup.node s.actor packet aside teller name (Some told) heard);
  }

  pub quiet_still : IsQuiet setup.nodes setup.node s.actor → IsQuiet setup.nodes setup.node later.actor
  quiet_still =
      quiet_with setup.nodes setup.node s.actor later.actor refl (known_before setup.nodes setup.node s.actor packet aside)
      (settled_before setup.nodes setup.node s.actor packet aside)
      (λ w waits. waits)
