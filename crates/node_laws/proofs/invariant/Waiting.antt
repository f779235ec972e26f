-- What stays of an actor for which other requests wait.
use Rattle.std.proofs.Common.{◌≡◌, ◌⊎◌, ℕ, ◌<◌, true, List, [], ◌∷◌, map, Option, Some, None, refl, inl, inr, arith}
use Rattle.std.specs.List.Sorted.{IsStrictlyIncreasing}
use Rattle.mc_model.specs.message.Submission.{Submission}
use Rattle.mc_model.specs.message.Decree.{Attempt, Author, Decree, Deleted, Failed, Fate, Told, Kind, Taken}
use Rattle.mc_model.specs.message.Chain.{taken_in}
use Rattle.mc_model.specs.message.Neighbours.{MayFollow}
use Rattle.mc_model.specs.synod.Lists.{In}
use Rattle.mc_model.specs.synod.Packet.{Slot}
use Rattle.mc_model.specs.node.Actor.{Submit, Waiting, name_of}
use Rattle.mc_model.specs.node.Alone.{Node, StandsAt}
use Rattle.mc_model.specs.node.Knowledge.{IsLearned}
use Rattle.mc_model.specs.node.Proposal.{Allows, Cancels, IsOwn}
use Rattle.mc_model.specs.node.Setup.{Setup}
use Rattle.node_model.specs.Kept.{Held, Kept, message_at}
use Rattle.node_model.specs.Message.{Message, Round}
use Rattle.node_model.specs.Requests.{ticket_of}
use Rattle.node_laws.proofs.invariant.Changing.{StaysFree as Freed, message_freed}
use Rattle.node_laws.specs.Stands.{Agrees, IsCoherent, IsHeld, IsMessage}
use Rattle.node_laws.proofs.invariant.Coherence.{fit_later}

-- a message of this newest decree waits for its next one
abbrev pub IsIdleKind : Kind → Type 0
IsIdleKind (Taken message) = Unit {0}
IsIdleKind (Attempt number) = ⊥
IsIdleKind (Failed error) = Unit {0}
IsIdleKind (Fate final error) = ⊥
IsIdleKind Told = ⊥

module _ (setup : Setup) (s : Node) (ws : List Waiting) where
  abbrev pub waits : Node
  waits = record { actor = record s.actor { waiting = ws }; records = s.records; began = s.began }

  -- the requests on which a chain of the node's own stands wait still
  pub record KeepsGround (id : ℕ) (chain : List Decree) : Type 0 where
    pub first : (w : Waiting) (message : Submission) (only : Decree) → chain ≡ only ∷ [] → In w s.actor.waiting → w.request ≡ Submit id message → In w ws
    pub cancelled : (w : Waiting) (next newest : Decree) (older : List Decree) (taken : Submission) → chain ≡ next ∷ newest ∷ older → In w s.actor.waiting →
        w.settled ≡ true → taken_in (newest ∷ older) ≡ Some taken → Cancels w.request id taken → IsIdleKind newest.kind → In w ws

  -- ---- a chain of the node's own

  allows_waits : (slot : Slot) (taken message : Submission) (attempted author : Author) (home attempt earlier moment : ℕ) (before next : Kind) →
      ((w : Waiting) → In w s.actor.waiting → w.settled ≡ true → Cancels w.request slot.id taken → IsIdleKind before → In w ws) →
      MayFollow message home attempt attempted earlier before author moment next →
      Allows s.actor slot taken attempted before next → Allows waits.actor slot taken attempted before next
  allows_waits slot taken message attempted author home attempt earlier moment (Attempt number) next stays may (inl closed) =
      inl (record { outcome = closed.outcome; incarnation = closed.incarnation; closed = closed.closed; kind = closed.kind })
  allows_waits slot taken message attempted author home attempt earlier moment (Attempt number) next stays may (inr lost) =
      inr (record { incarnation = lost.incarnation; kind = lost.kind })
  allows_waits slot taken message attempted author home attempt earlier moment (Taken of) (Fate Deleted error) stays may c =
      record { waiting = c.waiting; waits = stays c.waiting c.waits c.settled c.cancels tt; settled = c.settled; cancels = c.cancels }
  allows_waits slot taken message attempted author home attempt earlier moment (Failed cause) (Fate Deleted error) stays may c =
      record { waiting = c.waiting; waits = stays c.waiting c.waits c.settled c.cancels tt; settled = c.settled; cancels = c.cancels }
  allows_waits slot taken message attempted author home attempt earlier moment (Fate final last) (Fate Deleted error) stays may c = absurd may
  allows_waits slot taken message attempted author home attempt earlier moment Told (Fate Deleted error) stays may c = absurd may
  allows_waits slot taken message attempted author home attempt earlier moment before next stays may allowed = tt

  own_waits : (id : ℕ) (chain : List Decree) → KeepsGround id chain → IsOwn (IsLearned setup.nodes s.actor.received) setup.node s.actor id chain →
      IsOwn (IsLearned setup.nodes waits.actor.received) setup.node waits.actor id chain
  own_waits id chain ground (inl first) = inl (record {
    waiting = first.waiting;
    message = first.message;
    waits = ground.first first.waiting first.message _ first.chain_is first.waits first.submits;
    submits = first.submits;
    chain_is = first.chain_is;
  })
  own_waits id chain ground (inr further) = inr (record {
    next = further.next;
    newest = further.newest;
    older = further.older;
    taken = further.taken;
    ballot = further.ballot;
    chain_is = further.chain_is;
    chosen = further.chosen;
    author = further.author;
    moment = further.moment;
    message = further.message;
    may = further.may;
    allowed = allows_waits _ further.taken further.taken further.newest.author further.next.author _ _
        further.newest.moment further.next.moment further.newest.kind further.next.kind
        (λ w waits settled cancels idle.
        ground.cancelled w further.next further.newest further.older further.taken further.chain_is waits settled further.message cancels idle)
        further.may.1
        further.allowed;
    error = further.error;
  })

  -- ---- a message

  -- the chain of a round stands in its slot, or its ground is kept
  abbrev pub StaysFree : ℕ → Option Round → Type 0
  StaysFree id None = Unit {0}
  StaysFree id (Some r) = StandsAt s r.slot r.own ⊎ KeepsGround id r.own

  free_then : (id : ℕ) (round : Option Round) → StaysFree id round →
      Freed setup s s.actor.up s.actor.serial s.actor.ticket ws s.actor.granted s.actor.closed id round
  free_then id None stays = tt
  free_then id (Some r) (inl stood) = inl stood
  free_then id (Some r) (inr ground) = inr (own_waits id r.own ground)

  pub message_waits : (id : ℕ) (m : Message) → StaysFree id m.round → IsMessage setup s id m → IsMessage setup waits id m
  message_waits id m stays is =
      message_freed setup s s.actor.up s.actor.serial s.actor.ticket ws s.actor.granted s.actor.closed id m m.granted m.closed
      (free_then id m.round stays) is
      (record { granted = is.attempts.granted; closed = is.attempts.closed })
      is.covers

  pub coherent_waits : IsCoherent setup.node s.actor → IsCoherent setup.node waits.actor
  coherent_waits is = record {
    life = is.life;
    ticked = is.ticked;
    fits = λ packet came. fit_later setup.node s.actor waits.actor (record {
      incarnation = refl;
      sent = λ slot ballot sent. sent;
      ticket = omega arith;
      serial = omega arith;
    }) packet (is.fits packet came);
    own = is.own;
    prepared = is.prepared;
    outcomes = is.outcomes;
  }

-- ---- what is kept agrees, if these requests are kept

pub agrees_waits : (setup : Setup) (k : Kept) (s : Node) (held : List Held) → Agrees setup k s →
    ((id : ℕ) → StaysFree setup s (map (λ h. h.waiting) held) id (message_at k id).round) →
    ((h : Held) → In h held → IsHeld s.actor.received (name_of setup.node s.actor h.waiting) h) →
    IsStrictlyIncreasing (map ticket_of held) → ((h : Held) → In h held → ticket_of h < k.ticket) →
    Agrees setup (record k { held = held }) (waits setup s (map (λ h. h.waiting) held))
agrees_waits setup k s held agrees stays told rises given = record {
  up = agrees.up;
  incarnation = agrees.incarnation;
  clock = agrees.clock;
  serial = agrees.serial;
  ticket = agrees.ticket;
  records = agrees.records;
  message = λ id. message_waits setup s (map (λ h. h.waiting) held) id (message_at k id) (stays id) (agrees.message id);
  waiting = refl;
  told = told;
  tickets = rises;
  given = given;
  listed = agrees.listed;
  ascends = agrees.ascends;
  placed = agrees.placed;
  voted = agrees.voted;
  coherent = coherent_waits setup s (map (λ h. h.waiting) held) agrees.coherent;
}
