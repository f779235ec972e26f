-- What is kept agrees with the actor at which a request came that may wait.
use Rattle.std.proofs.Common.{◌≡◌, ℕ, suc, ◌<◌, ◌≤◌, false, List, [], ◌∷◌, ◌++◌, Option, Some, refl, sym, ap, subst, ◌∙◌, inl, inr, arith}
use Rattle.std.proofs.lemmas.Bool.{true≢false}
use Rattle.std.proofs.lemmas.List.{map-append}
use Rattle.mc_model.specs.message.Decree.{Decree}
use Rattle.mc_model.specs.message.Ids.{IsNode, incarnation_of, node_of, serial_of}
use Rattle.mc_model.specs.message.Submission.{Submission}
use Rattle.mc_model.specs.synod.Lists.{In}
use Rattle.mc_model.specs.synod.OneSlot.{vote_at}
use Rattle.mc_model.specs.synod.Packet.{Tell, TopVote, Voted, slot_of}
use Rattle.mc_model.specs.node.Actor.{Actor, Cancel, Query, Request, Submit, Waiting, name_of}
use Rattle.mc_model.specs.node.Alone.{Node}
use Rattle.mc_model.specs.node.Effect.{next_serial}
use Rattle.mc_model.specs.node.Knowledge.{Knows}
use Rattle.mc_model.specs.node.Room.{IsNumbered}
use Rattle.mc_model.specs.node.Setup.{Setup}
use Rattle.mc_parts.proofs.Majorities.{both}
use Rattle.mc_parts.proofs.Membership.{in_either}
use Rattle.node_model.specs.Kept.{Held, Kept, message_at}
use Rattle.node_model.specs.Requests.{Ascend, begun, ticket_of}
use Rattle.node_model.specs.Ticks.{waits_too}
use Rattle.node_laws.specs.Stands.{Agrees, IsCoherent, IsHeld, IsMessage}
use Rattle.node_laws.proofs.invariant.Changing.{message_changed}
use Rattle.node_laws.proofs.invariant.Coherence.{IsLater, fit_later}
use Rattle.node_laws.proofs.invariant.Orders.{ascend_from, below_in, in_append, in_below, increasing_from}
use Rattle.node_laws.proofs.invariant.Owning.{IsGround}

-- nobody has told to a ticket that is still to be given
pub untold_yet : (node : ℕ) (a : Actor) → IsCoherent node a → (teller ticket : ℕ) (told : Option TopVote) → a.ticket ≤ ticket →
    In (Tell teller (record { node = node; incarnation = a.incarnation; ticket = ticket }) told) a.received → ⊥
untold_yet node a coherent teller ticket told later heard =
    let given = (coherent.fits (Tell teller (record { node = node; incarnation = a.incarnation; ticket = ticket }) told) heard).1 refl refl in omega arith

-- of a message that is taken now nothing is known
pub unknown_yet : (nodes node : ℕ) (a : Actor) → IsCoherent node a → IsNode node → (id : ℕ) (message : Submission) → IsNumbered node a id message →
    (chain : List Decree) → Knows nodes a.received id chain → ⊥
unknown_yet nodes node a coherent mine id message numbered chain knows =
    let told =
    both nodes (λ voter. In (Voted voter (slot_of id chain) (vote_at knows.ballot chain)) a.received)
    (λ voter. In (Voted voter (slot_of id chain) (vote_at knows.ballot chain)) a.received) knows.learned knows.learned in
    let id_is = numbered.id_is in
    let few = mine.most in
    let least = mine.least in
    let life = coherent.life.most in
    let most = numbered.serial.most in
    let node_is : node_of id ≡ node = omega arith in
    let incarnation_is : incarnation_of id ≡ a.incarnation = omega arith in
    let serial_is : serial_of id ≡ a.serial = omega arith in
    elim ((coherent.fits (Voted told.node (slot_of id chain) (vote_at knows.ballot chain)) told.one).1 node_is) [
      | inl older ↦ omega arith
      | inr now ↦ let less = now.1 in omega arith
    ]

ascend_last : (held : List Held) (new : Held) → Ascend held → ((h : Held) → In h held → ticket_of h < ticket_of new) → Ascend (held ++ new ∷ [])
ascend_last [] new ascends below = (tt, tt)
ascend_last (h ∷ held) new ascends below = (
  in_below (ticket_of h) (held ++ new ∷ []) (λ later among. elim (in_either later held (new ∷ []) among) [
    | inl before ↦ below_in (ticket_of h) held ascends.0 later before
    | inr last ↦ elim last [ inl same ↦ subst (λ (x : Held). ticket_of h < ticket_of x) (sym same) (below h (inl refl)) | inr none ↦ absurd none ]
  ]),
  ascend_last held new ascends.1 (λ it among. below it (inr among)),
)

module _ (setup : Setup) (k : Kept) (s : Node) (agrees : Agrees setup k s) (request : Request) where
  abbrev pub new : Held
  new = begun k.ticket k.clock request

  abbrev pub came : Waiting
  came = record { ticket = s.actor.ticket; since = s.actor.clock; request = request; settled = false }

  abbrev pub arrived : Node
  arrived = record {
    actor = record s.actor {
      serial = next_serial request s.actor.serial;
      ticket = suc s.actor.ticket;
      waiting = s.actor.waiting ++ came ∷ [];
    };
    records = s.records;
    began = s.began;
  }

  pub new_is : new.waiting ≡ came
  new_is = λ i. record { ticket = agrees.ticket i; since = agrees.clock i; request = request; settled = false }

  serial_grows : next_serial request k.serial ≡ next_serial request s.actor.serial
  serial_grows = ap (next_serial request) agrees.serial

  serial_later : (of : Request) → s.actor.serial ≤ next_serial of s.actor.serial
  serial_later (Submit id message) = omega arith
  serial_later (Query id account source) = omega arith
  serial_later (Cancel id account source destination) = omega arith

  ground : (id : ℕ) → IsGround setup.nodes id s.actor arrived.actor
  ground id = record {
    incarnation = refl;
    clock = refl;
    submits = λ w message waits submits. in_append w s.actor.waiting (came ∷ []) (inl waits);
    cancels = λ w taken waits settled cancels. in_append w s.actor.waiting (came ∷ []) (inl waits);
    closed = λ slot outcome closed. closed;
    learned = λ slot vote learned. learned;
  }

  message_then : (id : ℕ) → IsMessage setup s id (message_at k id) → IsMessage setup arrived id (message_at k id)
  message_then id is =
      message_changed setup s s.actor.up (next_serial request s.actor.serial) (suc s.actor.ticket)
      (s.actor.waiting ++ came ∷ []) s.actor.granted s.actor.closed id (ground id) (message_at k id)
      (message_at k id).granted
      (message_at k id).closed
      is
      (record { granted = is.attempts.granted; closed = is.attempts.closed })
      is.covers

  none_told : (teller : ℕ) (told : Option TopVote) → In (Tell teller (name_of setup.node arrived.actor new.waiting) told) s.actor.received → ⊥
  none_told teller told heard = untold_yet setup.node s.actor agrees.coherent teller k.ticket told (let same = agrees.ticket in omega arith) heard

  new_held : IsHeld s.actor.received (name_of setup.node arrived.actor new.waiting) new
  new_held = record {
    tellers = λ teller. ((λ t. absurd (true≢false (sym t))), (λ has. absurd (none_told teller has.told has.heard)));
    top = λ teller other heard. none_told teller (Some other) heard;
    about = λ teller told heard. absurd (none_told teller (Some told) heard);
  }

  given_then : (h : Held) → In h (k.held ++ new ∷ []) → ticket_of h < suc k.ticket
  given_then h among = elim (in_either h k.held (new ∷ []) among) [
    | inl before ↦ let below = agrees.given h before in omega arith
    | inr last ↦ elim last [ inl same ↦ (let tickets : ticket_of h ≡ k.ticket = ap ticket_of same in omega arith) | inr none ↦ absurd none ]
  ]

  pub arrived_agrees : Agrees setup (waits_too k request new) arrived
  arrived_agrees = record {
    up = agrees.up;
    incarnation = agrees.incarnation;
    clock = agrees.clock;
    serial = serial_grows;
    ticket = ap suc agrees.ticket;
    records = agrees.records;
    message = λ id. message_then id (agrees.message id);
    waiting = map-append (λ (h : Held). h.waiting) k.held (new ∷ []) ∙ (λ i. agrees.waiting i ++ new_is i ∷ []);
    told = λ h among. elim (in_either h k.held (new ∷ []) among) [
      | inl before ↦ agrees.told h before
      | inr last ↦ elim last [
        | inl same ↦ subst (λ (x : Held). IsHeld s.actor.received (name_of setup.node arrived.actor x.waiting) x) (sym same) new_held
        | inr none ↦ absurd none
      ]
    ];
    tickets = increasing_from (k.held ++ new ∷ []) (ascend_last k.held new (ascend_from k.held agrees.tickets) agrees.given);
    given = given_then;
    listed = agrees.listed;
    ascends = agrees.ascends;
    placed = agrees.placed;
    voted = agrees.voted;
    coherent = record {
      life = agrees.coherent.life;
      ticked = agrees.coherent.ticked;
      fits = λ packet came. fit_later setup.node s.actor arrived.actor is_later packet (agrees.coherent.fits packet came);
      own = agrees.coherent.own;
      prepared = agrees.coherent.prepared;
      outcomes = agrees.coherent.outcomes;
    };
  }
    where
      is_later : IsLater setup.node s.actor arrived.actor
      is_later = record {
        incarnation = refl;
        sent = λ slot ballot sent. sent;
        ticket = omega arith;
        serial = serial_later request;
      }
