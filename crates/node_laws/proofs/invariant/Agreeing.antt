-- What is kept agrees with the actor to which a packet came that tells nothing to a request.
use Rattle.std.proofs.Common.{◌≡◌, ℕ}
use Rattle.mc_model.specs.synod.Packet.{Packet}
use Rattle.mc_model.specs.node.Actor.{name_of}
use Rattle.mc_model.specs.node.Alone.{Node}
use Rattle.mc_model.specs.node.Setup.{Setup}
use Rattle.node_model.specs.Kept.{Kept, message_at, with_message}
use Rattle.node_model.specs.Message.{Message}
use Rattle.node_laws.specs.Stands.{Agrees, IsFit, IsMessage}
use Rattle.node_laws.proofs.step.AsideSteps.{TellsNobody}
use Rattle.node_laws.proofs.invariant.Coherence.{coherent_heard}
use Rattle.node_laws.proofs.invariant.Hearing.{held_heard, received, stands_heard}
use Rattle.node_laws.proofs.invariant.Messages.{each_with, listed_with}
use Rattle.shelf.proofs.Entries.{still_ascends}

module _ (setup : Setup) (k : Kept) (s : Node) (agrees : Agrees setup k s) (packet : Packet) (tells : TellsNobody packet)
    (fits : IsFit setup.node s.actor packet) where
  -- nothing else is kept
  pub agrees_heard : ((id : ℕ) → IsMessage setup (received s packet) id (message_at k id)) → Agrees setup k (received s packet)
  agrees_heard messages = record {
    up = agrees.up;
    incarnation = agrees.incarnation;
    clock = agrees.clock;
    serial = agrees.serial;
    ticket = agrees.ticket;
    records = agrees.records;
    message = messages;
    waiting = agrees.waiting;
    told = λ h among. held_heard s packet tells (name_of setup.node s.actor h.waiting) h (agrees.told h among);
    tickets = agrees.tickets;
    given = agrees.given;
    listed = agrees.listed;
    ascends = agrees.ascends;
    placed = agrees.placed;
    voted = λ slot vote voted. stands_heard setup s packet slot vote.chain (agrees.voted slot vote voted);
    coherent = coherent_heard setup.node s.actor packet fits agrees.coherent;
  }

  -- of one message something else is kept
  pub agrees_with : (id : ℕ) (m : Message) → IsMessage setup (received s packet) id m →
      ((other : ℕ) → (other ≡ id → ⊥) → IsMessage setup (received s packet) other (message_at k other)) → Agrees setup (with_message k id m) (received s packet)
  agrees_with id m here others = record {
    up = agrees.up;
    incarnation = agrees.incarnation;
    clock = agrees.clock;
    serial = agrees.serial;
    ticket = agrees.ticket;
    records = agrees.records;
    message = each_with (λ other it. IsMessage setup (received s packet) other it) k id m here others;
    waiting = agrees.waiting;
    told = λ h among. held_heard s packet tells (name_of setup.node s.actor h.waiting) h (agrees.told h among);
    tickets = agrees.tickets;
    given = agrees.given;
    listed = λ slot vote voted. listed_with k.messages id m slot.id (agrees.listed slot vote voted);
    ascends = still_ascends k.messages id m agrees.ascends;
    placed = agrees.placed;
    voted = λ slot vote voted. stands_heard setup s packet slot vote.chain (agrees.voted slot vote voted);
    coherent = coherent_heard setup.node s.actor packet fits agrees.coherent;
  }
