-- What is kept agrees with the actor once an attempt is closed.
use Rattle.std.proofs.Common.{◌≡◌, ◌↔◌, ℕ, Bool, true, false, ◌∷◌, Option, Some, refl, sym, ap, subst, inl, inr, arith}
use Rattle.std.specs.Prelude.{◌==◌, if◌then◌else◌}
use Rattle.std.proofs.Common.{eqb-true}
use Rattle.std.proofs.lemmas.Bool.{eqb-false}
use Rattle.mc_model.specs.synod.Lists.{In}
use Rattle.mc_model.specs.synod.Packet.{Slot, slot_at}
use Rattle.mc_model.specs.node.Alone.{Node}
use Rattle.mc_model.specs.node.Outcome.{Outcome}
use Rattle.mc_model.specs.node.Setup.{Setup}
use Rattle.node_model.specs.Attempts.{closed_by}
use Rattle.node_model.specs.Message.{Message}
use Rattle.node_model.specs.Kept.{Kept, message_at}
use Rattle.node_laws.specs.Stands.{Agrees, HasAttempts, IsClosing, IsMessage}
use Rattle.node_laws.proofs.invariant.Coherence.{IsLater, fit_later}
use Rattle.node_laws.proofs.invariant.Messages.{each_with, listed_with}
use Rattle.node_laws.proofs.invariant.Changing.{message_changed}
use Rattle.node_laws.proofs.invariant.Owning.{IsGround}
use Rattle.shelf.proofs.Entries.{still_ascends}

module _ (setup : Setup) (s : Node) (slot : Slot) (outcome : Outcome) where
  abbrev pub closed : Node
  closed = record {
    actor = record s.actor { closed = (slot, outcome) ∷ s.actor.closed };
    records = s.records;
    began = s.began;
  }

  ground : (id : ℕ) → IsGround setup.nodes id s.actor closed.actor
  ground id = record {
    incarnation = refl;
    clock = refl;
    submits = λ w message waits submits. waits;
    cancels = λ w taken waits settled cancels. waits;
    closed = λ other came is_in. inr is_in;
    learned = λ other vote learned. learned;
  }

  with_attempts : (id : ℕ) (m : Message) (given : ℕ → Bool) (ended : ℕ → Option Outcome) → IsMessage setup s id m →
      HasAttempts closed.actor id (record m { granted = given; closed = ended }) →
      IsMessage setup closed id (record m { granted = given; closed = ended })
  with_attempts id m given ended is attempts =
      message_changed setup s s.actor.up s.actor.serial s.actor.ticket s.actor.waiting s.actor.granted ((slot, outcome) ∷ s.actor.closed) id
      (ground id) m given ended is attempts is.covers

  -- ---- another message

  attempts_other : (id : ℕ) (m : Message) → (id ≡ slot.id → ⊥) → HasAttempts s.actor id m → HasAttempts closed.actor id m
  attempts_other id m apart is = record {
    granted = is.granted;
    closed = λ place other. (
      λ t. inr ((is.closed place other).0 t),
      λ is_in. elim is_in [
        | inl same ↦ absurd (apart (ap (λ (x : Slot × Outcome). x.0.id) same))
        | inr before ↦ (is.closed place other).1 before
      ],
    );
  }

  message_other : (id : ℕ) (m : Message) → (id ≡ slot.id → ⊥) → IsMessage setup s id m → IsMessage setup closed id m
  message_other id m apart is = with_attempts id m m.granted m.closed is (attempts_other id m apart is.attempts)

  -- ---- the message itself

  module _ (m : Message) (is : IsMessage setup s slot.id m) (open_yet : (other : Outcome) → In (slot, other) s.actor.closed → ⊥) where
    abbrev now : Message
    now = record m { closed = λ other. if other == slot.place then Some outcome else m.closed other }

    closed_now : (place : ℕ) (other : Outcome) → (now.closed place ≡ Some other) ↔ In (slot_at slot.id place, other) closed.actor.closed
    closed_now place other = by_place (place == slot.place) refl
      where
        slot_is : place ≡ slot.place → slot_at slot.id place ≡ slot
        slot_is same = ap (slot_at slot.id) same

        by_place : (test : Bool) → (place == slot.place) ≡ test →
            ((if test then Some outcome else m.closed place) ≡ Some other) ↔ In (slot_at slot.id place, other) closed.actor.closed
        by_place true same =
            let is_place : place ≡ slot.place = eqb-true place slot.place same in (
              λ t. let outcomes : outcome ≡ other = cc in inl (λ i. (slot_is is_place i, sym outcomes i)),
              λ is_in. elim is_in [
                | inl now ↦ ap (λ (x : Slot × Outcome). Some x.1) (sym now)
                | inr before ↦ absurd (open_yet other (subst (λ (x : Slot). In (x, other) s.actor.closed) (slot_is is_place) before))
              ],
            )
        by_place false differs = (
          λ t. inr ((is.attempts.closed place other).0 t),
          λ is_in. elim is_in [
            | inl now ↦ absurd (eqb-false place slot.place differs (ap (λ (x : Slot × Outcome). x.0.place) now))
            | inr before ↦ (is.attempts.closed place other).1 before
          ],
        )

    message_here : IsMessage setup closed slot.id now
    message_here = with_attempts slot.id m now.granted now.closed is (record { granted = is.attempts.granted; closed = closed_now })

-- ---- the whole

pub closed_agrees : (setup : Setup) (k : Kept) (s : Node) → Agrees setup k s → (slot : Slot) (outcome : Outcome) → IsClosing outcome →
    ((other : Outcome) → In (slot, other) s.actor.closed → ⊥) → Agrees setup (closed_by k slot outcome) (closed setup s slot outcome)
closed_agrees setup k s agrees slot outcome closing open_yet = record {
  up = agrees.up;
  incarnation = agrees.incarnation;
  clock = agrees.clock;
  serial = agrees.serial;
  ticket = agrees.ticket;
  records = agrees.records;
  message =
      each_with (λ id m. IsMessage setup (closed setup s slot outcome) id m) k slot.id
      (now setup s slot outcome (message_at k slot.id) (agrees.message slot.id) open_yet)
      (message_here setup s slot outcome (message_at k slot.id) (agrees.message slot.id) open_yet)
      (λ id apart. message_other setup s slot outcome id (message_at k id) apart (agrees.message id));
  waiting = agrees.waiting;
  told = agrees.told;
  tickets = agrees.tickets;
  given = agrees.given;
  listed = λ other vote voted. listed_with k.messages slot.id _ other.id (agrees.listed other vote voted);
  ascends = still_ascends k.messages slot.id _ agrees.ascends;
  placed = agrees.placed;
  voted = agrees.voted;
  coherent = record {
    life = agrees.coherent.life;
    ticked = agrees.coherent.ticked;
    fits = λ packet came. fit_later setup.node s.actor (closed setup s slot outcome).actor later packet (agrees.coherent.fits packet came);
    own = agrees.coherent.own;
    prepared = agrees.coherent.prepared;
    outcomes = λ other of is_in. elim is_in [
      | inl same ↦ subst IsClosing (ap (λ (x : Slot × Outcome). x.1) (sym same)) closing
      | inr before ↦ agrees.coherent.outcomes other of before
    ];
  };
}
  where
    later : IsLater setup.node s.actor (closed setup s slot outcome).actor
    later = record {
      incarnation = refl;
      sent = λ other ballot sent. sent;
      ticket = omega arith;
      serial = omega arith;
    }
