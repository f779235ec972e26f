-- What is kept of a message agrees with an actor that has stopped, or at which other requests wait, or other attempts were granted
-- or closed.
use Rattle.std.proofs.Common.{refl, ◌⊎◌, ℕ, Bool, List, Option, Some, None, inl, inr}
use Rattle.mc_model.specs.synod.Lists.{In}
use Rattle.mc_model.specs.synod.Packet.{Slot, slot_at}
use Rattle.mc_model.specs.node.Actor.{Waiting}
use Rattle.mc_model.specs.node.Alone.{Node, StandsAt}
use Rattle.mc_model.specs.node.Outcome.{Outcome}
use Rattle.mc_model.specs.node.Knowledge.{IsLearned}
use Rattle.mc_model.specs.node.Proposal.{IsOwn}
use Rattle.mc_model.specs.node.Setup.{Setup}
use Rattle.node_model.specs.Message.{Message, Round}
use Rattle.node_laws.proofs.invariant.Running.{running_later}
use Rattle.node_laws.proofs.invariant.Seeing.{highest_later}
use Rattle.node_laws.specs.Stands.{CoversGrant, HasAttempts, IsHighestSeen, IsMessage, IsRoundOf}
use Rattle.node_laws.proofs.invariant.Owning.{IsGround, own_later}

module _ (setup : Setup) (s : Node) (up : Bool) (serial ticket : ℕ) (waiting : List Waiting) (granted : List Slot) (closed : List (Slot × Outcome)) where
  abbrev pub changed : Node
  changed = record {
    actor = record s.actor {
      up = up;
      serial = serial;
      ticket = ticket;
      waiting = waiting;
      granted = granted;
      closed = closed;
    };
    records = s.records;
    began = s.began;
  }

  highest_still : (other : Slot) (round : ℕ) → IsHighestSeen setup.node s.actor other round → IsHighestSeen setup.node changed.actor other round
  highest_still other = highest_later setup.node s.actor changed.actor other refl
      (λ sender ballot promised. ((λ heard. heard), (λ heard. heard)))
      (λ ballot. ((λ sent. sent), (λ sent. sent)))

  -- the chain of a round stands in its slot, or is still the node's own if it was
  abbrev pub StaysFree : ℕ → Option Round → Type 0
  StaysFree id None = Unit {0}
  StaysFree id (Some r) = StandsAt s r.slot r.own ⊎ (IsOwn (IsLearned setup.nodes s.actor.received) setup.node s.actor id r.own →
      IsOwn (IsLearned setup.nodes s.actor.received) setup.node changed.actor id r.own)

  free_on : (id : ℕ) → IsGround setup.nodes id s.actor changed.actor → (round : Option Round) → StaysFree id round
  free_on id ground None = tt
  free_on id ground (Some r) = inr (own_later setup.nodes setup.node id s.actor changed.actor ground r.own)

  round_still : (id : ℕ) (round : Option Round) → StaysFree id round → IsRoundOf setup.nodes setup.node s id round →
      IsRoundOf setup.nodes setup.node changed id round
  round_still id None free none = λ other ballot about runs. none other ballot about
      (running_later setup.nodes setup.node changed.actor s.actor other ballot (λ sender promised greater heard. heard) (λ chain knows. knows) refl runs)
  round_still id (Some r) free is = record {
    about = is.about;
    running =
        running_later setup.nodes setup.node s.actor changed.actor r.slot r.ballot (λ sender promised greater heard. heard)
        (λ chain knows. knows) refl is.running;
    promised = is.promised;
    highest = is.highest;
    offered = is.offered;
    free = elim free [
      | inl stands ↦ inl stands
      | inr still ↦ elim is.free [ inl stands ↦ inl stands | inr own ↦ inr (own.0, still own.1) ]
    ];
    behind = is.behind;
    unproposed = is.unproposed;
  }

  -- of which these attempts were granted and closed
  pub message_freed : (id : ℕ) (m : Message) (given : ℕ → Bool) (ended : ℕ → Option Outcome) → StaysFree id m.round → IsMessage setup s id m →
      HasAttempts changed.actor id (record m { granted = given; closed = ended }) →
      ((place : ℕ) → In (slot_at id place) granted → CoversGrant setup.node changed.actor m.known place) →
      IsMessage setup changed id (record m { granted = given; closed = ended })
  message_freed id m given ended free is attempts covers = record {
    heard = record { votes = is.heard.votes; known = is.heard.known };
    places = is.places;
    seen = λ place within. highest_still (slot_at id place) _ (is.seen place within);
    round = round_still id m.round free is.round;
    attempts = attempts;
    covers = covers;
  }

  pub message_changed : (id : ℕ) → IsGround setup.nodes id s.actor changed.actor → (m : Message) (given : ℕ → Bool) (ended : ℕ → Option Outcome) →
      IsMessage setup s id m → HasAttempts changed.actor id (record m { granted = given; closed = ended }) →
      ((place : ℕ) → In (slot_at id place) granted → CoversGrant setup.node changed.actor m.known place) →
      IsMessage setup changed id (record m { granted = given; closed = ended })
  message_changed id ground m given ended = message_freed id m given ended (free_on id ground m.round)
