-- What a tick makes of several messages.
use Rattle.std.specs.Prelude.{◌≡◌, ℕ, List, [], ◌∷◌, ◌++◌, map, Option}
use Rattle.std.specs.Box.{box_value}
use Rattle.mc_model.specs.synod.Lists.{In}
use Rattle.mc_model.specs.synod.Packet.{Slot}
use Rattle.mc_model.specs.node.Reach.{Reach}
use Rattle.mc_model.specs.node.Setup.{Setup}
use Rattle.node_model.specs.Kept.{Kept}
use Rattle.node_model.specs.Rules.{first_rule}
use Rattle.node_model.specs.Ticks.{ruled, ruled_each, ticked}
use Rattle.waiting_requests.specs.Queues.{timely}
use Rattle.waiting_requests.specs.Waiting.{held_in}
use Rattle.tick_rules.specs.declared.standpoint.Standpoint.{Standpoint}
use Rattle.synod_acceptor.specs.Packets.{packet_of}
use Rattle.node_parts.specs.declared.message.Message.{Message as Filed}
use Rattle.node_parts.specs.declared.turn.Turn.{Turn}
use Rattle.node_parts.specs.Lists.{listed}
use Rattle.node_parts.specs.Messages.{IsOf, rested_entry}
use Rattle.node_parts.specs.Turning.{IsAtRest, IsOfTurn, turned}
use Rattle.node_kept.specs.declared.kept.Kept.{Kept as Holding}
use Rattle.node_kept.specs.declared.step.Put.{Put}
use Rattle.node_kept.specs.declared.turn_list.TurnList.{TurnList}
use Rattle.node_kept.specs.Keeping.{AreOf, IsTaken, filed_as, kept_of, records_of}
use Rattle.node_kept.specs.Steps.{entries_after}

-- one more is not the same
pub record IsAdded (old : TurnList) (id : ℕ) (turn : Turn) (new : TurnList) : Type 0 where
  pub put : Put
  pub named : put.id ≡ id
  pub message : box_value put.message ≡ turn.message
  pub messages : new.messages.items ≡ old.messages.items ++ put ∷ []
  pub packets : new.packets.items ≡ old.packets.items ++ listed turn.packet

-- what is kept then: no round runs but those that started
abbrev pub entries_turned : Holding → TurnList → List (ℕ × Filed)
entries_turned k turns = entries_after (map rested_entry k.messages.entries) turns.messages.items

abbrev pub kept_turned : Holding → ℕ → TurnList → Kept
kept_turned k clock turns = record (ticked (kept_of k) clock) { messages = map filed_as (entries_turned k turns) }

abbrev pub ids_turned : TurnList → List ℕ
ids_turned turns = map (λ (put : Put). put.id) turns.messages.items

-- At this clock a tick makes this of the messages of these ids, in their order.
pub record IsTurned (k : Holding) (clock : ℕ) (reach : Reach) (ids : List ℕ) (turns : TurnList) : Type 0 where
  pub made : ruled_each k.setup reach ids (ticked (kept_of k) clock) ≡ record { kept = kept_turned k clock turns; packets = map packet_of turns.packets.items }
  pub saved : (slot : Slot) → records_of (entries_turned k turns) slot ≡ records_of k.messages.entries slot
  pub own : AreOf k.setup k.incarnation (entries_turned k turns)
  pub only : (id : ℕ) → In id (ids_turned turns) → In id ids

-- a tick makes this of the message of one id
pub record IsTurnOf (k : Holding) (id : ℕ) (s : Standpoint) (reach : Reach) (turn : Option Turn) : Type 0 where
  pub from : Filed
  pub taken : IsTaken k id from
  pub same : IsOfTurn id from turn
  pub turned_is : (setup : Setup) (kept : Kept) → IsAtRest setup kept (timely s.clock (held_in k.queue)) id from s →
      IsOf setup.node kept.incarnation setup.nodes id from → turned kept id turn ≡ ruled setup kept id (first_rule setup kept reach id)
