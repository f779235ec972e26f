-- What a tick makes of one message.
use Rattle.std.specs.Prelude.{◌≡◌, ℕ, pred, Bool, true, false, List, [], Option, Some, None, option_map, if◌then◌else◌}
use Rattle.mc_model.specs.synod.Packet.{slot_at}
use Rattle.mc_model.specs.node.FirstRule.{Announce, Close, Delete, Expire, Follow, GiveUp, Lose, Rule, Take, Try, Undeliver}
use Rattle.mc_model.specs.node.Setup.{Setup}
use Rattle.node_model.specs.Kept.{Held, Kept, message_at, with_message}
use Rattle.node_model.specs.Proposer.{Prepared, Start}
use Rattle.node_model.specs.Rules.{Fitting}
use Rattle.waiting_requests.specs.Submits.{AreNumberedBy}
use Rattle.tick_rules.specs.Standpoints.{start_of}
use Rattle.tick_rules.specs.declared.standpoint.Standpoint.{Standpoint}
use Rattle.synod_acceptor.specs.Packets.{packet_of}
use Rattle.synod_acceptor.specs.Records.{record_at}
use Rattle.node_parts.specs.declared.message.Message.{Message as Filed}
use Rattle.node_parts.specs.declared.ruling.Ruling.{Ruling}
use Rattle.node_parts.specs.declared.turn.Turn.{Turn}
use Rattle.node_parts.specs.Lists.{listed}
use Rattle.node_parts.specs.Messages.{IsOfSame, message_of, rested}

-- A node at this standpoint, at which these requests wait, that keeps this of a message, of which no round runs.
pub record IsAtRest (setup : Setup) (k : Kept) (held : List Held) (id : ℕ) (m : Filed) (s : Standpoint) : Type 0 where
  pub node : s.author.node ≡ setup.node
  pub incarnation : s.author.incarnation ≡ k.incarnation
  pub clock : s.clock ≡ k.clock
  pub waits : k.held ≡ held
  pub numbered : AreNumberedBy setup.node k.incarnation held
  pub message : message_at k id ≡ message_of id (rested m)
  pub records : (place : ℕ) → record_at m.acceptor (slot_at id place) ≡ k.records (slot_at id place)

-- of a rule only this counts: the place of an attempt that is given up, if one is, and the round that starts
abbrev pub gives_up : Rule → Bool
gives_up Take = false
gives_up Follow = false
gives_up Close = false
gives_up Lose = false
gives_up GiveUp = true
gives_up Delete = false
gives_up Expire = false
gives_up Undeliver = false
gives_up Try = false
gives_up Announce = false

abbrev pub ruled_by : Fitting → Option ℕ × Start
ruled_by fit = ((if gives_up fit.rule then Some (pred fit.start.place) else None), fit.start)

abbrev pub ruled_as : Ruling → Option ℕ × Start
ruled_as r = (r.given_up, start_of r.chain)

-- ---- what it leaves of a message and sends, if it is not the same

abbrev pub turned : Kept → ℕ → Option Turn → Prepared
turned k id None = record { kept = k; packets = [] }
turned k id (Some turn) = record { kept = with_message k id (message_of id turn.message); packets = listed (option_map packet_of turn.packet) }

abbrev pub IsOfTurn : ℕ → Filed → Option Turn → Type 0
IsOfTurn id m None = Unit {0}
IsOfTurn id m (Some turn) = IsOfSame id m turn.message
