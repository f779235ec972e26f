-- What the code keeps of a message, as the node's model says it.
use Rattle.std.specs.Prelude.{◌≡◌, ℕ, suc, Bool, true, ◌==◌, ◌&&◌, not, is_some, nat_lt, List, Option, Some, None, option_map, if◌then◌else◌}
use Rattle.mc_model.specs.synod.OneSlot.{Vote}
use Rattle.mc_model.specs.message.Chain.{Chain}
use Rattle.mc_model.specs.message.Ids.{IsId}
use Rattle.mc_model.specs.message.Decree.{Decree}
use Rattle.mc_model.specs.synod.Ballot.{ballot_of}
use Rattle.mc_model.specs.synod.Packet.{Packet, Prepare, Slot, slot_at, slot_of}
use Rattle.mc_model.specs.synod.Acceptor.{Records, with_record}
use Rattle.mc_model.specs.node.Outcome.{Outcome}
use Rattle.node_model.specs.Acceptor.{Judgement}
use Rattle.node_model.specs.Attempts.{concluded}
use Rattle.node_model.specs.Learner.{heard, makes_known}
use Rattle.node_model.specs.Message.{Message}
use Rattle.node_model.specs.Proposer.{Start, highest_round, last_round, refused, runs_at, started_at}
use Rattle.synod_acceptor.specs.declared.acceptor.Verdict.{Verdict}
use Rattle.synod_acceptor.specs.declared.packet.Packet.{Packet as Sent}
use Rattle.synod_acceptor.specs.declared.record.Change.{Change}
use Rattle.synod_acceptor.specs.Packets.{packet_of}
use Rattle.synod_acceptor.specs.Records.{record_at}
use Rattle.synod_acceptor.specs.Verdicts.{Changes}
use Rattle.synod_acceptor.specs.Votes.{record_of, slot_recorded, vote_of}
use Rattle.synod_acceptor.specs.declared.vote.Vote.{Vote as Cast}
use Rattle.synod_learner.specs.Hearing.{known_if, message_in}
use Rattle.synod_proposer.specs.Proposing.{counted_in, is_own, message_of as message_proposed, proposed_in}
use Rattle.tick_rules.specs.Standpoints.{kept_of, setup_of}
use Rattle.tick_rules.specs.declared.standpoint.Standpoint.{Standpoint}
use Rattle.node_parts.specs.declared.message.Message.{Message as Filed}
use Rattle.node_parts.specs.Attempting.{IsBacked, closed_in, granted_in}

-- The votes and the known chain are those of its learner, the round and the rounds that were seen those of its proposer.
abbrev pub message_of : ℕ → Filed → Message
message_of id m = record {
  votes = (message_in m.learner id).votes;
  known = (message_in m.learner id).known;
  round = (message_proposed m.proposer).round;
  seen = (message_proposed m.proposer).seen;
  granted = granted_in m.attempts;
  closed = closed_in m.attempts;
}

-- ---- the rounds that it starts

-- the number that a round would have, and whether one may start: none runs, and the number is not past the last
abbrev pub next_round : Records → Message → Slot → ℕ
next_round records m slot = suc (highest_round records m slot)

abbrev pub may_start : Records → Message → Slot → Bool
may_start records m slot = not (is_some m.round) && nat_lt (highest_round records m slot) last_round

-- what is kept of a message for which a node after so many starts starts a round, if it may, and the Prepare of it
abbrev pub with_round : ℕ → ℕ → Records → Message → Slot → List Decree → Message
with_round me starts records m slot chain =
    if may_start records m slot
    then started_at m slot (next_round records m slot) (ballot_of (next_round records m slot) starts me) chain
    else m

abbrev pub prepare_for : ℕ → ℕ → Records → Message → Slot → Option Packet
prepare_for me starts records m slot =
    if may_start records m slot
    then Some (Prepare me slot (ballot_of (next_round records m slot) starts me))
    else None

-- ---- whose it is

-- it is kept of the message of this id by this node after so many starts, in a cluster of so many nodes
pub record IsOf (me starts nodes id : ℕ) (m : Filed) : Type 0 where
  pub learner : m.learner.nodes ≡ nodes
  pub node : m.proposer.node ≡ me
  pub incarnation : m.proposer.incarnation ≡ starts
  pub proposer : m.proposer.nodes ≡ nodes
  pub named : IsId id
  pub backed : (place : ℕ) → granted_in m.attempts place ≡ true → IsBacked me starts place (message_of id m).known

-- it is another of the same node
pub record IsOfSame (id : ℕ) (old new : Filed) : Type 0 where
  pub acceptor : new.acceptor ≡ old.acceptor
  pub of : (me starts nodes : ℕ) → IsOf me starts nodes id old → IsOf me starts nodes id new

-- ---- what is done with it

-- no round of it runs
abbrev pub rested : Filed → Filed
rested m = record m { proposer = record m.proposer { round = None } }

-- each message, without the round that ran
abbrev pub rested_entry : ℕ × Filed → ℕ × Filed
rested_entry entry = (entry.0, rested entry.1)

-- A promise is counted, and the Propose is given that it leads to, if a round of its slot runs at its ballot.
pub record IsPromised (old : Filed) (sender ballot : ℕ) (slot : Slot) (report : Option Vote) (new : Filed) (packet : Option Sent) : Type 0 where
  pub same : (id : ℕ) → IsOfSame id old new
  pub message : (id : ℕ) → runs_at (message_of id old).round slot ballot ≡ true → message_of id new ≡ counted_in (message_of id old) sender report
  pub proposes : (id : ℕ) → runs_at (message_of id old).round slot ballot ≡ true →
      option_map packet_of packet ≡ proposed_in old.proposer.node old.proposer.nodes (message_of id old).round sender report

-- A refusal of a ballot of its own is taken in.
pub record IsRefused (old : Filed) (slot : Slot) (ballot promised : ℕ) (new : Filed) : Type 0 where
  pub same : (id : ℕ) → IsOfSame id old new
  pub message : (id : ℕ) → is_own old.proposer ballot ≡ true → message_of id new ≡ refused (message_of id old) slot ballot promised

-- A vote is counted; its chain is known from then on, or not.
pub record IsHeard (old : Filed) (sender : ℕ) (vote : Cast) (new : Filed) (grows : Bool) : Type 0 where
  pub same : IsOfSame vote.chain.id old new
  pub decides : grows ≡ makes_known old.learner.nodes (heard (message_of vote.chain.id old) sender (vote_of vote)) (vote_of vote)
  pub message : message_of vote.chain.id new ≡ known_if grows (heard (message_of vote.chain.id old) sender (vote_of vote)) vote.chain.decrees

-- A round starts for a chain, if it may.
pub record IsStarted (old : Filed) (chain : Chain) (new : Filed) (packet : Option Sent) : Type 0 where
  pub same : IsOfSame chain.id old new
  pub message : message_of chain.id new
      ≡ with_round old.proposer.node old.proposer.incarnation (record_at old.acceptor) (message_of chain.id old) (slot_of chain.id chain.decrees) chain.decrees
  pub prepares : option_map packet_of packet
      ≡ prepare_for old.proposer.node old.proposer.incarnation (record_at old.acceptor) (message_of chain.id old) (slot_of chain.id chain.decrees)

-- a round starts for a chain at a place, if there is one and it may
abbrev pub with_start : ℕ → ℕ → Records → Message → ℕ → Option Start → Message
with_start me starts records m id None = m
with_start me starts records m id (Some start) = with_round me starts records m (slot_at id start.place) start.chain

abbrev pub prepare_from : ℕ → ℕ → Records → Message → ℕ → Option Start → Option Packet
prepare_from me starts records m id None = None
prepare_from me starts records m id (Some start) = prepare_for me starts records m (slot_at id start.place)

-- A round starts for a chain at a place, if there is one and it may.
pub record IsStartedFor (old : Filed) (id : ℕ) (start : Option Start) (new : Filed) (packet : Option Sent) : Type 0 where
  pub same : IsOfSame id old new
  pub message : message_of id new
      ≡ with_start old.proposer.node old.proposer.incarnation (record_at old.acceptor) (message_of id old) id start
  pub prepares : option_map packet_of packet
      ≡ prepare_from old.proposer.node old.proposer.incarnation (record_at old.acceptor) (message_of id old) id start

-- The attempt at a place is granted, or closed, and nothing else changes.
abbrev pub granted_at : Message → ℕ → Message
granted_at m place = record m { granted = λ other. if other == place then true else m.granted other }

abbrev pub closed_at : Message → ℕ → Outcome → Message
closed_at m place outcome = record m { closed = λ other. if other == place then Some outcome else m.closed other }

pub record IsTriedSo (old : Filed) (change : Message → Message) (new : Filed) : Type 0 where
  pub acceptor : new.acceptor ≡ old.acceptor
  pub learner : new.learner ≡ old.learner
  pub proposer : new.proposer ≡ old.proposer
  pub message : (id : ℕ) → message_of id new ≡ change (message_of id old)

-- An attempt is closed with what came of it, and a round starts for its decree, if that is due.
pub record IsConcluded (s : Standpoint) (old : Filed) (slot : Slot) (outcome : Outcome) (new : Filed) (packet : Option Sent) : Type 0 where
  pub same : IsOfSame slot.id old new
  pub message : message_of slot.id new
      ≡ with_start old.proposer.node old.proposer.incarnation (record_at old.acceptor) (closed_at (message_of slot.id old) slot.place outcome) slot.id
      (concluded (setup_of s) (kept_of s) slot outcome (message_of slot.id old).known)
  pub prepares : option_map packet_of packet
      ≡ prepare_from old.proposer.node old.proposer.incarnation (record_at old.acceptor) (closed_at (message_of slot.id old) slot.place outcome) slot.id
      (concluded (setup_of s) (kept_of s) slot outcome (message_of slot.id old).known)

-- the records after a change, if there is one
abbrev pub changed_by : Option Change → Records → Records
changed_by None records = records
changed_by (Some change) records = with_record records (slot_recorded change.after) (record_of change.after)

-- The acceptor answers as it is judged, and the change that is to be made leaves the record that is judged.
pub record IsJudged (m : Filed) (slot : Slot) (judged : Judgement) (verdict : Verdict) : Type 0 where
  pub answer : packet_of verdict.answer ≡ judged.answer
  pub change : Changes slot (record_at m.acceptor slot) judged.after verdict.change
