-- No delivery moves the clock of a node.
use Rattle.std.proofs.Common.{◌≡◌, ℕ, zero, suc, Bool, true, false, cond, List, [], ◌∷◌, map, Option, Some, None, refl, ◌∙◌}
use Rattle.mc_model.specs.synod.OneSlot.{Vote}
use Rattle.mc_model.specs.synod.Packet.{Ask, Packet, Prepare, Promise, Propose, Refused, Slot, Tell, TopVote, Voted, slot_at}
use Rattle.mc_model.specs.node.Input.{Delivery}
use Rattle.mc_model.specs.node.Replies.{Answer}
use Rattle.mc_model.specs.node.Setup.{Setup}
use Rattle.node_model.specs.Answers.{answer_to}
use Rattle.node_model.specs.Kept.{Held, Kept, message_at, with_message}
use Rattle.node_model.specs.Learner.{heard, makes_known}
use Rattle.node_model.specs.Message.{Message, Round}
use Rattle.node_model.specs.Outputs.{Stepped, leaves}
use Rattle.node_model.specs.Packets.{answer_told, heard_in, if_member, is_member, is_own_name, known_then, on_ask, on_known, on_packet, start_known}
use Rattle.node_model.specs.Packets.{on_prepare, on_promise, on_propose, on_refused, on_tell, on_voted, promised_in, settled_for}
use Rattle.node_model.specs.Packets.{start_told, tell_held, tells_about, told_to, vote_concerns}
use Rattle.node_model.specs.Proposer.{Prepared, Start, is_free, is_own_ballot, prepared_at, runs_at, started}
use Rattle.node_model.specs.Requests.{held_at, id_of, settled_by, told_by, with_held}
use Rattle.node_model.specs.Stepped.{stepped}
use Rattle.table_laws.specs.Settling.{Settling, delivered, first_delivered}

abbrev IsUnmoved : Kept → Stepped → Type 0
IsUnmoved k step = step.kept.clock ≡ k.clock

-- one of two steps
either : (k : Kept) (test : Bool) (one other : Stepped) → IsUnmoved k one → IsUnmoved k other → IsUnmoved k (cond test one other)
either k true one other first second = first
either k false one other first second = second

started_unmoved : (setup : Setup) (k : Kept) (id : ℕ) (start : Option Start) → (started setup k id start).kept.clock ≡ k.clock
started_unmoved setup k id None = refl
started_unmoved setup k id (Some start) = by_test (is_free k (slot_at id start.place)) _
  where
    by_test : (free : Bool) (number : ℕ) →
        (cond {A = Prepared} free (prepared_at setup k (slot_at id start.place) number start.chain) (record { kept = k; packets = [] })).kept.clock ≡ k.clock
    by_test true number = refl
    by_test false number = refl

module _ (setup : Setup) (k : Kept) where
  promised_unmoved : (m : Message) (round : Option Round) (sender : ℕ) (slot : Slot) (ballot : ℕ) (report : Option Vote) →
      IsUnmoved k (promised_in setup k m round sender slot ballot report)
  promised_unmoved m None sender slot ballot report = refl
  promised_unmoved m (Some r) sender slot ballot report = either k (runs_at (Some r) slot ballot) _ (leaves k) refl refl

  voted_unmoved : (slot : Slot) (m : Message) (vote : Vote) → IsUnmoved k (heard_in setup k slot.id m vote)
  voted_unmoved slot m vote =
      let known : Kept = record (with_message k slot.id (known_then m vote.chain)) { held = map (settled_for setup.nodes slot.id vote.chain) k.held } in
      either k (makes_known setup.nodes m vote) (on_known setup k slot.id m vote.chain) (leaves (with_message k slot.id m))
      (started_unmoved setup known slot.id (start_known setup known slot.id m.known vote.chain)) refl

  answered_unmoved : (prepared : Prepared) (new : Held) (answer : Option Answer) → prepared.kept.clock ≡ k.clock → IsUnmoved k (answer_told prepared new answer)
  answered_unmoved prepared new None is = is
  answered_unmoved prepared new (Some answer) is = is

  held_unmoved : (teller : ℕ) (told : Option TopVote) (held : Option Held) → IsUnmoved k (tell_held setup k teller told held)
  held_unmoved teller told None = refl
  held_unmoved teller told (Some h) =
      let known = (message_at k (id_of h)).known in
      let heard = told_by h teller told in
      let new = settled_by setup.nodes known heard in
      let waiting : Kept = record k { held = with_held k.held new } in
      let start = start_told setup k known heard new in
      either k (tells_about told (id_of h)) (told_to setup k known heard) (leaves k)
      (answered_unmoved (started setup waiting (id_of new) start) new (answer_to setup.nodes known new) (started_unmoved setup waiting (id_of new) start)) refl

  member : (sender : ℕ) (step : Stepped) → IsUnmoved k step → IsUnmoved k (if_member setup k sender step)
  member sender step is = either k (is_member setup sender) step (leaves k) is refl

  packet_unmoved : (packet : Packet) → IsUnmoved k (on_packet setup k packet)
  packet_unmoved (Prepare sender slot ballot) = member sender (on_prepare setup k slot ballot) refl
  packet_unmoved (Promise sender slot ballot report) =
      member sender (on_promise setup k sender slot ballot report)
      (promised_unmoved (message_at k slot.id) (message_at k slot.id).round sender slot ballot report)
  packet_unmoved (Propose sender slot vote) = member sender (on_propose setup k slot vote) refl
  packet_unmoved (Voted sender slot vote) =
      member sender _
      (either k (vote_concerns setup k slot vote) (on_voted setup k sender slot vote) (leaves k)
      (voted_unmoved slot (heard (message_at k slot.id) sender vote) vote) refl)
  packet_unmoved (Refused sender slot ballot promised) =
      member sender (on_refused setup k slot ballot promised) (either k (is_own_ballot setup k ballot) _ (leaves k) refl refl)
  packet_unmoved (Ask sender id name) = member sender (on_ask setup k id name) refl
  packet_unmoved (Tell sender name told) =
      member sender (on_tell setup k sender name told)
      (either k (is_own_name setup k name) _ (leaves k) (held_unmoved sender told (held_at k.held name.ticket)) refl)

  pub delivery_unmoved : (packet : Packet) → (stepped setup k (Delivery packet)).kept.clock ≡ k.clock
  delivery_unmoved packet = either k k.up (on_packet setup k packet) (leaves k) (packet_unmoved packet) refl

pub delivered_unmoved : (setup : Setup) (n : ℕ) (s : Settling) → (delivered setup n s).kept.clock ≡ s.kept.clock
delivered_unmoved setup zero s = refl
delivered_unmoved setup (suc n) s = delivered_unmoved setup n (first_delivered setup s s.packets) ∙ by_packets s.packets
  where
    by_packets : (packets : List Packet) → (first_delivered setup s packets).kept.clock ≡ s.kept.clock
    by_packets [] = refl
    by_packets (packet ∷ others) = delivery_unmoved setup s.kept packet
