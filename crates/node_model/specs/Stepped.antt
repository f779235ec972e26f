-- A step of a node.
use Rattle.std.specs.Prelude.{ℕ, suc, ◌+◌, Bool, true, false, List, [], map, Some, if◌then◌else◌}
use Rattle.std.specs.Map.{keys_of}
use Rattle.mc_model.specs.synod.Packet.{Ask, Packet, Prepare, Promise, Propose, Refused, Tell, Voted}
use Rattle.mc_model.specs.synod.Acceptor.{Records, blank}
use Rattle.mc_model.specs.node.Actor.{opening_clock}
use Rattle.mc_model.specs.node.Input.{Arrival, Crash, Delivery, Grant, Input, Refusal, Response, Restart, Tick}
use Rattle.mc_model.specs.node.Setup.{Setup}
use Rattle.node_model.specs.Message.{unseen}
use Rattle.node_model.specs.Kept.{Kept, saved}
use Rattle.node_model.specs.Recorded.{recorded_in}
use Rattle.node_model.specs.Acceptor.{prepare_judged, propose_judged}
use Rattle.node_model.specs.Outputs.{Stepped, leaves, nothing}
use Rattle.node_model.specs.Packets.{is_member, on_packet}
use Rattle.node_model.specs.Ticks.{on_arrival, on_tick}
use Rattle.node_model.specs.Attempts.{on_grant, on_response}

-- A node that starts over records, of messages with these ids, in an incarnation, with the serial of its first message.
abbrev pub opened_over : Records → List ℕ → ℕ → ℕ → Kept
opened_over records ids incarnation serial = record {
  records = records;
  up = true;
  incarnation = incarnation;
  clock = opening_clock;
  serial = serial;
  ticket = 1;
  held = [];
  messages = map (λ id. (id, unseen)) ids;
}

-- a node with a new store
abbrev pub opened_new : Setup → Kept
opened_new setup = opened_over (λ slot. blank) [] 1 setup.first_serial

-- all but its records is lost
abbrev pub restarted : Setup → Kept → ℕ → Kept
restarted setup k lost = opened_over k.records (recorded_in k.records (keys_of k.messages)) (suc (k.incarnation + lost)) setup.first_serial

-- what a packet leaves, if the node stops once it has saved
abbrev pub saved_by : Setup → Kept → Packet → Kept
saved_by setup k (Prepare sender slot ballot) = saved k slot (prepare_judged setup.node slot ballot (k.records slot)).after
saved_by setup k (Propose sender slot vote) = saved k slot (propose_judged setup.node slot vote (k.records slot)).after
saved_by setup k packet = k

abbrev pub sender_of : Packet → ℕ
sender_of (Prepare sender slot ballot) = sender
sender_of (Promise sender slot ballot report) = sender
sender_of (Propose sender slot vote) = sender
sender_of (Voted sender slot vote) = sender
sender_of (Refused sender slot ballot promised) = sender
sender_of (Ask sender id name) = sender
sender_of (Tell sender name told) = sender

-- it stops before the save, or after it
abbrev pub stopped : Setup → Kept → Packet → Bool → Kept
stopped setup k packet false = record k { up = false }
stopped setup k packet true =
    if is_member setup (sender_of packet) then record (saved_by setup k packet) { up = false } else record k { up = false }

abbrev pub refused_with : Kept → ℕ → Stepped
refused_with k status = record { kept = k; outputs = record nothing { refused = Some status } }

-- of a node that is up
abbrev pub stepped_up : Setup → Kept → Input → Stepped
stepped_up setup k (Delivery packet) = on_packet setup k packet
stepped_up setup k (Crash packet after) = leaves (stopped setup k packet after)
stepped_up setup k (Arrival request) = on_arrival setup k request
stepped_up setup k (Refusal status) = refused_with k status
stepped_up setup k (Tick moment reach) = on_tick setup k moment reach
stepped_up setup k (Grant slot) = on_grant k slot
stepped_up setup k (Response slot outcome) = on_response setup k slot outcome
stepped_up setup k (Restart lost) = leaves (restarted setup k lost)

-- a node that is down may only start anew, and does nothing else
abbrev pub stepped_down : Setup → Kept → Input → Stepped
stepped_down setup k (Restart lost) = leaves (restarted setup k lost)
stepped_down setup k input = leaves k

abbrev pub stepped : Setup → Kept → Input → Stepped
stepped setup k input = if k.up then stepped_up setup k input else stepped_down setup k input
