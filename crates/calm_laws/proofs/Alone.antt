-- A node of a script over one node: it is up, and its packets are its own.
use Rattle.std.proofs.Common.{◌≡◌, ℕ, true, List, [], Result, Ok, Err, subst, ◌∙◌}
use Rattle.mc_model.specs.node.Actor.{Request}
use Rattle.mc_model.specs.node.Input.{Input}
use Rattle.mc_model.specs.synod.Packet.{Packet}
use Rattle.pdu_tables.specs.declared.status.Status.{Status}
use Rattle.desk.specs.Admissions.{admitted}
use Rattle.desk.specs.Arrivals.{door_at, judged_as, next_id}
use Rattle.desk.specs.declared.request.Request.{Request as Asked}
use Rattle.arrival_laws.proofs.Comings.{IsPlain}
use Rattle.arrival_laws.proofs.Stepping.{goes_on}
use Rattle.script_text.specs.Node.{Node, awaiting, request_at, step_at, with_step}
use Rattle.calm_laws.proofs.Sending.{AreSentBy, both_sent, none_sent, sends_own}

-- It is the node 1, it is up, and it sent each packet that is still to come.
pub record IsAlone (node : Node) : Type 0 where
  pub number : node.setup.node ≡ 1
  pub up : node.kept.up ≡ true
  pub own : AreSentBy 1 node.packets

step_own : (node : Node) → IsAlone node → (input : Input) → AreSentBy 1 (with_step node (step_at node input)).packets
step_own node alone input =
    let sent : List Packet = (step_at node input).outputs.packets in
    both_sent 1 node.packets sent alone.own (subst (λ (n : ℕ). AreSentBy n sent) alone.number (sends_own node.setup node.kept input))

pub step_alone : (node : Node) → IsAlone node → (input : Input) → IsPlain input → IsAlone (with_step node (step_at node input))
step_alone node alone input plain = record {
  number = alone.number;
  up = (goes_on node.setup node.kept input alone.up plain).up ∙ alone.up;
  own = step_own node alone input;
}

-- it has the packets of another list to come
pub others_alone : (node : Node) → IsAlone node → (packets : List Packet) → AreSentBy 1 packets → IsAlone (awaiting node packets)
others_alone node alone packets own = record { number = alone.number; up = alone.up; own = own }

pub none_alone : (node : Node) → IsAlone node → IsAlone (awaiting node [])
none_alone node alone = others_alone node alone [] (none_sent 1)

-- a request is no crash
pub request_plain : (node : Node) (account : List ℕ) (request : Asked) → IsPlain (request_at node account request)
request_plain node account request = by_result (admitted (door_at node.setup node.kept) (next_id node.setup node.kept) account request)
  where
    by_result : (result : Result Request Status) → IsPlain (judged_as result)
    by_result (Ok taken) = tt
    by_result (Err status) = tt
