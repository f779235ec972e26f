-- What is told to a request that waits.
use Rattle.std.specs.Prelude.{◌≡◌, ℕ, Bool, ◌==◌, not, List, [], ◌∷◌, filter, map, Option, Some, None, if◌then◌else◌}
use Rattle.std.specs.Global.{Vec}
use Rattle.mc_model.specs.message.Decree.{Decree}
use Rattle.mc_model.specs.synod.Packet.{Name}
use Rattle.mc_model.specs.node.Replies.{Answer}
use Rattle.mc_model.specs.node.Setup.{Setup}
use Rattle.node_model.specs.Answers.{answer_to, replied}
use Rattle.node_model.specs.Kept.{Held, Kept}
use Rattle.node_model.specs.Outputs.{Stepped, sends}
use Rattle.node_model.specs.Packets.{is_own_name}
use Rattle.node_model.specs.Proposer.{Prepared, Start}
use Rattle.node_model.specs.Requests.{held_at, id_of, ticket_of, with_held}
use Rattle.node_model.specs.Starts.{delete_for, follow_told}
use Rattle.waiting_requests.specs.Replying.{reply_given}
use Rattle.waiting_requests.specs.Waiting.{Waits}
use Rattle.waiting_requests.specs.declared.answer.Reply.{Reply}
use Rattle.node_kept.specs.declared.queue_change.QueueChange.{QueueChange}
use Rattle.node_kept.specs.Queueing.{HasPlace, requeued}

-- the request that waits for what is told under a name
abbrev pub asked_by : Setup → Kept → Name → Option Held
asked_by setup k name = if is_own_name setup k name then held_at k.held name.ticket else None

-- for which chain a round starts, if a request is settled by this, or is not
abbrev pub next_told : Setup → Kept → Bool → Option (List Decree) → Held → Option Start
next_told setup k settles known h = if settles then delete_for setup k (id_of h) (h ∷ []) known else follow_told setup.nodes known h

-- a round that starts, and nothing else
abbrev pub started_alone : Prepared → Stepped
started_alone prepared = sends prepared.kept prepared.packets [] []

-- the requests that wait once one has this answer, or none
abbrev pub left_by : Option Answer → Held → List Held → List Held
left_by None h held = with_held held h
left_by (Some answer) h held = filter (λ other. not (ticket_of other == ticket_of h)) held

pub record IsVerdict (nodes : ℕ) (known : Option (List Decree)) (h : Held) (verdict : Vec Reply × QueueChange) : Type 0 where
  pub replies : map reply_given verdict.0.items ≡ replied h (answer_to nodes known h) []
  pub leaves : (of : ℕ) (held : List Held) → requeued of held verdict.1 ≡ left_by (answer_to nodes known h) h held
  pub place : (waits : List Waits) → HasPlace waits verdict.1
