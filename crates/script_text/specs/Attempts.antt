-- What came of attempts, at the node of a script (own).
use Rattle.std.specs.Prelude.{ℕ, List, [], ◌∷◌, Option, Some, None, if◌then◌else◌}
use Rattle.mc_model.specs.message.Chain.{taken_in}
use Rattle.mc_model.specs.message.Decree.{Decree}
use Rattle.mc_model.specs.message.Submission.{Submission}
use Rattle.mc_model.specs.synod.Packet.{Slot}
use Rattle.mc_model.specs.node.Input.{Input, Response}
use Rattle.mc_model.specs.node.Outcome.{Outcome, Unanswered, no_answer_error}
use Rattle.node_model.specs.Granted.{is_open}
use Rattle.node_model.specs.Kept.{message_at}
use Rattle.sessions.specs.declared.pushed.Delivery.{Delivery}
use Rattle.sessions.specs.declared.pushed.Delivery.TheVariants as deliveries
use Rattle.sessions.specs.declared.pushed.Pushed.{Pushed}
use Rattle.script_text.specs.Left.{Left, followed_by, rests}
use Rattle.script_text.specs.Node.{Node, step_at, with_step}
use Rattle.script_text.specs.Prints.{Print}

-- what came to a node, at which nothing is printed
abbrev pub Went : Type 0
Went = Left Node Input Print

abbrev pub went : Node → Input → Went
went node input = record { next = with_step node (step_at node input); inputs = input ∷ []; prints = [] }

-- an attempt that is open has this outcome; of one that is closed nothing comes any more
abbrev pub concluded : Node → Slot → Outcome → Went
concluded node slot outcome = if is_open node.kept slot then went node (Response slot outcome) else rests node

-- nobody answered it
abbrev pub unanswered : Outcome
unanswered = Unanswered no_answer_error

-- what was pushed has this outcome, if it has one
abbrev pub delivered_so : Node → Delivery → Option Outcome → Went
delivered_so node (deliveries.Attempt slot) (Some outcome) = concluded node slot outcome
delivered_so node (deliveries.Attempt slot) None = rests node
delivered_so node (deliveries.Receipt id) outcome = rests node

abbrev pub given_up : Node → Pushed → Went
given_up node pushed = delivered_so node pushed.delivery (Some unanswered)

-- these pushed requests are given up, one after the other
unfoldable pub all_given_up : Node → List Pushed → Went
all_given_up node [] = rests node
all_given_up node (pushed ∷ others) = followed_by (given_up node pushed) (all_given_up (given_up node pushed).next others)

-- ---- an attempt that is granted

abbrev pub taken_on : Option (List Decree) → Option Submission
taken_on None = None
taken_on (Some decrees) = taken_in decrees

-- what was taken of a message, as the node knows it
abbrev pub submission_at : Node → ℕ → Option Submission
submission_at node id = taken_on (message_at node.kept id).known
