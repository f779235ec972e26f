-- What an act of a node of a script leaves of the node is what its inputs leave, one step after the other.
use Rattle.std.specs.Prelude.{nat_lt, is_none}
use Rattle.std.specs.Map.{remove_entry}
use Rattle.std.specs.Ordering.{nat_cmp}
use Rattle.std.specs.BTreeMap.{is_at}
use Rattle.std.proofs.Common.{◌≡◌, ℕ, Bool, true, false, cond, List, [], ◌∷◌, ◌++◌, Option, Some, None, Result, Ok, Err, refl, sym, subst}
use Rattle.sessions.specs.Session.{Session}
use Rattle.sessions.specs.States.{is_gone}
use Rattle.sessions.specs.Steps.{Done, on_fault, on_pdu, on_wrong_length}
use Rattle.sessions.specs.Responses.{requested_by}
use Rattle.sessions.specs.declared.pushed.Delivery.{Delivery as Pushing}
use Rattle.sessions.specs.declared.pushed.Delivery.TheVariants as deliveries
use Rattle.sessions.specs.declared.pushed.Pushed.{Pushed}
use Rattle.sessions.specs.declared.reaction.Reaction.{Reaction}
use Rattle.sessions.specs.declared.reaction.Reaction.TheVariants as reactions
use Rattle.sessions.specs.declared.requested.Requested.{Requested}
use Rattle.pdu_tables.specs.CommandCodes.{command_of}
use Rattle.pdu_codec.specs.Grammar.{word_at}
use Rattle.pdu_codec.specs.Pdu.{read_pdu}
use Rattle.pdu_fields.specs.declared.fault.PduFault.{PduFault}
use Rattle.pdu_bodies.specs.declared.pdu.Pdu.{Pdu}
use Rattle.pdu_frames.specs.Frames.{Cut, cut, begins_wrong}
use Rattle.mc_model.specs.message.Submission.{Submission}
use Rattle.mc_model.specs.synod.Packet.{Packet, Slot}
use Rattle.mc_model.specs.node.Grant.{GrantRefusal}
use Rattle.mc_model.specs.node.Input.{Delivery, Grant as Asks, Input, Response, Restart as StartsAnew}
use Rattle.mc_model.specs.node.Outcome.{Outcome}
use Rattle.node_model.specs.Attempts.{grant_refusal}
use Rattle.node_model.specs.Granted.{is_open, known_slot}
use Rattle.desk.specs.declared.request.Request.{Request}
use Rattle.script_text.specs.Left.{followed_by, rests}
use Rattle.script_text.specs.Settings.{Settings}
use Rattle.script_text.specs.Node.{Node, request_at, step_at, tick_at, with_step}
use Rattle.script_text.specs.Pushes.{accounts_up, is_long, overdue_in, session_at, target_in}
use Rattle.script_text.specs.Attempts.{Went, all_given_up, concluded, delivered_so, given_up, submission_at, unanswered, went}
use Rattle.script_text.specs.Runner.{Runner, Acted, Served, Came, answered_by, came_by, declined, ends, gives_up}
use Rattle.script_text.specs.Runner.{granted, granted_unless, held_in, holds, last_incarnation, makes_room}
use Rattle.script_text.specs.Runner.{no_incarnation, nothing_came, on_delivery, on_done, on_frame, on_frames, on_grant, on_octets}
use Rattle.script_text.specs.Runner.{on_reaction, on_read, on_request, on_rest, on_restart, on_tick, opened_at, posts}
use Rattle.script_text.specs.Runner.{posts_for, posts_for_all, pushes, put_at, restarted, sent, sent_to, served_at, serves}
use Rattle.script_text.specs.Runner.{session_in, ticked, with_session}

-- A fact of a node, of what comes to it and of the node then, which holds of each step and of one after the other.
pub record IsGoing (Goes : Node → List Input → Node → Type 0) : Type 0 where
  pub nowhere : (node : Node) → Goes node [] node
  pub once : (node : Node) (input : Input) → Goes node (input ∷ []) (with_step node (step_at node input))
  pub further : (first middle last : Node) (inputs later : List Input) → Goes first inputs middle → Goes middle later last → Goes first (inputs ++ later) last

module _ (Goes : Node → List Input → Node → Type 0) (going : IsGoing Goes) where
  -- ---- by what came of attempts

  abbrev WentGoes : Node → Went → Type 0
  WentGoes node went = Goes node went.inputs went.next

  concluded_goes : (node : Node) (slot : Slot) (outcome : Outcome) → WentGoes node (concluded node slot outcome)
  concluded_goes node slot outcome = by_test (is_open node.kept slot)
    where
      by_test : (open_there : Bool) → WentGoes node (cond {A = Went} open_there (went node (Response slot outcome)) (rests node))
      by_test true = going.once node (Response slot outcome)
      by_test false = going.nowhere node

  delivered_goes : (node : Node) (delivery : Pushing) (outcome : Option Outcome) → WentGoes node (delivered_so node delivery outcome)
  delivered_goes node (deliveries.Attempt slot) (Some outcome) = concluded_goes node slot outcome
  delivered_goes node (deliveries.Attempt slot) None = going.nowhere node
  delivered_goes node (deliveries.Receipt id) outcome = going.nowhere node

  all_go : (node : Node) (pushed : List Pushed) → WentGoes node (all_given_up node pushed)
  unfolding all_given_up
  all_go node [] = going.nowhere node
  all_go node (first ∷ others) =
      let one = given_up node first in
      let last = all_given_up one.next others in
      going.further node one.next last.next one.inputs last.inputs (delivered_goes node first.delivery (Some unanswered)) (all_go one.next others)

  -- ---- by what comes on a session

  abbrev ServedGoes : Node → Served → Type 0
  ServedGoes node served = Goes node served.inputs served.next.node

  request_goes : (number : ℕ) (node : Node) (session : Session) (requested : Requested) (sequence : ℕ) (account : Option (List ℕ))
      (request : Option Request) →
      ServedGoes node (on_request number node session requested sequence account request)
  request_goes number node session requested sequence None request = going.nowhere node
  request_goes number node session requested sequence (Some account) None = going.nowhere node
  request_goes number node session requested sequence (Some account) (Some request) = going.once node (request_at node account request)

  reaction_goes : (settings : Settings) (number : ℕ) (node : Node) (came : Came) (session : Session) (reaction : Reaction) →
      ServedGoes node (on_reaction settings number node came session reaction)
  reaction_goes settings number node came session (reactions.Ask requested) =
      request_goes number node session requested came.sequence session.account came.request
  reaction_goes settings number node came session (reactions.Answered pushed) = delivered_goes node pushed.delivery (came.outcome pushed.sequence)
  reaction_goes settings number node came session (reactions.Leave outgoing abandoned) = all_go node abandoned
  reaction_goes settings number node came session other = going.nowhere node

  done_goes : (settings : Settings) (number : ℕ) (node : Node) (came : Came) (done : Done) → ServedGoes node (on_done settings number node came done)
  done_goes settings number node came done = reaction_goes settings number node came done.next done.reaction

  read_goes : (settings : Settings) (number : ℕ) (node : Node) (session : Session) (octets : List ℕ) (read : Result Pdu PduFault) →
      ServedGoes node (on_read settings number node session octets read)
  read_goes settings number node session octets (Ok pdu) = done_goes settings number node (came_by settings pdu) (on_pdu settings.accounts session pdu)
  read_goes settings number node session octets (Err fault) =
      done_goes settings number node nothing_came (on_fault session fault (requested_by (command_of (word_at 4 octets))) (word_at 12 octets))

  -- ---- by what comes on a session

  abbrev pub ActedGoes : Runner → Acted → Type 0
  ActedGoes runner acted = Goes runner.node acted.inputs acted.next.node

  then_goes : (runner : Runner) (first last : Acted) → ActedGoes runner first → ActedGoes first.next last → ActedGoes runner (followed_by first last)
  then_goes runner first last one other = going.further runner.node first.next.node last.next.node first.inputs last.inputs one other

  served_node : (runner : Runner) (number : ℕ) (node : Node) (session : Session) → (with_session (record runner { node = node }) number session).node ≡ node
  served_node runner number node session = at_test (is_gone session.state)
    where
      at_test : (gone : Bool) → (cond {A = Runner} gone (record runner { node = node; sessions = remove_entry (is_at (nat_cmp number)) runner.sessions })
          (record runner { node = node; sessions = put_at runner.sessions number session })).node ≡ node
      at_test true = refl
      at_test false = refl

  serves_goes : (runner : Runner) (number : ℕ) (served : Served) → ServedGoes runner.node served → ActedGoes runner (serves runner number served)
  serves_goes runner number served goes =
      let first = served_at runner number served in
      then_goes runner first (posts_for first.next served.next.session.account)
      (subst (λ (n : Node). Goes runner.node served.inputs n) (sym (served_node runner number served.next.node served.next.session)) goes)
      (going.nowhere first.next.node)

  frame_goes : (settings : Settings) (number : ℕ) (runner : Runner) (octets : List ℕ) → ActedGoes runner (on_frame settings number runner octets)
  unfolding on_frame
  frame_goes settings number runner octets =
      let session = session_in runner.sessions number in
      serves_goes runner number (on_read settings number runner.node session octets (read_pdu octets))
      (read_goes settings number runner.node session octets (read_pdu octets))

  rest_goes : (settings : Settings) (number : ℕ) (runner : Runner) (rest : List ℕ) → ActedGoes runner (on_rest settings number runner rest)
  rest_goes settings number runner rest = at_test (begins_wrong rest)
    where
      ended : Done
      ended = on_wrong_length (session_in runner.sessions number)

      at_test : (wrong : Bool) → ActedGoes runner (cond {A = Acted} wrong (ends settings number runner) (holds runner number rest))
      at_test true =
          serves_goes runner number (on_done settings number runner.node nothing_came ended) (done_goes settings number runner.node nothing_came ended)
      at_test false = going.nowhere runner.node

  frames_go : (settings : Settings) (number : ℕ) (runner : Runner) (frames : List (List ℕ)) (rest : List ℕ) →
      ActedGoes runner (on_frames settings number runner frames rest)
  unfolding on_frames
  frames_go settings number runner [] rest = rest_goes settings number runner rest
  frames_go settings number runner (frame ∷ frames) rest =
      at_test (is_none (session_at first.next.sessions number)) (frames_go settings number first.next frames rest)
    where
      first : Acted
      first = on_frame settings number runner frame

      later : Acted
      later = on_frames settings number first.next frames rest

      at_test : (gone : Bool) → ActedGoes first.next later → ActedGoes runner (cond {A = Acted} gone first (followed_by first later))
      at_test true others = frame_goes settings number runner frame
      at_test false others = then_goes runner first later (frame_goes settings number runner frame) others

  pub octets_go : (settings : Settings) (runner : Runner) (number : ℕ) (octets : List ℕ) → ActedGoes runner (on_octets settings runner number octets)
  unfolding on_octets
  octets_go settings runner number octets =
      let stream : Cut = cut (held_in runner.streams number ++ octets) in
      frames_go settings number (opened_at runner number) stream.frames stream.rest

  -- ---- by a moment

  gives_up_goes : (runner : Runner) (now : ℕ) → ActedGoes runner (gives_up runner now)
  gives_up_goes runner now = all_go runner.node (overdue_in runner.sessions now)

  pub tick_goes : (runner : Runner) (moment : ℕ) → ActedGoes runner (on_tick runner moment)
  tick_goes runner moment =
      let first = ticked runner moment in
      let up = gives_up first.next first.next.node.kept.clock in
      then_goes runner first (makes_room first.next) (going.once runner.node (tick_at moment (accounts_up runner.sessions)))
      (then_goes first.next up (posts_for_all up.next) (gives_up_goes first.next first.next.node.kept.clock) (going.nowhere up.next.node))

  -- ---- by a grant

  fails_goes : (runner : Runner) (slot : Slot) → ActedGoes runner (sent runner slot None)
  fails_goes runner slot = concluded_goes runner.node slot unanswered

  pushes_goes : (runner : Runner) (slot : Slot) (taken : Submission) (number : ℕ) (session : Option Session) →
      ActedGoes runner (pushes runner slot taken number session)
  pushes_goes runner slot taken number None = going.nowhere runner.node
  pushes_goes runner slot taken number (Some session) = going.nowhere runner.node

  sent_to_goes : (runner : Runner) (slot : Slot) (taken : Submission) (target : Option ℕ) → ActedGoes runner (sent_to runner slot taken target)
  sent_to_goes runner slot taken None = fails_goes runner slot
  sent_to_goes runner slot taken (Some number) = pushes_goes runner slot taken number (session_at runner.sessions number)

  sent_goes : (runner : Runner) (slot : Slot) (taken : Option Submission) → ActedGoes runner (sent runner slot taken)
  sent_goes runner slot None = fails_goes runner slot
  sent_goes runner slot (Some taken) = sent_to_goes runner slot taken (target_in runner.sessions (is_long taken.text) taken.target)

  granted_goes : (runner : Runner) (id : ℕ) (slot : Slot) (refusal : Option GrantRefusal) → ActedGoes runner (granted_unless runner id slot refusal)
  granted_goes runner id slot None =
      let first = granted runner (Asks slot) in
      let last = sent first.next slot (submission_at runner.node id) in
      going.further runner.node first.next.node last.next.node first.inputs last.inputs (going.once runner.node (Asks slot))
      (sent_goes first.next slot (submission_at runner.node id))
  granted_goes runner id slot (Some refusal) = going.nowhere runner.node

  pub grant_goes : (runner : Runner) (id : ℕ) → ActedGoes runner (on_grant runner id)
  grant_goes runner id = granted_goes runner id (known_slot runner.node.kept id) (grant_refusal runner.node.setup runner.node.kept id)

  pub restart_goes : (runner : Runner) → ActedGoes runner (on_restart runner)
  restart_goes runner = by_test (nat_lt runner.node.kept.incarnation last_incarnation)
    where
      by_test : (test : Bool) → ActedGoes runner (cond {A = Acted} test (restarted runner) (declined runner no_incarnation))
      by_test true = going.once runner.node (StartsAnew 0)
      by_test false = going.nowhere runner.node

  pub delivery_goes : (runner : Runner) (packet : Packet) → ActedGoes runner (on_delivery runner packet)
  delivery_goes runner packet =
      let step = step_at runner.node (Delivery packet) in
      let first = answered_by runner runner.node (Delivery packet) step in
      let last = posts first.next step.outputs.receipts in
      going.further runner.node first.next.node last.next.node first.inputs last.inputs (going.once runner.node (Delivery packet))
      (going.nowhere first.next.node)
