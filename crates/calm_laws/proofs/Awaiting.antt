-- What a runner does is the same if packets wait at its node and if none do: what it sends comes behind those that wait.
use Rattle.std.specs.Prelude.{is_none}
use Rattle.std.specs.Map.{remove_entry}
use Rattle.std.specs.Ordering.{nat_cmp}
use Rattle.std.specs.BTreeMap.{is_at}
use Rattle.std.proofs.Common.{◌≡◌, ℕ, Bool, true, false, cond, List, [], ◌∷◌, ◌++◌, Option, Some, None, Result, Ok, Err, refl, sym, ◌∙◌, ap, subst}
use Rattle.std.proofs.lemmas.List.{append_assoc, append-nil}
use Rattle.mc_model.specs.message.Submission.{Submission}
use Rattle.mc_model.specs.synod.Packet.{Packet, Slot}
use Rattle.mc_model.specs.node.Grant.{GrantRefusal}
use Rattle.mc_model.specs.node.Input.{Delivery, Grant as Asks, Input, Response}
use Rattle.mc_model.specs.node.Outcome.{Outcome}
use Rattle.node_model.specs.Attempts.{grant_refusal}
use Rattle.node_model.specs.Granted.{is_open, known_slot}
use Rattle.pdu_tables.specs.CommandCodes.{command_of}
use Rattle.pdu_codec.specs.Grammar.{word_at}
use Rattle.pdu_codec.specs.Pdu.{read_pdu}
use Rattle.pdu_fields.specs.declared.fault.PduFault.{PduFault}
use Rattle.pdu_bodies.specs.declared.pdu.Pdu.{Pdu}
use Rattle.pdu_frames.specs.Frames.{Cut, cut, begins_wrong}
use Rattle.sessions.specs.Session.{Session}
use Rattle.sessions.specs.States.{is_gone}
use Rattle.sessions.specs.Steps.{Done, on_fault, on_pdu, on_wrong_length}
use Rattle.sessions.specs.Responses.{requested_by}
use Rattle.sessions.specs.declared.pushed.Delivery.{Delivery as Pushing}
use Rattle.sessions.specs.declared.pushed.Delivery.TheVariants as deliveries
use Rattle.sessions.specs.declared.pushed.Pushed.{Pushed}
use Rattle.sessions.specs.declared.reaction.Reaction.{Reaction}
use Rattle.sessions.specs.declared.reaction.Reaction.TheVariants as reactions
use Rattle.sessions.specs.declared.requested.Requested.{Requested}
use Rattle.desk.specs.declared.request.Request.{Request}
use Rattle.script_text.specs.Left.{followed_by, rests}
use Rattle.script_text.specs.Settings.{Settings}
use Rattle.script_text.specs.Node.{Node, awaiting, request_at, step_at, tick_at, with_step}
use Rattle.script_text.specs.Prints.{Print}
use Rattle.script_text.specs.Pushes.{accounts_up, is_long, overdue_in, session_at, target_in}
use Rattle.script_text.specs.Attempts.{Went, all_given_up, concluded, delivered_so, given_up, submission_at, unanswered, went}
use Rattle.script_text.specs.Runner.{Runner, Acted, Served, Came, answered_by, came_by, ends, fails_by, given_out, gives_up}
use Rattle.script_text.specs.Runner.{gives_up_by, gone_on, granted, granted_unless, held_in, holds, makes_room}
use Rattle.script_text.specs.Runner.{nothing_came, on_delivery, on_done, on_frame, on_frames, on_grant, on_input}
use Rattle.script_text.specs.Runner.{on_octets, on_reaction, on_read, on_request, on_rest, on_tick, opened_at, posts}
use Rattle.script_text.specs.Runner.{posts_for, posts_for_all, pushes, put_at, reaction_prints, reports_by, sent, sent_to}
use Rattle.script_text.specs.Runner.{served_at, serves, session_in, ticked, unasked, with_session}
use Rattle.arrival_laws.proofs.Comings.{IsPlain}
use Rattle.calm_laws.proofs.Queue.{delivers}
use Rattle.calm_laws.proofs.Alone.{IsAlone, none_alone, request_plain, step_alone}

module _ (waiting : List Packet) where
  -- these packets wait in front of those that the node has
  abbrev pub node_behind : Node → Node
  node_behind node = awaiting node (waiting ++ node.packets)

  abbrev pub runner_behind : Runner → Runner
  runner_behind runner = record runner { node = node_behind runner.node }

  abbrev went_behind : Went → Went
  went_behind so = record so { next = node_behind so.next }

  abbrev served_behind : Served → Served
  served_behind served = record served { next = record served.next { node = node_behind served.next.node } }

  abbrev pub acted_behind : Acted → Acted
  acted_behind acted = record acted { next = runner_behind acted.next }

  record WentAlike (one other : Went) : Type 0 where
    is : one ≡ went_behind other
    alone : IsAlone other.next

  record ServedAlike (one other : Served) : Type 0 where
    is : one ≡ served_behind other
    alone : IsAlone other.next.node

  -- the one act is the other, but that these packets wait in front, and the node stays alone
  pub record ActedAlike (one other : Acted) : Type 0 where
    pub is : one ≡ acted_behind other
    pub alone : IsAlone other.next.node

  step_behind : (node : Node) (input : Input) →
      with_step (node_behind node) (step_at (node_behind node) input) ≡ node_behind (with_step node (step_at node input))
  step_behind node input =
      let step = step_at node input in
      ap (λ (packets : List Packet). awaiting (with_step node step) packets) (append_assoc waiting node.packets step.outputs.packets)

  -- ---- what came of attempts

  goes_alike : (node : Node) → IsAlone node → (input : Input) → IsPlain input → WentAlike (went (node_behind node) input) (went node input)
  goes_alike node alone input plain = record {
    is = ap (λ (n : Node). record { next = n; inputs = input ∷ []; prints = [] }) (step_behind node input);
    alone = step_alone node alone input plain;
  }

  rests_alike : (node : Node) → IsAlone node → WentAlike (rests (node_behind node)) (rests node)
  rests_alike node alone = record { is = refl; alone = alone }

  concluded_alike : (node : Node) → IsAlone node → (slot : Slot) (outcome : Outcome) →
      WentAlike (concluded (node_behind node) slot outcome) (concluded node slot outcome)
  concluded_alike node alone slot outcome = by_test (is_open node.kept slot)
    where
      by_test : (open_there : Bool) → WentAlike
          (cond {A = Went} open_there (went (node_behind node) (Response slot outcome)) (rests (node_behind node)))
          (cond {A = Went} open_there (went node (Response slot outcome)) (rests node))
      by_test true = goes_alike node alone (Response slot outcome) tt
      by_test false = rests_alike node alone

  delivered_alike : (node : Node) → IsAlone node → (delivery : Pushing) (outcome : Option Outcome) →
      WentAlike (delivered_so (node_behind node) delivery outcome) (delivered_so node delivery outcome)
  delivered_alike node alone (deliveries.Attempt slot) (Some outcome) = concluded_alike node alone slot outcome
  delivered_alike node alone (deliveries.Attempt slot) None = rests_alike node alone
  delivered_alike node alone (deliveries.Receipt id) outcome = rests_alike node alone

  all_alike : (node : Node) → IsAlone node → (pushed : List Pushed) → WentAlike (all_given_up (node_behind node) pushed) (all_given_up node pushed)
  unfolding all_given_up
  all_alike node alone [] = rests_alike node alone
  all_alike node alone (first ∷ others) =
      let one = delivered_alike node alone first.delivery (Some unanswered) in
      let done = given_up node first in
      let later = all_alike done.next one.alone others in
      record {
        is = ap (λ (w : Went). followed_by w (all_given_up w.next others)) one.is ∙ ap (λ (w : Went). followed_by done w) later.is;
        alone = later.alone;
      }

  -- ---- a PDU on a session

  gone_alike : (session : Session) (one other : Went) (prints : List Print) → WentAlike one other →
      ServedAlike (gone_on session one prints) (gone_on session other prints)
  gone_alike session one other prints alike = record { is = ap (λ (w : Went). gone_on session w prints) alike.is; alone = alike.alone }

  unasked_alike : (node : Node) → IsAlone node → (session : Session) (prints : List Print) →
      ServedAlike (unasked (node_behind node) session prints) (unasked node session prints)
  unasked_alike node alone session prints = record { is = refl; alone = alone }

  input_alike : (number : ℕ) (node : Node) → IsAlone node → (session : Session) (requested : Requested) (sequence : ℕ) (input : Input) → IsPlain input →
      ServedAlike (on_input number (node_behind node) session requested sequence input) (on_input number node session requested sequence input)
  input_alike number node alone session requested sequence input plain = record {
    is = ap (λ (n : Node). let served = on_input number node session requested sequence input in record served { next = record served.next { node = n } })
        (step_behind node input);
    alone = step_alone node alone input plain;
  }

  request_alike : (number : ℕ) (node : Node) → IsAlone node → (session : Session) (requested : Requested) (sequence : ℕ) (account : Option (List ℕ))
      (request : Option Request) →
      ServedAlike (on_request number (node_behind node) session requested sequence account request)
      (on_request number node session requested sequence account request)
  request_alike number node alone session requested sequence None request = unasked_alike node alone session []
  request_alike number node alone session requested sequence (Some account) None = unasked_alike node alone session []
  request_alike number node alone session requested sequence (Some account) (Some request) =
      input_alike number node alone session requested sequence (request_at node account request) (request_plain node account request)

  reaction_alike : (settings : Settings) (number : ℕ) (node : Node) → IsAlone node → (came : Came) (session : Session) (reaction : Reaction) →
      ServedAlike (on_reaction settings number (node_behind node) came session reaction) (on_reaction settings number node came session reaction)
  reaction_alike settings number node alone came session (reactions.Ask requested) =
      request_alike number node alone session requested came.sequence session.account came.request
  reaction_alike settings number node alone came session (reactions.Answered pushed) =
      gone_alike session _ _ [] (delivered_alike node alone pushed.delivery (came.outcome pushed.sequence))
  reaction_alike settings number node alone came session (reactions.Leave outgoing abandoned) =
      gone_alike session _ _ (reaction_prints settings number (reactions.Leave outgoing abandoned)) (all_alike node alone abandoned)
  reaction_alike settings number node alone came session other = unasked_alike node alone session (reaction_prints settings number other)

  done_alike : (settings : Settings) (number : ℕ) (node : Node) → IsAlone node → (came : Came) (done : Done) →
      ServedAlike (on_done settings number (node_behind node) came done) (on_done settings number node came done)
  done_alike settings number node alone came done = reaction_alike settings number node alone came done.next done.reaction

  read_alike : (settings : Settings) (number : ℕ) (node : Node) → IsAlone node → (session : Session) (octets : List ℕ) (read : Result Pdu PduFault) →
      ServedAlike (on_read settings number (node_behind node) session octets read) (on_read settings number node session octets read)
  read_alike settings number node alone session octets (Ok pdu) =
      done_alike settings number node alone (came_by settings pdu) (on_pdu settings.accounts session pdu)
  read_alike settings number node alone session octets (Err fault) =
      done_alike settings number node alone nothing_came (on_fault session fault (requested_by (command_of (word_at 4 octets))) (word_at 12 octets))

  -- ---- one act and then another

  then_alike : (next : Runner → Acted) → ((r : Runner) → IsAlone r.node → ActedAlike (next (runner_behind r)) (next r)) → (one other : Acted) →
      ActedAlike one other → ActedAlike (followed_by one (next one.next)) (followed_by other (next other.next))
  then_alike next later one other alike =
      let last = later other.next alike.alone in
      record {
        is = ap (λ (a : Acted). followed_by a (next a.next)) alike.is ∙ ap (λ (a : Acted). followed_by other a) last.is;
        alone = last.alone;
      }

  -- ---- receipts

  posts_alike : (account : Option (List ℕ)) (runner : Runner) → IsAlone runner.node →
      ActedAlike (posts_for (runner_behind runner) account) (posts_for runner account)
  posts_alike account runner alone = record { is = refl; alone = alone }

  posts_all_alike : (runner : Runner) → IsAlone runner.node → ActedAlike (posts_for_all (runner_behind runner)) (posts_for_all runner)
  posts_all_alike runner alone = record { is = refl; alone = alone }

  -- ---- the octets of a session

  session_behind : (runner : Runner) (number : ℕ) (node : Node) (session : Session) →
      with_session (record runner { node = node_behind node }) number session ≡ runner_behind (with_session (record runner { node = node }) number session)
  session_behind runner number node session = by_test (is_gone session.state)
    where
      by_test : (gone : Bool) →
          cond {A = Runner} gone (record runner { node = node_behind node; sessions = remove_entry (is_at (nat_cmp number)) runner.sessions })
          (record runner { node = node_behind node; sessions = put_at runner.sessions number session })
          ≡ runner_behind (cond {A = Runner} gone (record runner { node = node; sessions = remove_entry (is_at (nat_cmp number)) runner.sessions })
          (record runner { node = node; sessions = put_at runner.sessions number session }))
      by_test true = refl
      by_test false = refl

  session_alone : (runner : Runner) (number : ℕ) (node : Node) (session : Session) → IsAlone node →
      IsAlone (with_session (record runner { node = node }) number session).node
  session_alone runner number node session alone = by_test (is_gone session.state)
    where
      by_test : (gone : Bool) → IsAlone (cond {A = Runner} gone
          (record runner { node = node; sessions = remove_entry (is_at (nat_cmp number)) runner.sessions })
          (record runner { node = node; sessions = put_at runner.sessions number session })).node
      by_test true = alone
      by_test false = alone

  served_alike : (runner : Runner) (number : ℕ) (one other : Served) → ServedAlike one other →
      ActedAlike (served_at (runner_behind runner) number one) (served_at runner number other)
  served_alike runner number one other alike = record {
    is = ap (λ (s : Served). served_at (runner_behind runner) number s) alike.is
        ∙ ap (λ (r : Runner). record { next = r; inputs = other.inputs; prints = other.prints })
        (session_behind runner number other.next.node other.next.session);
    alone = session_alone runner number other.next.node other.next.session alike.alone;
  }

  serves_alike : (runner : Runner) (number : ℕ) (one other : Served) → ServedAlike one other →
      ActedAlike (serves (runner_behind runner) number one) (serves runner number other)
  serves_alike runner number one other alike =
      let same : one.next.session.account ≡ other.next.session.account = ap (λ (s : Served). s.next.session.account) alike.is in
      subst (λ (account : Option (List ℕ)). ActedAlike
      (followed_by (served_at (runner_behind runner) number one) (posts_for (served_at (runner_behind runner) number one).next account))
      (serves runner number other)) (sym same)
      (then_alike (λ (r : Runner). posts_for r other.next.session.account) (posts_alike other.next.session.account)
      (served_at (runner_behind runner) number one) (served_at runner number other) (served_alike runner number one other alike))

  frame_alike : (settings : Settings) (number : ℕ) (octets : List ℕ) (runner : Runner) → IsAlone runner.node →
      ActedAlike (on_frame settings number (runner_behind runner) octets) (on_frame settings number runner octets)
  unfolding on_frame
  frame_alike settings number octets runner alone =
      serves_alike runner number _ _ (read_alike settings number runner.node alone (session_in runner.sessions number) octets (read_pdu octets))

  rest_alike : (settings : Settings) (number : ℕ) (rest : List ℕ) (runner : Runner) → IsAlone runner.node →
      ActedAlike (on_rest settings number (runner_behind runner) rest) (on_rest settings number runner rest)
  rest_alike settings number rest runner alone = by_test (begins_wrong rest)
    where
      by_test : (wrong : Bool) → ActedAlike
          (cond {A = Acted} wrong (ends settings number (runner_behind runner)) (holds (runner_behind runner) number rest))
          (cond {A = Acted} wrong (ends settings number runner) (holds runner number rest))
      by_test true =
          serves_alike runner number _ _ (done_alike settings number runner.node alone nothing_came (on_wrong_length (session_in runner.sessions number)))
      by_test false = record { is = refl; alone = alone }

  frames_alike : (settings : Settings) (number : ℕ) (frames : List (List ℕ)) (rest : List ℕ) (runner : Runner) → IsAlone runner.node →
      ActedAlike (on_frames settings number (runner_behind runner) frames rest) (on_frames settings number runner frames rest)
  unfolding on_frames
  frames_alike settings number [] rest runner alone = rest_alike settings number rest runner alone
  frames_alike settings number (frame ∷ frames) rest runner alone =
      let later = by_test (frames_alike settings number frames rest) (is_none (session_at (on_frame settings number runner frame).next.sessions number)) in
      record { is = ap onwards (frame_alike settings number frame runner alone).is ∙ later.is; alone = later.alone }
    where
      onwards : Acted → Acted
      onwards acted =
          cond {A = Acted} (is_none (session_at acted.next.sessions number)) acted (followed_by acted (on_frames settings number acted.next frames rest))

      first : Acted
      first = on_frame settings number runner frame

      by_test : ((r : Runner) → IsAlone r.node →
          ActedAlike (on_frames settings number (runner_behind r) frames rest) (on_frames settings number r frames rest)) →
          (gone : Bool) → ActedAlike
          (cond {A = Acted} gone (acted_behind first) (followed_by (acted_behind first) (on_frames settings number (acted_behind first).next frames rest)))
          (cond {A = Acted} gone first (followed_by first (on_frames settings number first.next frames rest)))
      by_test others true = record { is = refl; alone = (frame_alike settings number frame runner alone).alone }
      by_test others false = then_alike (λ (r : Runner). on_frames settings number r frames rest) others (acted_behind first) first
          (record { is = refl; alone = (frame_alike settings number frame runner alone).alone })

  pub octets_alike : (settings : Settings) (number : ℕ) (octets : List ℕ) (runner : Runner) → IsAlone runner.node →
      ActedAlike (on_octets settings (runner_behind runner) number octets) (on_octets settings runner number octets)
  unfolding on_octets
  octets_alike settings number octets runner alone =
      let stream : Cut = cut (held_in runner.streams number ++ octets) in
      frames_alike settings number stream.frames stream.rest (opened_at runner number) alone

  -- ---- a moment

  answered_alike : (runner : Runner) (node : Node) → IsAlone node → (input : Input) → IsPlain input →
      ActedAlike (answered_by (runner_behind runner) (node_behind node) input (step_at (node_behind node) input))
      (answered_by runner node input (step_at node input))
  answered_alike runner node alone input plain = record {
    is = ap (λ (n : Node). let acted = answered_by runner node input (step_at node input) in record acted { next = record acted.next { node = n } })
        (step_behind node input);
    alone = step_alone node alone input plain;
  }

  gives_up_alike : (now : ℕ) (runner : Runner) → IsAlone runner.node → ActedAlike (gives_up (runner_behind runner) now) (gives_up runner now)
  gives_up_alike now runner alone =
      let alike = all_alike runner.node alone (overdue_in runner.sessions now) in
      record { is = ap (λ (w : Went). gives_up_by runner now w) alike.is; alone = alike.alone }

  room_alike : (runner : Runner) → IsAlone runner.node → ActedAlike (makes_room (runner_behind runner)) (makes_room runner)
  room_alike runner alone =
      let now = runner.node.kept.clock in
      then_alike posts_for_all posts_all_alike (gives_up (runner_behind runner) now) (gives_up runner now) (gives_up_alike now runner alone)

  pub tick_alike : (moment : ℕ) (runner : Runner) → IsAlone runner.node → ActedAlike (on_tick (runner_behind runner) moment) (on_tick runner moment)
  tick_alike moment runner alone =
      then_alike makes_room room_alike (ticked (runner_behind runner) moment) (ticked runner moment)
      (answered_alike runner runner.node alone (tick_at moment (accounts_up runner.sessions)) tt)

  -- ---- an attempt is asked for

  fails_alike : (slot : Slot) (runner : Runner) → IsAlone runner.node →
      ActedAlike (fails_by (runner_behind runner) (concluded (node_behind runner.node) slot unanswered))
      (fails_by runner (concluded runner.node slot unanswered))
  fails_alike slot runner alone =
      let alike = concluded_alike runner.node alone slot unanswered in
      record { is = ap (λ (w : Went). fails_by runner w) alike.is; alone = alike.alone }

  pushes_alike : (slot : Slot) (taken : Submission) (number : ℕ) (session : Option Session) (runner : Runner) → IsAlone runner.node →
      ActedAlike (pushes (runner_behind runner) slot taken number session) (pushes runner slot taken number session)
  pushes_alike slot taken number None runner alone = record { is = refl; alone = alone }
  pushes_alike slot taken number (Some session) runner alone = record { is = refl; alone = alone }

  sent_to_alike : (slot : Slot) (taken : Submission) (target : Option ℕ) (runner : Runner) → IsAlone runner.node →
      ActedAlike (sent_to (runner_behind runner) slot taken target) (sent_to runner slot taken target)
  sent_to_alike slot taken None runner alone = fails_alike slot runner alone
  sent_to_alike slot taken (Some number) runner alone = pushes_alike slot taken number (session_at runner.sessions number) runner alone

  sent_alike : (slot : Slot) (taken : Option Submission) (runner : Runner) → IsAlone runner.node →
      ActedAlike (sent (runner_behind runner) slot taken) (sent runner slot taken)
  sent_alike slot None runner alone = fails_alike slot runner alone
  sent_alike slot (Some taken) runner alone = sent_to_alike slot taken (target_in runner.sessions (is_long taken.text) taken.target) runner alone

  granted_alike : (id : ℕ) (slot : Slot) (refusal : Option GrantRefusal) (runner : Runner) → IsAlone runner.node →
      ActedAlike (granted_unless (runner_behind runner) id slot refusal) (granted_unless runner id slot refusal)
  granted_alike id slot None runner alone =
      let grants : Runner → Acted = λ r. granted r (Asks slot) in
      then_alike (λ (r : Runner). sent r slot (submission_at runner.node id)) (sent_alike slot (submission_at runner.node id))
      (granted (runner_behind runner) (Asks slot)) (granted runner (Asks slot))
      (record {
        is = ap (λ (n : Node). record { next = record runner { node = n }; inputs = Asks slot ∷ []; prints = [] }) (step_behind runner.node (Asks slot));
        alone = step_alone runner.node alone (Asks slot) tt;
      })
  granted_alike id slot (Some refusal) runner alone = record { is = refl; alone = alone }

  pub grant_alike : (id : ℕ) (runner : Runner) → IsAlone runner.node → ActedAlike (on_grant (runner_behind runner) id) (on_grant runner id)
  grant_alike id runner alone = granted_alike id (known_slot runner.node.kept id) (grant_refusal runner.node.setup runner.node.kept id) runner alone

  -- ---- a packet comes

  reports_alike : (node : Node) (input : Input) → IsPlain input → (runner : Runner) → IsAlone node →
      ActedAlike (reports_by runner (node_behind node) input (step_at (node_behind node) input)) (reports_by runner node input (step_at node input))
  reports_alike node input plain runner alone =
      then_alike (λ (r : Runner). posts r (step_at node input).outputs.receipts) (λ r here. record { is = refl; alone = here }) _ _
      (answered_alike runner node alone input plain)

-- a packet comes while others wait, or while none do
pub delivery_alike : (packet : Packet) (others : List Packet) (runner : Runner) → IsAlone runner.node →
    ActedAlike others (delivers runner packet others) (on_delivery (given_out runner) packet)
delivery_alike packet others runner alone =
    subst (λ (packets : List Packet). ActedAlike others (delivers runner packet packets) (on_delivery (given_out runner) packet)) (append-nil others)
    (reports_alike others (awaiting runner.node []) (Delivery packet) tt runner (none_alone runner.node alone))
