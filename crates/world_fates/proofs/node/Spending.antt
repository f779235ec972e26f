-- The receipts of a message that wait at a node of a script, and those that it prints, are no more than those that waited and those that its steps give out.
use Rattle.std.proofs.Common.{◌≡◌, ℕ, ◌+◌, ◌≤◌, zero, suc, Bool, true, false, cond, List, [], ◌∷◌, ◌++◌, length, Option, Some, None, Result, Ok, Err}
use Rattle.std.proofs.Common.{refl, ap, arith}
use Rattle.std.specs.Prelude.{◌==◌, count_by, find, filter, is_none, nat_lt}
use Rattle.std.proofs.lemmas.List.Sums.{sum_by-append, sum_by-cons}
use Rattle.std.specs.Map.{remove_entry}
use Rattle.std.specs.Ordering.{nat_cmp}
use Rattle.std.specs.BTreeMap.{is_at}
use Rattle.mc_model.specs.message.Submission.{Submission}
use Rattle.mc_model.specs.synod.Packet.{Packet, Slot}
use Rattle.mc_model.specs.node.Grant.{GrantRefusal}
use Rattle.mc_model.specs.node.Input.{Delivery, Grant as Grants, Input}
use Rattle.mc_model.specs.node.Outputs.{Receipt, Reply}
use Rattle.node_model.specs.Attempts.{grant_refusal}
use Rattle.node_model.specs.Granted.{known_slot}
use Rattle.node_model.specs.Outputs.{Stepped as NodeStep}
use Rattle.node_laws.proofs.cluster.OneReceipt.{count_both, count_of}
use Rattle.pdu_tables.specs.CommandCodes.{command_of}
use Rattle.pdu_codec.specs.Grammar.{word_at}
use Rattle.pdu_codec.specs.Pdu.{read_pdu}
use Rattle.pdu_fields.specs.declared.fault.PduFault.{PduFault}
use Rattle.pdu_bodies.specs.declared.pdu.Pdu.{Pdu}
use Rattle.pdu_frames.specs.Frames.{Cut, begins_wrong, cut}
use Rattle.receipts.specs.Texts.{Report}
use Rattle.sessions.specs.Session.{Session}
use Rattle.sessions.specs.States.{is_gone}
use Rattle.sessions.specs.Steps.{Done, on_fault, on_pdu, on_wrong_length}
use Rattle.sessions.specs.Responses.{requested_by}
use Rattle.sessions.specs.Windows.{without_first}
use Rattle.sessions.specs.declared.reaction.Reaction.{Reaction}
use Rattle.sessions.specs.declared.reaction.Reaction.TheVariants as reactions
use Rattle.sessions.specs.declared.requested.Requested.{Requested}
use Rattle.desk.specs.declared.request.Request.{Request}
use Rattle.script_text.specs.Left.{followed_by, in_front, rests}
use Rattle.script_text.specs.Settings.{Settings}
use Rattle.script_text.specs.Node.{Node, request_at, step_at, tick_at, with_step}
use Rattle.script_text.specs.Attempts.{submission_at}
use Rattle.script_text.specs.Prints.{Gone, Print, Reports}
use Rattle.script_text.specs.Pushes.{accounts_up, is_long, knows_optional, session_at, target_in}
use Rattle.script_text.specs.Receipts.{Mail, Posted, all_posted, goes_out, goes_out_up_to, is_for, most_waiting, posted, posted_for}
use Rattle.script_text.specs.Receipts.{posted_for_all, posted_for_any, posted_to, reported_by, reports_on, submitter_of, waits_for, with_both}
use Rattle.script_text.specs.Runner.{Acted, Came, Owned, Runner, Served, Told, answered_by, came_by, declined, ends, gives_up, gone_prints}
use Rattle.script_text.specs.Runner.{granted, granted_unless, held_in, holds, last_incarnation, mail_of, makes_room, no_incarnation, nothing_came}
use Rattle.script_text.specs.Runner.{on_delivery, on_done, on_frame, on_frames, on_grant, on_octets, on_reaction, on_read, on_request, on_rest}
use Rattle.script_text.specs.Runner.{on_restart, on_tick, opened_at, owner_of, posts, posts_for, posts_for_all, pushes, put_at, refusal_prints}
use Rattle.script_text.specs.Runner.{replied, reply_prints, restarted, sent, sent_to, served_at, serves, session_in, ticked, told}
use Rattle.script_text.specs.Runner.{with_session}
use Rattle.script_text.specs.World.{crashed}
use Rattle.world_fates.specs.Receipts.{is_receipt_of}
use Rattle.world_fates.proofs.node.Reports.{report_is}

module _ (id : ℕ) where
  -- ---- how many of receipts, and of prints, are of the message

  abbrev pub waits : List Receipt → ℕ
  waits receipts = count_of id receipts

  abbrev pub printed : List Print → ℕ
  printed prints = count_by (is_receipt_of id) prints

  abbrev one_if : Receipt → ℕ
  one_if receipt = cond (receipt.id == id) 1 0

  abbrev one_print : Print → ℕ
  one_print print = cond (is_receipt_of id print) 1 0

  pub printed_both : (first last : List Print) → printed (first ++ last) ≡ printed first + printed last
  printed_both first last = sum_by-append one_print first last

  waits_first : (first : Receipt) (rest : List Receipt) → waits (first ∷ rest) ≡ one_if first + waits rest
  waits_first first rest = sum_by-cons one_if first rest

  -- ---- they go out

  -- those that wait then and those that are printed waited before
  abbrev Posts : Mail → Posted → Type 0
  Posts mail posted = waits posted.next.waiting + printed posted.prints ≤ waits mail.waiting

  -- or are new
  abbrev PostsNew : Mail → ℕ → Posted → Type 0
  PostsNew mail new posted = waits posted.next.waiting + printed posted.prints ≤ new + waits mail.waiting

  rest_posts : (mail : Mail) → Posts mail (rests mail)
  rest_posts mail = omega (arith)

  then_posts : (mail : Mail) (first last : Posted) → Posts mail first → Posts first.next last → Posts mail (followed_by first last)
  then_posts mail first last one other = let both = printed_both first.prints last.prints in omega (arith, both, one, other)

  taken_out : (test : Receipt → Bool) (waiting : List Receipt) (receipt : Receipt) → find test waiting ≡ Some receipt →
      waits (without_first test waiting) + one_if receipt ≡ waits waiting
  taken_out test [] receipt is = absurd cc
  taken_out test (first ∷ rest) receipt is = by_test (test first) (taken_out test rest receipt) is
    where
      by_test : (passes : Bool) → (find test rest ≡ Some receipt → waits (without_first test rest) + one_if receipt ≡ waits rest) →
          cond passes (Some first) (find test rest) ≡ Some receipt →
          waits (cond passes rest (first ∷ without_first test rest)) + one_if receipt ≡ waits (first ∷ rest)
      by_test true behind is =
          let same : first ≡ receipt = cc in
          let whole = waits_first first rest in
          let one = ap one_if same in
          omega (arith, whole, one)
      by_test false behind is =
          let whole = waits_first first rest in
          let left = waits_first first (without_first test rest) in
          let so = behind is in
          omega (arith, whole, left, so)

  prints_one : (number : ℕ) (session : Option Session) (receipt : Receipt) (report : Option Report) → reported_by receipt ≡ report →
      printed (reports_on number session report) ≤ one_if receipt
  prints_one number None receipt report is = omega (arith)
  prints_one number (Some session) receipt None is = omega (arith)
  prints_one number (Some session) receipt (Some report) is =
      let same = (report_is receipt.id receipt.chain report is).id_is in
      let print = Reports number session.next_sequence (knows_optional session) report in
      let whole = sum_by-cons one_print print [] in
      let none : printed [] ≡ 0 = refl in
      let one : cond {A = ℕ} (report.id == id) 1 0 ≡ one_if receipt = ap (λ (n : ℕ). cond {A = ℕ} (n == id) 1 0) same in
      omega (arith, whole, none, one)

  goes_out_posts : (now : ℕ) (account : List ℕ) (mail : Mail) (receipt : Receipt) (number : ℕ) → find (is_for account) mail.waiting ≡ Some receipt →
      Posts mail (goes_out now account mail receipt number)
  goes_out_posts now account mail receipt number is =
      let left = taken_out (is_for account) mail.waiting receipt is in
      let one = prints_one number (session_at mail.sessions number) receipt (reported_by receipt) refl in
      omega (arith, left, one)

  goes_out_up_to_posts : (most now : ℕ) (account : List ℕ) (mail : Mail) → Posts mail (goes_out_up_to most now account mail)
  unfolding goes_out_up_to
  goes_out_up_to_posts zero now account mail = rest_posts mail
  goes_out_up_to_posts (suc more) now account mail =
      at_both (find (is_for account) mail.waiting) (target_in mail.sessions false account) refl (goes_out_up_to_posts more now account)
    where
      at_both : (found : Option Receipt) (target : Option ℕ) → find (is_for account) mail.waiting ≡ found →
          ((next : Mail) → Posts next (goes_out_up_to more now account next)) →
          Posts mail (with_both (rests mail)
          (λ receipt number. followed_by (goes_out now account mail receipt number)
          (goes_out_up_to more now account (goes_out now account mail receipt number).next)) found target)
      at_both (Some receipt) (Some number) is behind =
          let one = goes_out now account mail receipt number in
          then_posts mail one (goes_out_up_to more now account one.next) (goes_out_posts now account mail receipt number is) (behind one.next)
      at_both None target is behind = rest_posts mail
      at_both (Some receipt) None is behind = rest_posts mail

  account_posts : (now : ℕ) (mail : Mail) (account : List ℕ) → Posts mail (posted_for now mail account)
  account_posts now mail account = goes_out_up_to_posts (length mail.waiting) now account mail

  any_posts : (now : ℕ) (mail : Mail) (account : Option (List ℕ)) → Posts mail (posted_for_any now mail account)
  any_posts now mail None = rest_posts mail
  any_posts now mail (Some account) = account_posts now mail account

  all_post : (now : ℕ) (mail : Mail) (accounts : List (List ℕ)) → Posts mail (posted_for_all now mail accounts)
  unfolding posted_for_all
  all_post now mail [] = rest_posts mail
  all_post now mail (account ∷ others) =
      let one = posted_for now mail account in
      then_posts mail one (posted_for_all now one.next others) (account_posts now mail account) (all_post now one.next others)

  -- ---- new ones

  one_more_waits : (account : List ℕ) (waiting : List Receipt) (receipt : Receipt) → waits (waits_for account waiting receipt) ≤ one_if receipt + waits waiting
  one_more_waits account waiting receipt = by_test (nat_lt (length (filter (is_for account) waiting)) most_waiting)
    where
      by_test : (room : Bool) → waits (cond room (waiting ++ receipt ∷ []) waiting) ≤ one_if receipt + waits waiting
      by_test true =
          let both = count_both id waiting (receipt ∷ []) in
          let one = waits_first receipt [] in
          let none : waits [] ≡ 0 = refl in
          omega (arith, both, one, none)
      by_test false = omega (arith)

  new_posts : (now : ℕ) (mail : Mail) (receipt : Receipt) (account : Option (List ℕ)) → PostsNew mail (one_if receipt) (posted_to now mail receipt account)
  new_posts now mail receipt None = omega (arith)
  new_posts now mail receipt (Some account) =
      let more = one_more_waits account mail.waiting receipt in
      let out = account_posts now (record mail { waiting = waits_for account mail.waiting receipt }) account in
      omega (arith, more, out)

  all_new_post : (now : ℕ) (mail : Mail) (receipts : List Receipt) → PostsNew mail (waits receipts) (all_posted now mail receipts)
  unfolding all_posted
  all_new_post now mail [] = omega (arith)
  all_new_post now mail (receipt ∷ others) =
      let one = posted now mail receipt in
      let first = new_posts now mail receipt (submitter_of receipt) in
      let later = all_new_post now one.next others in
      let both = printed_both one.prints (all_posted now one.next others).prints in
      let whole = waits_first receipt others in
      omega (arith, first, later, both, whole)

  -- ---- acts of a node by which no receipt begins to wait

  abbrev Keeps : Runner → Acted → Type 0
  Keeps runner acted = waits acted.next.waiting + printed acted.prints ≤ waits runner.waiting

  -- none of these prints is one
  abbrev PrintsNone : List Print → Type 0
  PrintsNone prints = printed prints ≡ 0

  quiet_keeps : (runner : Runner) (acted : Acted) → acted.next.waiting ≡ runner.waiting → PrintsNone acted.prints → Keeps runner acted
  quiet_keeps runner acted same none = let waiting = ap waits same in omega (arith, waiting, none)

  then_keeps : (runner : Runner) (first last : Acted) → Keeps runner first → Keeps first.next last → Keeps runner (followed_by first last)
  then_keeps runner first last one other = let both = printed_both first.prints last.prints in omega (arith, both, one, other)

  gone_print_none : (connected : List (ℕ × Session)) → PrintsNone (gone_prints connected)
  gone_print_none [] = refl
  gone_print_none (entry ∷ connected) =
      let first = sum_by-cons one_print (Gone entry.0) (gone_prints connected) in
      let later = gone_print_none connected in
      omega (arith, first, later)

  told_print_none : (connected : List (ℕ × Session)) (replies : List Reply) → PrintsNone (told connected replies).prints
  unfolding told
  told_print_none connected [] = refl
  told_print_none connected (reply ∷ replies) =
      at_owner (owner_of connected reply.ticket) (told_print_none (replied connected reply.ticket (owner_of connected reply.ticket)) replies)
    where
      later : Told
      later = told (replied connected reply.ticket (owner_of connected reply.ticket)) replies

      at_owner : (owner : Option Owned) → PrintsNone later.prints → PrintsNone (in_front (reply_prints reply owner) later).prints
      at_owner None none = none
      at_owner (Some owned) none =
          let both = printed_both (reply_prints reply (Some owned)) later.prints in
          let first : PrintsNone (reply_prints reply (Some owned)) = refl in
          omega (arith, both, first, none)

  answered_keeps : (runner : Runner) (node : Node) (input : Input) (step : NodeStep) → Keeps runner (answered_by runner node input step)
  answered_keeps runner node input step =
      quiet_keeps runner (answered_by runner node input step) refl (told_print_none runner.sessions step.outputs.replies)

  -- ---- the octets of a session

  refusal_prints_none : (number : ℕ) (requested : Requested) (sequence : ℕ) (refused : Option ℕ) → PrintsNone (refusal_prints number requested sequence refused)
  refusal_prints_none number requested sequence None = refl
  refusal_prints_none number requested sequence (Some status) = refl

  request_prints_none : (number : ℕ) (node : Node) (session : Session) (requested : Requested) (sequence : ℕ) (account : Option (List ℕ))
      (request : Option Request) → PrintsNone (on_request number node session requested sequence account request).prints
  request_prints_none number node session requested sequence None request = refl
  request_prints_none number node session requested sequence (Some account) None = refl
  request_prints_none number node session requested sequence (Some account) (Some request) =
      refusal_prints_none number requested sequence (step_at node (request_at node account request)).outputs.refused

  reaction_prints_none : (settings : Settings) (number : ℕ) (node : Node) (came : Came) (session : Session) (reaction : Reaction) →
      PrintsNone (on_reaction settings number node came session reaction).prints
  reaction_prints_none settings number node came session (reactions.Ask requested) =
      request_prints_none number node session requested came.sequence session.account came.request
  reaction_prints_none settings number node came session (reactions.Answered pushed) = refl
  reaction_prints_none settings number node came session (reactions.Respond outgoing) = refl
  reaction_prints_none settings number node came session (reactions.Leave outgoing abandoned) = refl
  reaction_prints_none settings number node came session other = refl

  read_prints_none : (settings : Settings) (number : ℕ) (node : Node) (session : Session) (octets : List ℕ) (read : Result Pdu PduFault) →
      PrintsNone (on_read settings number node session octets read).prints
  read_prints_none settings number node session octets (Ok pdu) =
      let done = on_pdu settings.accounts session pdu in reaction_prints_none settings number node (came_by settings pdu) done.next done.reaction
  read_prints_none settings number node session octets (Err fault) =
      let done = on_fault session fault (requested_by (command_of (word_at 4 octets))) (word_at 12 octets) in
      reaction_prints_none settings number node nothing_came done.next done.reaction

  same_waiting : (runner : Runner) (number : ℕ) (session : Session) → (with_session runner number session).waiting ≡ runner.waiting
  same_waiting runner number session = by_test (is_gone session.state)
    where
      by_test : (gone : Bool) → (cond {A = Runner} gone (record runner { sessions = remove_entry (is_at (nat_cmp number)) runner.sessions })
          (record runner { sessions = put_at runner.sessions number session })).waiting ≡ runner.waiting
      by_test true = refl
      by_test false = refl

  serves_keeps : (runner : Runner) (number : ℕ) (served : Served) → PrintsNone served.prints → Keeps runner (serves runner number served)
  serves_keeps runner number served none =
      let one = served_at runner number served in
      then_keeps runner one (posts_for one.next served.next.session.account)
      (quiet_keeps runner one (same_waiting (record runner { node = served.next.node }) number served.next.session) none)
      (any_posts one.next.node.kept.clock (mail_of one.next) served.next.session.account)

  frame_keeps : (settings : Settings) (number : ℕ) (runner : Runner) (octets : List ℕ) → Keeps runner (on_frame settings number runner octets)
  unfolding on_frame
  frame_keeps settings number runner octets =
      let session = session_in runner.sessions number in
      serves_keeps runner number (on_read settings number runner.node session octets (read_pdu octets))
      (read_prints_none settings number runner.node session octets (read_pdu octets))

  rest_keeps : (settings : Settings) (number : ℕ) (runner : Runner) (rest : List ℕ) → Keeps runner (on_rest settings number runner rest)
  rest_keeps settings number runner rest = by_test (begins_wrong rest)
    where
      ended : Done
      ended = on_wrong_length (session_in runner.sessions number)

      by_test : (wrong : Bool) → Keeps runner (cond {A = Acted} wrong (ends settings number runner) (holds runner number rest))
      by_test true =
          serves_keeps runner number (on_done settings number runner.node nothing_came ended)
          (reaction_prints_none settings number runner.node nothing_came ended.next ended.reaction)
      by_test false = quiet_keeps runner (holds runner number rest) refl refl

  frames_keep : (settings : Settings) (number : ℕ) (runner : Runner) (frames : List (List ℕ)) (rest : List ℕ) →
      Keeps runner (on_frames settings number runner frames rest)
  unfolding on_frames
  frames_keep settings number runner [] rest = rest_keeps settings number runner rest
  frames_keep settings number runner (frame ∷ frames) rest =
      by_test (is_none (session_at first.next.sessions number)) (frames_keep settings number first.next frames rest)
    where
      first : Acted
      first = on_frame settings number runner frame

      later : Acted
      later = on_frames settings number first.next frames rest

      by_test : (gone : Bool) → Keeps first.next later → Keeps runner (cond {A = Acted} gone first (followed_by first later))
      by_test true others = frame_keeps settings number runner frame
      by_test false others = then_keeps runner first later (frame_keeps settings number runner frame) others

  octets_keep : (settings : Settings) (runner : Runner) (number : ℕ) (octets : List ℕ) → Keeps runner (on_octets settings runner number octets)
  unfolding on_octets
  octets_keep settings runner number octets =
      let stream : Cut = cut (held_in runner.streams number ++ octets) in
      frames_keep settings number (opened_at runner number) stream.frames stream.rest

  -- ---- a moment

  makes_room_keeps : (runner : Runner) → Keeps runner (makes_room runner)
  makes_room_keeps runner =
      let one = gives_up runner runner.node.kept.clock in
      then_keeps runner one (posts_for_all one.next) (quiet_keeps runner one refl refl)
      (all_post one.next.node.kept.clock (mail_of one.next) (accounts_up one.next.sessions))

  tick_keeps : (runner : Runner) (moment : ℕ) → Keeps runner (on_tick runner moment)
  tick_keeps runner moment =
      let first = ticked runner moment in
      let tick = tick_at moment (accounts_up runner.sessions) in
      then_keeps runner first (makes_room first.next) (answered_keeps runner runner.node tick (step_at runner.node tick)) (makes_room_keeps first.next)

  -- ---- an attempt

  pushes_keeps : (runner : Runner) (slot : Slot) (taken : Submission) (number : ℕ) (session : Option Session) →
      Keeps runner (pushes runner slot taken number session)
  pushes_keeps runner slot taken number None = quiet_keeps runner (pushes runner slot taken number None) refl refl
  pushes_keeps runner slot taken number (Some session) = quiet_keeps runner (pushes runner slot taken number (Some session)) refl refl

  sent_to_keeps : (runner : Runner) (slot : Slot) (taken : Submission) (target : Option ℕ) → Keeps runner (sent_to runner slot taken target)
  sent_to_keeps runner slot taken None = quiet_keeps runner (sent_to runner slot taken None) refl refl
  sent_to_keeps runner slot taken (Some number) = pushes_keeps runner slot taken number (session_at runner.sessions number)

  sent_keeps : (runner : Runner) (slot : Slot) (taken : Option Submission) → Keeps runner (sent runner slot taken)
  sent_keeps runner slot None = quiet_keeps runner (sent runner slot None) refl refl
  sent_keeps runner slot (Some taken) = sent_to_keeps runner slot taken (target_in runner.sessions (is_long taken.text) taken.target)

  granted_keeps : (runner : Runner) (other : ℕ) (slot : Slot) (refusal : Option GrantRefusal) → Keeps runner (granted_unless runner other slot refusal)
  granted_keeps runner other slot None =
      let one = granted runner (Grants slot) in
      then_keeps runner one (sent one.next slot (submission_at runner.node other)) (quiet_keeps runner one refl refl)
      (sent_keeps one.next slot (submission_at runner.node other))
  granted_keeps runner other slot (Some refusal) = quiet_keeps runner (granted_unless runner other slot (Some refusal)) refl refl

  grant_keeps : (runner : Runner) (other : ℕ) → Keeps runner (on_grant runner other)
  grant_keeps runner other = granted_keeps runner other (known_slot runner.node.kept other) (grant_refusal runner.node.setup runner.node.kept other)

  -- ---- a restart, and a crash

  forgotten_keeps : (runner : Runner) (acted : Acted) → acted.next.waiting ≡ [] → PrintsNone acted.prints → Keeps runner acted
  forgotten_keeps runner acted forgets none = let nothing : waits acted.next.waiting ≡ 0 = ap waits forgets in omega (arith, nothing, none)

  restart_keeps : (runner : Runner) → Keeps runner (on_restart runner)
  restart_keeps runner = by_test (nat_lt runner.node.kept.incarnation last_incarnation)
    where
      by_test : (test : Bool) → Keeps runner (cond {A = Acted} test (restarted runner) (declined runner no_incarnation))
      by_test true = forgotten_keeps runner (restarted runner) refl (gone_print_none runner.sessions)
      by_test false = quiet_keeps runner (declined runner no_incarnation) refl refl

  crash_keeps : (runner : Runner) (packet : Packet) (after : Bool) → Keeps runner (crashed packet after runner)
  crash_keeps runner packet after = forgotten_keeps runner (crashed packet after runner) refl (gone_print_none runner.sessions)

  -- ---- acts of a node

  -- so many of the receipts that a node gives out as these come are of the message
  abbrev pub given_by : Node → List Input → ℕ
  given_by node [] = 0
  given_by node (input ∷ inputs) = waits (step_at node input).outputs.receipts + given_by (with_step node (step_at node input)) inputs

  -- those that wait then and those that are printed waited before, or were given out
  abbrev pub Spends : Runner → Acted → Type 0
  Spends runner acted = waits acted.next.waiting + printed acted.prints ≤ given_by runner.node acted.inputs + waits runner.waiting

  spends : (runner : Runner) (acted : Acted) → Keeps runner acted → Spends runner acted
  spends runner acted keeps = omega (arith, keeps)

  pub octets_spend : (settings : Settings) (runner : Runner) (number : ℕ) (octets : List ℕ) → Spends runner (on_octets settings runner number octets)
  octets_spend settings runner number octets = spends runner (on_octets settings runner number octets) (octets_keep settings runner number octets)

  pub tick_spends : (runner : Runner) (moment : ℕ) → Spends runner (on_tick runner moment)
  tick_spends runner moment = spends runner (on_tick runner moment) (tick_keeps runner moment)

  pub grant_spends : (runner : Runner) (other : ℕ) → Spends runner (on_grant runner other)
  grant_spends runner other = spends runner (on_grant runner other) (grant_keeps runner other)

  pub restart_spends : (runner : Runner) → Spends runner (on_restart runner)
  restart_spends runner = spends runner (on_restart runner) (restart_keeps runner)

  pub crash_spends : (runner : Runner) (packet : Packet) (after : Bool) → Spends runner (crashed packet after runner)
  crash_spends runner packet after = spends runner (crashed packet after runner) (crash_keeps runner packet after)

  pub delivery_spends : (runner : Runner) (packet : Packet) → Spends runner (on_delivery runner packet)
  delivery_spends runner packet =
      let input = Delivery packet in
      let step = step_at runner.node input in
      let one = answered_by runner runner.node input step in
      let last = posts one.next step.outputs.receipts in
      let first = answered_keeps runner runner.node input step in
      let later = all_new_post one.next.node.kept.clock (mail_of one.next) step.outputs.receipts in
      let both = printed_both one.prints last.prints in
      omega (arith, first, later, both)
