-- Where a node of a script stands after an act, and what it prints.
use Rattle.std.proofs.Common.{◌≡◌, ◌⊎◌, ℕ, ◌<◌, ◌^◌, Bool, true, false, cond, List, [], ◌∷◌, ◌++◌, map, Option, Some, None, refl, sym, ◌∙◌, ap, subst, inl, inr}
use Rattle.std.proofs.Common.{arith}
use Rattle.std.specs.Prelude.{if◌then◌else◌, is_none, nat_lt}
use Rattle.std.proofs.lemmas.Bool.Decides.{nat_tests}
use Rattle.mc_model.specs.message.Decree.{Decree}
use Rattle.mc_model.specs.message.Submission.{Submission}
use Rattle.mc_model.specs.synod.Lists.{In}
use Rattle.mc_model.specs.synod.Packet.{Packet, Slot}
use Rattle.mc_model.specs.node.Grant.{GrantRefusal, refusal_number}
use Rattle.mc_model.specs.node.Input.{Delivery, Grant as Grants, Input}
use Rattle.mc_model.specs.node.Outputs.{Receipt, Reply}
use Rattle.mc_model.specs.cluster.Steps.{Cluster}
use Rattle.node_model.specs.Attempts.{grant_refusal}
use Rattle.node_model.specs.Granted.{known_slot}
use Rattle.node_model.specs.Outputs.{Stepped as NodeStep}
use Rattle.node_model.specs.Kept.{message_at}
use Rattle.node_laws.specs.Clusters.{MayHappen, NodeInput, kept_reached}
use Rattle.pdu_codec.specs.Pdu.{read_pdu}
use Rattle.pdu_frames.specs.Frames.{Cut, cut, begins_wrong}
use Rattle.sessions.specs.Session.{Session}
use Rattle.script_text.specs.Left.{followed_by}
use Rattle.script_text.specs.Settings.{Settings}
use Rattle.script_text.specs.Node.{Node, step_at, tick_at, with_step}
use Rattle.script_text.specs.Attempts.{concluded, submission_at, taken_on, unanswered}
use Rattle.std.specs.Map.{remove_entry}
use Rattle.std.specs.Ordering.{nat_cmp}
use Rattle.std.specs.BTreeMap.{is_at}
use Rattle.sessions.specs.States.{is_gone}
use Rattle.script_text.specs.Pushes.{accounts_up, is_long, overdue_in, session_at, target_in}
use Rattle.script_text.specs.Receipts.{Posted, all_posted, posted_for_all, posted_for_any}
use Rattle.script_text.specs.Runner.{Runner, Acted, Served, answered_by, declined, ends, fails_by, gives_up, gone_prints}
use Rattle.script_text.specs.Runner.{granted, granted_unless, held_in, holds, last_incarnation, mail_of, makes_room, no_incarnation}
use Rattle.script_text.specs.Runner.{on_delivery, on_frame, on_frames, on_grant, on_octets, on_read, on_rest, on_restart, on_tick}
use Rattle.script_text.specs.Runner.{opened_at, posts, posts_for, posts_for_all, pushes, put_at, reports_by, restarted, sent, sent_to}
use Rattle.script_text.specs.Runner.{served_at, serves, session_in, ticked, told, with_posted, with_session}
use Rattle.world_fates.proofs.node.Submitted.{WasSubmitted, known_submitted, submitted_later}
use Rattle.world_fates.proofs.node.Telling.{AreMute, declined_is_mute, gone_is_mute, ungranted_is_mute}
use Rattle.world_fates.proofs.node.Behind.{came_to, input_to}
use Rattle.world_fates.proofs.node.ReceiptsOut.{AreReceiptsOut, receipts_out_later}
use Rattle.world_fates.proofs.node.Standing.{IsAt, IsFit, Leads, Member, StepsTo, delivery_steps, grant_steps, leads_still, restart_steps, tick_steps}
use Rattle.world_fates.proofs.node.Tellings.{FactOfPrints, IsTelling, NodePrint, TakesDeliveries, both_at, mutes_tell, prints_at, steps_tell}
use Rattle.world_fates.proofs.node.Serving.{IsServed, all_lead, came_then, read_served, unanswered_leads, wrong_length_served}
use Rattle.world_fates.proofs.node.Posting.{PostsSo, all_posted_so, posted_for_all_so, posted_for_any_so}

-- The node is where what came to it leads. What waits then was given out, and so was what is printed.
pub record ActsSo (member : Member) (Tells : FactOfPrints) (past : List NodeInput) (up : Bool) (acted : Acted) : Type 0 where
  pub leads : Leads member past acted.inputs up acted.next.node
  pub waiting : AreReceiptsOut member.cluster member.number leads.later acted.next.waiting
  pub tell : (last : List NodeInput) (prints : List NodePrint) → Tells last leads.later prints →
      Tells last past (prints_at member.number acted.prints ++ prints)

-- the session is put back, and the rest stays
record IsPutBack (first last : Runner) : Type 0 where
  node : last.node ≡ first.node
  waiting : last.waiting ≡ first.waiting

put_back : (runner : Runner) (number : ℕ) (session : Session) → IsPutBack runner (with_session runner number session)
put_back runner number session = by_test (is_gone session.state)
  where
    by_test : (gone : Bool) →
        IsPutBack runner (cond {A = Runner} gone (record runner { sessions = remove_entry (is_at (nat_cmp number)) runner.sessions })
        (record runner { sessions = put_at runner.sessions number session }))
    by_test true = record { node = refl; waiting = refl }
    by_test false = record { node = refl; waiting = refl }

pub gone_are_mute : (connected : List (ℕ × Session)) → AreMute (gone_prints connected)
gone_are_mute [] = tt
gone_are_mute (entry ∷ connected) = ((gone_is_mute entry.0, tt), gone_are_mute connected)

module _ (member : Member) (Tells : FactOfPrints) (telling : IsTelling member.cluster Tells) where
  abbrev cluster : Cluster
  cluster = member.cluster

  abbrev AreOut : List NodeInput → List Receipt → Type 0
  AreOut past receipts = AreReceiptsOut cluster member.number past receipts

  wait_later : (inputs : List Input) (past later : List NodeInput) (receipts : List Receipt) → later ≡ came_to member.number inputs past →
      AreOut past receipts → AreOut later receipts
  wait_later inputs past later receipts is out =
      subst (λ (now : List NodeInput). AreOut now receipts) (sym is)
      (receipts_out_later cluster member.number (map (input_to member.number) inputs) past receipts out)

  -- a step of the node, whose replies go out
  abbrev step_acts : (past : List NodeInput) (runner : Runner) (node : Node) (input : Input) (step : NodeStep) →
      StepsTo member past input step true (with_step node step) → AreOut past runner.waiting →
      ActsSo member Tells past true (answered_by runner node input step)
  step_acts past runner node input step steps waiting = record {
    leads = steps.leads;
    waiting = wait_later (input ∷ []) past steps.leads.later runner.waiting steps.leads.later_is waiting;
    tell = λ last prints tells.
        subst (λ (s : NodeStep). Tells last past (prints_at member.number (told runner.sessions s.outputs.replies).prints ++ prints)) (sym steps.step_is)
        (telling.replies last past (input_to member.number input) runner.sessions prints steps.happens
        (subst (λ (s : NodeStep). (reply : Reply) → In reply s.outputs.replies → reply.id < 2 ^ 64) steps.step_is steps.small)
        (subst (λ (now : List NodeInput). Tells last now prints) steps.leads.later_is tells));
  }

  -- what prints tell nothing of a fate
  pub mute_acts : (past : List NodeInput) (up : Bool) (acted : Acted) → Leads member past acted.inputs up acted.next.node →
      AreOut past acted.next.waiting → AreMute acted.prints → ActsSo member Tells past up acted
  mute_acts past up acted leads waiting mute = record {
    leads = leads;
    waiting = wait_later acted.inputs past leads.later acted.next.waiting leads.later_is waiting;
    tell = λ last prints tells.
        mutes_tell cluster Tells telling last past member.number acted.prints prints mute
        (steps_tell cluster Tells telling last (map (input_to member.number) acted.inputs) past prints
        (subst (MayHappen cluster) leads.later_is leads.fit.may)
        (subst (λ (now : List NodeInput). Tells last now prints) leads.later_is tells));
  }

  -- receipts go out
  posts_act : (past : List NodeInput) (fit : IsFit cluster past) (runner : Runner) → IsAt member past true runner.node → (posted : Posted) →
      PostsSo cluster Tells telling member.number past fit.may posted → ActsSo member Tells past true (with_posted runner posted)
  posts_act past fit runner at posted so = record {
    leads = leads_still member past true runner.node fit at;
    waiting = so.waiting;
    tell = so.tell;
  }

  -- one after the other
  pub acts_then : (past : List NodeInput) (up : Bool) (one other : Acted) (acts : ActsSo member Tells past true one) →
      ActsSo member Tells acts.leads.later up other → ActsSo member Tells past up (followed_by one other)
  acts_then past up one other acts others = record {
    leads = record {
      later = others.leads.later;
      later_is = came_then member.number one.inputs other.inputs past acts.leads.later others.leads.later acts.leads.later_is others.leads.later_is;
      fit = others.leads.fit;
      at = others.leads.at;
    };
    waiting = others.waiting;
    tell = λ last prints tells.
        subst (Tells last past) (both_at member.number one.prints other.prints prints)
        (acts.tell last (prints_at member.number other.prints ++ prints) (others.tell last prints tells));
  }

  -- a step of the node, whose replies go out, and then its receipts
  reports_act : (past : List NodeInput) (runner : Runner) (node : Node) (input : Input) (step : NodeStep) →
      StepsTo member past input step true (with_step node step) → AreOut past runner.waiting →
      ActsSo member Tells past true (reports_by runner node input step)
  reports_act past runner node input step steps waiting =
      let one = answered_by runner node input step in
      let here = step_acts past runner node input step steps waiting in
      let later = here.leads.later in
      acts_then past true one (posts one.next step.outputs.receipts) here
      (posts_act later here.leads.fit one.next here.leads.at (all_posted one.next.node.kept.clock (mail_of one.next) step.outputs.receipts)
      (all_posted_so cluster Tells telling member.number later here.leads.fit.may one.next.node.kept.clock (mail_of one.next) step.outputs.receipts
      here.waiting steps.receipts))

  -- ---- a node that is up

  -- it stands there, and what waits was given out
  pub record IsServing (past : List NodeInput) (runner : Runner) : Type 0 where
    pub fit : IsFit cluster past
    pub at : IsAt member past true runner.node
    pub waiting : AreOut past runner.waiting

  pub serving_then : (past : List NodeInput) (acted : Acted) (acts : ActsSo member Tells past true acted) → IsServing acts.leads.later acted.next
  serving_then past acted acts = record { fit = acts.leads.fit; at = acts.leads.at; waiting = acts.waiting }

  -- ---- the octets of a session

  serves_act : (past : List NodeInput) (runner : Runner) → IsServing past runner → (number : ℕ) (served : Served) → IsServed member past served →
      ActsSo member Tells past true (serves runner number served)
  serves_act past runner s number served goes =
      let one = served_at runner number served in
      let same = put_back (record runner { node = served.next.node }) number served.next.session in
      let acts = mute_acts past true one (subst (Leads member past served.inputs true) (sym same.node) goes.leads)
      (subst (AreOut past) (sym same.waiting) s.waiting) goes.mute in
      acts_then past true one (posts_for one.next served.next.session.account) acts
      (posts_act acts.leads.later acts.leads.fit one.next acts.leads.at
      (posted_for_any one.next.node.kept.clock (mail_of one.next) served.next.session.account)
      (posted_for_any_so cluster Tells telling member.number acts.leads.later acts.leads.fit.may one.next.node.kept.clock (mail_of one.next)
      served.next.session.account acts.waiting))

  frame_acts : (settings : Settings) (number : ℕ) (past : List NodeInput) (runner : Runner) (octets : List ℕ) → IsServing past runner →
      ActsSo member Tells past true (on_frame settings number runner octets)
  unfolding on_frame
  frame_acts settings number past runner octets s =
      let session = session_in runner.sessions number in
      serves_act past runner s number (on_read settings number runner.node session octets (read_pdu octets))
      (read_served member past s.fit runner.node s.at settings number session octets (read_pdu octets) refl)

  rest_acts : (settings : Settings) (number : ℕ) (past : List NodeInput) (runner : Runner) (rest : List ℕ) → IsServing past runner →
      ActsSo member Tells past true (on_rest settings number runner rest)
  rest_acts settings number past runner rest s = by_test (begins_wrong rest)
    where
      by_test : (wrong : Bool) → ActsSo member Tells past true (cond {A = Acted} wrong (ends settings number runner) (holds runner number rest))
      by_test true =
          serves_act past runner s number _ (wrong_length_served member past s.fit runner.node s.at settings number (session_in runner.sessions number))
      by_test false = record {
        leads = leads_still member past true runner.node s.fit s.at;
        waiting = s.waiting;
        tell = λ last prints tells. tells;
      }

  frames_act : (settings : Settings) (number : ℕ) (past : List NodeInput) (runner : Runner) (frames : List (List ℕ)) (rest : List ℕ) →
      IsServing past runner → ActsSo member Tells past true (on_frames settings number runner frames rest)
  unfolding on_frames
  frames_act settings number past runner [] rest s = rest_acts settings number past runner rest s
  frames_act settings number past runner (frame ∷ frames) rest s =
      by_test (is_none (session_at first.next.sessions number))
      (frames_act settings number here.leads.later first.next frames rest (serving_then past first here))
    where
      first : Acted
      first = on_frame settings number runner frame

      here : ActsSo member Tells past true first
      here = frame_acts settings number past runner frame s

      later : Acted
      later = on_frames settings number first.next frames rest

      by_test : (gone : Bool) → ActsSo member Tells here.leads.later true later →
          ActsSo member Tells past true (cond {A = Acted} gone first (followed_by first later))
      by_test true others = here
      by_test false others = acts_then past true first later here others

  pub octets_act : (settings : Settings) (past : List NodeInput) (runner : Runner) (number : ℕ) (octets : List ℕ) → IsServing past runner →
      ActsSo member Tells past true (on_octets settings runner number octets)
  unfolding on_octets
  octets_act settings past runner number octets s =
      let stream : Cut = cut (held_in runner.streams number ++ octets) in
      frames_act settings number past (opened_at runner number) stream.frames stream.rest (record { fit = s.fit; at = s.at; waiting = s.waiting })

  -- ---- a moment

  gives_up_acts : (past : List NodeInput) (runner : Runner) (now : ℕ) → IsServing past runner → ActsSo member Tells past true (gives_up runner now)
  gives_up_acts past runner now s =
      mute_acts past true (gives_up runner now) (all_lead member past s.fit runner.node s.at (overdue_in runner.sessions now)) s.waiting tt

  makes_room_acts : (past : List NodeInput) (runner : Runner) → IsServing past runner → ActsSo member Tells past true (makes_room runner)
  makes_room_acts past runner s =
      let one = gives_up runner runner.node.kept.clock in
      let here = gives_up_acts past runner runner.node.kept.clock s in
      let later = here.leads.later in
      let up = accounts_up one.next.sessions in
      acts_then past true one (posts_for_all one.next) here
      (posts_act later here.leads.fit one.next here.leads.at (posted_for_all one.next.node.kept.clock (mail_of one.next) up)
      (posted_for_all_so cluster Tells telling member.number later here.leads.fit.may one.next.node.kept.clock (mail_of one.next) up here.waiting))

  pub tick_acts : (past : List NodeInput) (runner : Runner) (moment : ℕ) → IsServing past runner → ActsSo member Tells past true (on_tick runner moment)
  tick_acts past runner moment s =
      let first = ticked runner moment in
      let tick = tick_at moment (accounts_up runner.sessions) in
      let here = step_acts past runner runner.node tick (step_at runner.node tick)
      (tick_steps member past s.fit runner.node s.at moment (accounts_up runner.sessions)) s.waiting in
      acts_then past true first (makes_room first.next) here (makes_room_acts here.leads.later first.next (serving_then past first here))

  -- ---- an attempt that is granted, and goes out or fails

  module _ (takes : TakesDeliveries Tells) (past : List NodeInput) (runner : Runner) (s : IsServing past runner) where
    fails_acts : (slot : Slot) → ActsSo member Tells past true (fails_by runner (concluded runner.node slot unanswered))
    fails_acts slot =
        mute_acts past true (fails_by runner (concluded runner.node slot unanswered)) (unanswered_leads member past s.fit runner.node s.at slot) s.waiting tt

    pushes_acts : (slot : Slot) (taken : Submission) → WasSubmitted past taken → (number : ℕ) (session : Option Session) →
        ActsSo member Tells past true (pushes runner slot taken number session)
    pushes_acts slot taken submitted number None =
        mute_acts past true (pushes runner slot taken number None) (leads_still member past true runner.node s.fit s.at) s.waiting tt
    pushes_acts slot taken submitted number (Some session) = record {
      leads = leads_still member past true runner.node s.fit s.at;
      waiting = s.waiting;
      tell = λ last prints tells. takes last past member.number number session taken prints submitted tells;
    }

    sent_to_acts : (slot : Slot) (taken : Submission) → WasSubmitted past taken → (target : Option ℕ) →
        ActsSo member Tells past true (sent_to runner slot taken target)
    sent_to_acts slot taken submitted None = fails_acts slot
    sent_to_acts slot taken submitted (Some number) = pushes_acts slot taken submitted number (session_at runner.sessions number)

    sent_acts : (slot : Slot) (taken : Option Submission) → ((message : Submission) → taken ≡ Some message → WasSubmitted past message) →
        ActsSo member Tells past true (sent runner slot taken)
    sent_acts slot None submitted = fails_acts slot
    sent_acts slot (Some taken) submitted = sent_to_acts slot taken (submitted taken refl) (target_in runner.sessions (is_long taken.text) taken.target)

  -- what the node knows of a message was submitted
  submitted_here : (past : List NodeInput) (runner : Runner) (id : ℕ) → IsServing past runner → (message : Submission) →
      submission_at runner.node id ≡ Some message → WasSubmitted past message
  submitted_here past runner id s message is =
      by_known (message_at ((kept_reached cluster past).kept member.number) id).known refl
      (ap (λ (n : Node). submission_at n id) (sym s.at.is) ∙ is)
    where
      by_known : (known : Option (List Decree)) → (message_at ((kept_reached cluster past).kept member.number) id).known ≡ known →
          taken_on known ≡ Some message → WasSubmitted past message
      by_known None known_is takes = absurd cc
      by_known (Some chain) known_is takes = known_submitted cluster past s.fit.may member.number id chain known_is message takes

  pub grant_acts : TakesDeliveries Tells → (past : List NodeInput) (runner : Runner) (id : ℕ) → IsServing past runner →
      ActsSo member Tells past true (on_grant runner id)
  grant_acts takes past runner id s = by_refusal (grant_refusal runner.node.setup runner.node.kept id) refl
    where
      slot : Slot
      slot = known_slot runner.node.kept id

      by_refusal : (refusal : Option GrantRefusal) → grant_refusal runner.node.setup runner.node.kept id ≡ refusal →
          ActsSo member Tells past true (granted_unless runner id (known_slot runner.node.kept id) refusal)
      by_refusal (Some refusal) is =
          mute_acts past true (granted_unless runner id slot (Some refusal)) (leads_still member past true runner.node s.fit s.at) s.waiting
          ((ungranted_is_mute (refusal_number refusal), tt), tt)
      by_refusal None is =
          let one = granted runner (Grants slot) in
          let here = mute_acts past true one (grant_steps member past s.fit runner.node s.at id is).leads s.waiting tt in
          acts_then past true one (sent one.next slot (submission_at runner.node id)) here
          (sent_acts takes here.leads.later one.next (serving_then past one here) slot (submission_at runner.node id)
          (λ message taken_is.
          subst (λ (now : List NodeInput). WasSubmitted now message) (sym here.leads.later_is)
          (submitted_later (input_to member.number (Grants slot) ∷ []) past message (submitted_here past runner id s message taken_is))))

  -- ---- packets

  pub delivery_acts : (past : List NodeInput) (runner : Runner) (packet : Packet) → IsServing past runner → In packet (kept_reached cluster past).packets →
      ActsSo member Tells past true (on_delivery runner packet)
  delivery_acts past runner packet s sent =
      reports_act past runner runner.node (Delivery packet) (step_at runner.node (Delivery packet))
      (delivery_steps member past s.fit runner.node s.at packet sent) s.waiting

  -- ---- a restart

  -- the node is up then, or as it was
  pub restart_acts : (past : List NodeInput) (up : Bool) (runner : Runner) → IsFit cluster past → IsAt member past up runner.node →
      AreOut past runner.waiting → ActsSo member Tells past true (on_restart runner) ⊎ ActsSo member Tells past up (on_restart runner)
  restart_acts past up runner fit at waiting = by_test (nat_lt runner.node.kept.incarnation last_incarnation) refl
    where
      by_test : (left : Bool) → nat_lt runner.node.kept.incarnation last_incarnation ≡ left →
          ActsSo member Tells past true (if left then restarted runner else declined runner no_incarnation)
          ⊎ ActsSo member Tells past up (if left then restarted runner else declined runner no_incarnation)
      by_test true is =
          let left : runner.node.kept.incarnation < 9999 = grind (arith, nat_tests, is) in
          inl (mute_acts past true (restarted runner) (restart_steps member past fit runner.node up at left)
          (λ receipt among. absurd among) (gone_are_mute runner.sessions))
      by_test false is = inr (mute_acts past up (declined runner no_incarnation) (leads_still member past up runner.node fit at) waiting
          ((declined_is_mute no_incarnation, tt), tt))
