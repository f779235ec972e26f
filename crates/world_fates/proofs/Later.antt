-- What a node answers to requests that came behind certain inputs, by what each act of it does.
use Rattle.std.proofs.Common.{◌≡◌, ◌⊎◌, ℕ, Bool, true, false, cond, List, [], ◌∷◌, ◌++◌, map, Option, Some, None, Result, Ok, Err, refl}
use Rattle.std.proofs.Common.{sym, ◌∙◌, ap, subst, inl, inr}
use Rattle.std.specs.Prelude.{if◌then◌else◌, is_none, nat_lt}
use Rattle.std.specs.Map.{remove_entry}
use Rattle.std.specs.Ordering.{nat_cmp}
use Rattle.std.specs.BTreeMap.{is_at}
use Rattle.std.proofs.lemmas.List.{map-append}
use Rattle.mc_model.specs.message.Submission.{Submission}
use Rattle.mc_model.specs.synod.Lists.{In}
use Rattle.mc_model.specs.synod.Packet.{Packet, Slot}
use Rattle.mc_model.specs.node.Actor.{Request as Waited}
use Rattle.mc_model.specs.node.Grant.{GrantRefusal, refusal_number}
use Rattle.mc_model.specs.node.Input.{Arrival, Delivery as Comes, Grant as Grants, Input, Refusal, Response, Restart}
use Rattle.mc_model.specs.node.Outcome.{Outcome}
use Rattle.mc_model.specs.node.Outputs.{Reply}
use Rattle.mc_model.specs.cluster.Steps.{Cluster, setup_of}
use Rattle.mc_parts.proofs.Membership.{in_either, in_two}
use Rattle.mc_laws.proofs.invariant.Growth.{changed_here}
use Rattle.node_model.specs.Attempts.{grant_refusal}
use Rattle.node_model.specs.Granted.{is_open, known_slot}
use Rattle.node_model.specs.Outputs.{Stepped as NodeStep}
use Rattle.node_model.specs.Stepped.{stepped, stepped_down, stepped_up}
use Rattle.node_laws.specs.Clusters.{LivesOn, MayHappen, NodeInput, comes_to, kept_reached, outputs_at}
use Rattle.node_laws.proofs.invariant.Orders.{in_mapped}
use Rattle.pdu_tables.specs.CommandCodes.{command_of}
use Rattle.pdu_tables.specs.StatusCodes.{status_code}
use Rattle.pdu_tables.specs.declared.status.Status.{Status}
use Rattle.pdu_codec.specs.Grammar.{word_at}
use Rattle.pdu_codec.specs.Pdu.{read_pdu}
use Rattle.pdu_fields.specs.declared.fault.PduFault.{PduFault}
use Rattle.pdu_frames.specs.Frames.{Cut, begins_wrong, cut}
use Rattle.pdu_bodies.specs.declared.pdu.Pdu.{Pdu}
use Rattle.sessions.specs.Session.{Session}
use Rattle.sessions.specs.States.{is_gone}
use Rattle.sessions.specs.Responses.{requested_by}
use Rattle.sessions.specs.Steps.{can_wait, on_fault, on_pdu, on_tick as on_moment, on_wrong_length}
use Rattle.sessions.specs.declared.pushed.Delivery.{Delivery}
use Rattle.sessions.specs.declared.pushed.Delivery.TheVariants as deliveries
use Rattle.sessions.specs.declared.pushed.Pushed.{Pushed}
use Rattle.sessions.specs.declared.reaction.Reaction.{Reaction}
use Rattle.sessions.specs.declared.reaction.Reaction.TheVariants as reactions
use Rattle.sessions.specs.declared.request.OpenRequest.{OpenRequest}
use Rattle.sessions.specs.declared.requested.Requested.{Requested}
use Rattle.desk.specs.Admissions.{admitted}
use Rattle.desk.specs.Arrivals.{door_at, judged_as, next_id}
use Rattle.desk.specs.declared.door.Door.{Door}
use Rattle.desk.specs.declared.request.Request.{Request}
use Rattle.script_text.specs.Left.{followed_by, rests}
use Rattle.script_text.specs.Attempts.{Went, all_given_up, concluded, delivered_so, given_up, submission_at, unanswered, went}
use Rattle.script_text.specs.Node.{Node, step_at, tick_at, with_step}
use Rattle.script_text.specs.Prints.{AtOnce, Declined, Delivers, Gone, Late, Print, Ungranted}
use Rattle.script_text.specs.Pushes.{accounts_up, delivery_on, is_long, overdue_in, session_at, target_in, timely_in}
use Rattle.script_text.specs.Receipts.{Posted}
use Rattle.script_text.specs.Responses.{reply_pdu}
use Rattle.script_text.specs.Runner.{Acted, Came, Runner, Served, answered_by, came_by, declined, ends, fails_by, gives_up, gone_prints}
use Rattle.script_text.specs.Runner.{granted, granted_unless, held_in, holds, in_window, last_incarnation, mail_of, makes_room, no_incarnation}
use Rattle.script_text.specs.Runner.{nothing_came, on_delivery, on_done, on_frame, on_frames, on_grant, on_octets, on_reaction, on_read, on_request}
use Rattle.script_text.specs.Runner.{on_rest, on_restart, on_tick, opened_at, posts, posts_for, posts_for_all, pushes, put_at, refusal_prints}
use Rattle.script_text.specs.Runner.{reports_by, request_of, restarted, sent, sent_to, served_at, serves, session_in, ticked, unasked, with_posted}
use Rattle.script_text.specs.Settings.{Settings}
use Rattle.world_fates.proofs.node.Behind.{behind, behind_both, came_to, happened_before, input_to}
use Rattle.world_fates.proofs.node.StepsOut.{step_now}
use Rattle.world_fates.proofs.node.Telling.{IsMute, declined_is_mute, delivery_is_mute, gone_is_mute, refusal_is_mute, response_is_mute, ungranted_is_mute}
use Rattle.world_fates.proofs.Entries.{inserted_in, removed_in}
use Rattle.world_fates.proofs.Windows.{ComesOf, fault_so, pdu_so, wrong_length_so}
use Rattle.world_fates.proofs.Asking.{AllAsked, AsksOn, IsAside, Posts, all_posted_posts, in_session, posted_for_all_posts, posted_for_any_posts}
use Rattle.world_fates.proofs.Asking.{push_asked, replies_tell}

mute_aside : (print : Print) → IsMute print → ((session id : ℕ) (pdu : Pdu) → print ≡ Late session id pdu → ⊥) → IsAside print
mute_aside print mute never = record { state = mute.state; late = never }

gone_aside : (session : ℕ) → IsAside (Gone session)
gone_aside session = mute_aside (Gone session) (gone_is_mute session) never
  where
    never : (other id : ℕ) (pdu : Pdu) → Gone session ≡ Late other id pdu → ⊥
    never other id pdu is = cc

not_late : {session : ℕ} {pdu : Pdu} (other id : ℕ) (late : Pdu) → AtOnce session pdu ≡ Late other id late → ⊥
not_late other id late is = cc

-- no start comes among these
abbrev pub IsPlain : List Input → Type 0
IsPlain inputs = (lost : ℕ) → In (Restart lost) inputs → ⊥

only_plain : (input : Input) → ((lost : ℕ) → Restart lost ≡ input → ⊥) → IsPlain (input ∷ [])
only_plain input never lost (inl same) = never lost same
only_plain input never lost (inr none) = none

grant_no_start : (slot : Slot) (lost : ℕ) → Restart lost ≡ Grants slot → ⊥
grant_no_start slot lost is = cc

-- what comes of attempts is no start
concluded_plain : (node : Node) (slot : Slot) (outcome : Outcome) → IsPlain (concluded node slot outcome).inputs
concluded_plain node slot outcome = by_test (is_open node.kept slot)
  where
    by_test : (test : Bool) → IsPlain (cond {A = Went} test (went node (Response slot outcome)) (rests node)).inputs
    by_test true = only_plain (Response slot outcome) (λ lost is. cc)
    by_test false = λ lost among. among

delivered_plain : (node : Node) (delivery : Delivery) (outcome : Option Outcome) → IsPlain (delivered_so node delivery outcome).inputs
delivered_plain node (deliveries.Attempt slot) (Some outcome) = concluded_plain node slot outcome
delivered_plain node (deliveries.Attempt slot) None = λ lost among. among
delivered_plain node (deliveries.Receipt id) outcome = λ lost among. among

all_plain : (node : Node) (pushed : List Pushed) → IsPlain (all_given_up node pushed).inputs
unfolding all_given_up
all_plain node [] lost among = among
all_plain node (first ∷ others) lost among =
    let one = given_up node first in
    elim (in_either (Restart lost) one.inputs (all_given_up one.next others).inputs among) [
      | inl here ↦ delivered_plain node first.delivery (Some unanswered) lost here
      | inr there ↦ all_plain one.next others lost there
    ]

module _ (cluster : Cluster) (m : ℕ) (first : List NodeInput) where
  -- behind what came first a request came to the node and waits under a ticket, in the same life
  pub record CameSince (past : List NodeInput) (ticket : ℕ) : Type 0 where
    pub middle : List NodeInput
    pub front : List NodeInput
    pub request : Waited
    pub past_is : past ≡ middle ++ comes_to m (Arrival request) ∷ (front ++ first)
    pub given : (outputs_at cluster (front ++ first) (comes_to m (Arrival request))).ticket ≡ Some ticket
    pub lives : LivesOn m middle

  pub since_later : (past : List NodeInput) (next : NodeInput) → ((lost : ℕ) → comes_to m (Restart lost) ≡ next → ⊥) → (ticket : ℕ) →
      CameSince past ticket → CameSince (next ∷ past) ticket
  since_later past next never ticket it = record {
    middle = next ∷ it.middle;
    front = it.front;
    request = it.request;
    past_is = ap (λ (inputs : List NodeInput). next ∷ inputs) it.past_is;
    given = it.given;
    lives = λ lost among. elim among [ inl same ↦ never lost same | inr later ↦ it.lives lost later ];
  }

  -- it came on a session, on which it was asked for with this sequence_number
  pub record CameOn (Asked : ℕ → ℕ → Waited → Type 0) (past : List NodeInput) (number : ℕ) (waits : OpenRequest) : Type 0 where
    pub since : CameSince past waits.ticket
    pub asked : Asked number waits.sequence since.request

  pub on_later : (Asked : ℕ → ℕ → Waited → Type 0) (past : List NodeInput) (next : NodeInput) → ((lost : ℕ) → comes_to m (Restart lost) ≡ next → ⊥) →
      (number : ℕ) (waits : OpenRequest) → CameOn Asked past number waits → CameOn Asked (next ∷ past) number waits
  unfolding since_later
  on_later Asked past next never number waits it = record { since = since_later past next never waits.ticket it.since; asked = it.asked }

  -- the node of a script keeps what the node of the cluster keeps
  pub record IsNode (past : List NodeInput) (node : Node) : Type 0 where
    pub front : List NodeInput
    pub front_is : past ≡ front ++ first
    pub setup : node.setup ≡ setup_of cluster m
    pub kept : node.kept ≡ (kept_reached cluster past).kept m

  same_step : (past : List NodeInput) (node : Node) → IsNode past node → (input : Input) → step_at node input ≡ step_now cluster (input_to m input) past
  same_step past node is input = λ i. stepped (is.setup i) (is.kept i) input

  node_then : (past : List NodeInput) (node : Node) → IsNode past node → (input : Input) →
      IsNode (input_to m input ∷ past) (with_step node (step_at node input))
  node_then past node is input = record {
    front = input_to m input ∷ is.front;
    front_is = ap (λ (inputs : List NodeInput). input_to m input ∷ inputs) is.front_is;
    setup = is.setup;
    kept = ap (λ (s : NodeStep). s.kept) (same_step past node is input)
        ∙ sym (changed_here (kept_reached cluster past).kept m (step_now cluster (input_to m input) past).kept);
  }

  inputs_then : (one other : List Input) (past : List NodeInput) → came_to m (one ++ other) past ≡ came_to m other (came_to m one past)
  inputs_then one other past =
      ap (λ (inputs : List NodeInput). behind inputs past) (map-append (input_to m) one other)
      ∙ behind_both (map (input_to m) one) (map (input_to m) other) past

  may_last : (one other : List Input) (past : List NodeInput) → MayHappen cluster (came_to m (one ++ other) past) →
      MayHappen cluster (came_to m other (came_to m one past))
  may_last one other past may = subst (MayHappen cluster) (inputs_then one other past) may

  may_first : (one other : List Input) (past : List NodeInput) → MayHappen cluster (came_to m (one ++ other) past) →
      MayHappen cluster (came_to m one past)
  may_first one other past may = happened_before cluster (map (input_to m) other) (came_to m one past) (may_last one other past may)

  -- ---- what comes of attempts

  abbrev WentWell : List NodeInput → Went → Type 0
  WentWell past went = IsNode (came_to m went.inputs past) went.next

  concluded_well : (past : List NodeInput) (node : Node) → IsNode past node → (slot : Slot) (outcome : Outcome) →
      WentWell past (concluded node slot outcome)
  concluded_well past node is slot outcome = by_test (is_open node.kept slot)
    where
      by_test : (test : Bool) → WentWell past (cond {A = Went} test (went node (Response slot outcome)) (rests node))
      by_test true = node_then past node is (Response slot outcome)
      by_test false = is

  delivered_well : (past : List NodeInput) (node : Node) → IsNode past node → (delivery : Delivery) (outcome : Option Outcome) →
      WentWell past (delivered_so node delivery outcome)
  delivered_well past node is (deliveries.Attempt slot) (Some outcome) = concluded_well past node is slot outcome
  delivered_well past node is (deliveries.Attempt slot) None = is
  delivered_well past node is (deliveries.Receipt id) outcome = is

  all_well : (past : List NodeInput) (node : Node) → IsNode past node → (pushed : List Pushed) → WentWell past (all_given_up node pushed)
  unfolding all_given_up
  all_well past node is [] = is
  all_well past node is (next ∷ others) =
      let one = given_up node next in
      subst (λ (now : List NodeInput). IsNode now (all_given_up one.next others).next)
      (sym (inputs_then one.inputs (all_given_up one.next others).inputs past))
      (all_well (came_to m one.inputs past) one.next (delivered_well past node is next.delivery (Some unanswered)) others)

  -- ---- acts

  module _ (Before : ℕ → OpenRequest → Type 0) (Asked : ℕ → ℕ → Waited → Type 0) (Says : ℕ → OpenRequest → Reply → Type 0)
      (says : (front past : List NodeInput) → past ≡ front ++ first → (input : Input) (number : ℕ) (waits : OpenRequest) →
      Before number waits ⊎ CameOn Asked past number waits → MayHappen cluster (input_to m input ∷ past) → (reply : Reply) →
      waits.ticket ≡ reply.ticket → In reply (step_now cluster (input_to m input) past).outputs.replies → Says number waits reply) where
    abbrev pub CameBeforeOrSince : List NodeInput → ℕ → OpenRequest → Type 0
    CameBeforeOrSince past number waits = Before number waits ⊎ CameOn Asked past number waits

    -- what was asked for on a session with a sequence_number waits as that which was asked for
    abbrev pub AsksBy : ℕ → ℕ → Option Request → Type 0
    AsksBy number sequence wish =
        (asked : Request) → wish ≡ Some asked → (door : Door) (next : ℕ) (account : List ℕ) (request : Waited) →
        admitted door next account asked ≡ Ok request → Asked number sequence request

    abbrev pub FrameAsks : Settings → ℕ → List ℕ → Type 0
    FrameAsks settings number octets = (pdu : Pdu) → read_pdu octets ≡ Ok pdu → AsksBy number pdu.sequence (request_of settings.routes pdu.body)

    -- each request that waits came since, or before
    abbrev pub AllCame : List NodeInput → List (ℕ × Session) → Type 0
    AllCame past connected =
        (number : ℕ) (request : OpenRequest) → AsksOn connected number request → CameBeforeOrSince past number request

    -- a print answers a request so
    pub record IsAnswer (print : Print) : Type 0 where
      pub number : ℕ
      pub request : OpenRequest
      pub reply : Reply
      pub print_is : print ≡ Late number reply.id (reply_pdu request.requested request.sequence reply.id reply.answer)
      pub ticket_is : request.ticket ≡ reply.ticket
      pub so : Says number request reply

    abbrev pub IsFine : Print → Type 0
    IsFine print = IsAside print ⊎ IsAnswer print

    pub record ActsWell (past : List NodeInput) (acted : Acted) : Type 0 where
      pub node : IsNode (came_to m acted.inputs past) acted.next.node
      pub came : AllCame (came_to m acted.inputs past) acted.next.sessions
      pub fine : (print : Print) → In print acted.prints → IsFine print

    pub record ServesWell (past : List NodeInput) (runner : Runner) : Type 0 where
      pub node : IsNode past runner.node
      pub came : AllCame past runner.sessions

    then_serves : (past : List NodeInput) (acted : Acted) → ActsWell past acted → ServesWell (came_to m acted.inputs past) acted.next
    then_serves past acted acts = record { node = acts.node; came = acts.came }

    came_next : (past : List NodeInput) (connected : List (ℕ × Session)) (next : NodeInput) → ((lost : ℕ) → comes_to m (Restart lost) ≡ next → ⊥) →
        AllCame past connected → AllCame (next ∷ past) connected
    came_next past connected next never came number request asks = elim (came number request asks) [
      | inl before ↦ inl before
      | inr on ↦ inr (on_later Asked past next never number request on)
    ]

    came_through : (inputs : List Input) (past : List NodeInput) (connected : List (ℕ × Session)) → IsPlain inputs → AllCame past connected →
        AllCame (came_to m inputs past) connected
    came_through [] past connected plain came = came
    came_through (input ∷ inputs) past connected plain came =
        came_through inputs (input_to m input ∷ past) connected (λ lost among. plain lost (inr among))
        (came_next past connected (input_to m input) (λ lost same. plain lost (inl (ap (λ (n : NodeInput). n.input) same))) came)

    acts_then : (past : List NodeInput) (one other : Acted) → ActsWell past one → ActsWell (came_to m one.inputs past) other →
        ActsWell past (followed_by one other)
    acts_then past one other here there = record {
      node = subst (λ (now : List NodeInput). IsNode now other.next.node) (sym (inputs_then one.inputs other.inputs past)) there.node;
      came = subst (λ (now : List NodeInput). AllCame now other.next.sessions) (sym (inputs_then one.inputs other.inputs past)) there.came;
      fine = λ print among. elim (in_either print one.prints other.prints among) [ inl a ↦ here.fine print a | inr b ↦ there.fine print b ];
    }

    posts_well : (past : List NodeInput) (runner : Runner) (posted : Posted) → ServesWell past runner → Posts (mail_of runner) posted →
        ActsWell past (with_posted runner posted)
    posts_well past runner posted s it = record {
      node = s.node;
      came = λ number request asks. s.came number request (it.asked number request asks);
      fine = λ print among. inl (it.aside print among);
    }

    -- a step of the node, whose replies go out
    answered_well : (past : List NodeInput) (runner : Runner) (node : Node) (input : Input) → IsNode past node → AllCame past runner.sessions →
        ((lost : ℕ) → Restart lost ≡ input → ⊥) → MayHappen cluster (input_to m input ∷ past) →
        ActsWell past (answered_by runner node input (step_at node input))
    answered_well past runner node input is came never may =
        let tells = replies_tell runner.sessions (step_at node input).outputs.replies in
        record {
          node = node_then past node is input;
          came = λ number request asks.
              came_next past runner.sessions (input_to m input) (λ lost same. never lost (ap (λ (n : NodeInput). n.input) same)) came number request
              (tells.asked number request asks);
          fine = λ print among.
              let it = tells.prints print among in
              inr (record {
                number = it.number;
                request = it.request;
                reply = it.reply;
                print_is = it.print_is;
                ticket_is = it.ticket_is;
                so = says is.front past is.front_is input it.number it.request (came it.number it.request it.asks) may it.reply it.ticket_is
                    (subst (λ (s : NodeStep). In it.reply s.outputs.replies) (same_step past node is input) it.among);
              });
        }

    reports_well : (past : List NodeInput) (runner : Runner) (node : Node) (input : Input) → IsNode past node → AllCame past runner.sessions →
        ((lost : ℕ) → Restart lost ≡ input → ⊥) → MayHappen cluster (input_to m input ∷ past) →
        ActsWell past (reports_by runner node input (step_at node input))
    reports_well past runner node input is came never may =
        let one = answered_by runner node input (step_at node input) in
        let here = answered_well past runner node input is came never may in
        acts_then past one (posts one.next (step_at node input).outputs.receipts) here
        (posts_well (input_to m input ∷ past) one.next _ (then_serves past one here)
        (all_posted_posts one.next.node.kept.clock (mail_of one.next) (step_at node input).outputs.receipts))

    pub delivery_well : (past : List NodeInput) (runner : Runner) (packet : Packet) → ServesWell past runner →
        MayHappen cluster (input_to m (Comes packet) ∷ past) → ActsWell past (on_delivery runner packet)
    delivery_well past runner packet s may = reports_well past runner runner.node (Comes packet) s.node s.came (λ lost is. cc) may

    -- ---- a moment

    moment_asked : (connected : List (ℕ × Session)) (now : ℕ) → AllAsked connected (timely_in connected now)
    moment_asked connected now number request asks =
        let it = in_mapped (λ (entry : ℕ × Session). (entry.0, on_moment entry.1 now)) connected (number, asks.session) asks.there in
        record {
          session = it.from.1;
          there = subst (λ (n : ℕ). In (n, it.from.1) connected) (sym (ap (λ (x : ℕ × Session). x.0) it.is)) it.among;
          among = subst (λ (s : Session). In request s.requests) (ap (λ (x : ℕ × Session). x.1) it.is) asks.among;
        }

    gives_up_well : (past : List NodeInput) (runner : Runner) (now : ℕ) → ServesWell past runner → ActsWell past (gives_up runner now)
    gives_up_well past runner now s = record {
      node = all_well past runner.node s.node (overdue_in runner.sessions now);
      came = λ number request asks.
          came_through (all_given_up runner.node (overdue_in runner.sessions now)).inputs past runner.sessions
          (all_plain runner.node (overdue_in runner.sessions now)) s.came number request (moment_asked runner.sessions now number request asks);
      fine = λ print among. absurd among;
    }

    makes_room_well : (past : List NodeInput) (runner : Runner) → ServesWell past runner → ActsWell past (makes_room runner)
    makes_room_well past runner s =
        let one = gives_up runner runner.node.kept.clock in
        let here = gives_up_well past runner runner.node.kept.clock s in
        acts_then past one (posts_for_all one.next) here
        (posts_well (came_to m one.inputs past) one.next _ (then_serves past one here)
        (posted_for_all_posts one.next.node.kept.clock (mail_of one.next) (accounts_up one.next.sessions)))

    pub tick_well : (past : List NodeInput) (runner : Runner) (moment : ℕ) → ServesWell past runner →
        MayHappen cluster (came_to m (on_tick runner moment).inputs past) → ActsWell past (on_tick runner moment)
    tick_well past runner moment s may =
        let one = ticked runner moment in
        let tick = tick_at moment (accounts_up runner.sessions) in
        let here = answered_well past runner runner.node tick s.node s.came (λ lost is. cc)
        (may_first one.inputs (makes_room one.next).inputs past may) in
        acts_then past one (makes_room one.next) here (makes_room_well (came_to m one.inputs past) one.next (then_serves past one here))

    -- ---- a stop, and a start

    pub ended_well : (past : List NodeInput) (runner : Runner) (input : Input) → IsNode past runner.node → (acted : Acted) →
        acted ≡ record {
          next = record { node = with_step runner.node (step_at runner.node input); sessions = []; streams = []; waiting = [] };
          inputs = input ∷ [];
          prints = gone_prints runner.sessions;
        } → ActsWell past acted
    ended_well past runner input is acted same =
        subst (ActsWell past) (sym same) (record {
          node = node_then past runner.node is input;
          came = λ number request asks. absurd asks.there;
          fine = λ print among. inl (gone_fine print among);
        })
      where
        gone_fine : (print : Print) → In print (gone_prints runner.sessions) → IsAside print
        gone_fine print among =
            let it = in_mapped (λ (entry : ℕ × Session). Gone entry.0) runner.sessions print among in
            subst IsAside (sym it.is) (gone_aside it.from.0)

    pub restart_well : (past : List NodeInput) (runner : Runner) → ServesWell past runner → ActsWell past (on_restart runner)
    restart_well past runner s = by_test (nat_lt runner.node.kept.incarnation last_incarnation)
      where
        declined_aside : IsAside (Declined no_incarnation)
        declined_aside = mute_aside (Declined no_incarnation) (declined_is_mute no_incarnation) never
          where
            never : (other id : ℕ) (pdu : Pdu) → Declined no_incarnation ≡ Late other id pdu → ⊥
            never other id pdu is = cc

        by_test : (left : Bool) → ActsWell past (if left then restarted runner else declined runner no_incarnation)
        by_test true = ended_well past runner (Restart 0) s.node (restarted runner) refl
        by_test false = record {
          node = s.node;
          came = s.came;
          fine = λ print among. elim among [ inl same ↦ inl (subst IsAside (sym same) declined_aside) | inr none ↦ absurd none ];
        }

    -- ---- a frame

    record ServedWell (past : List NodeInput) (number : ℕ) (before : Session) (served : Served) : Type 0 where
      node : IsNode (came_to m served.inputs past) served.next.node
      came : (request : OpenRequest) → In request served.next.session.requests →
          In request before.requests ⊎ CameOn Asked (came_to m served.inputs past) number request
      plain : IsPlain served.inputs
      aside : (print : Print) → In print served.prints → IsAside print

    module _ (past : List NodeInput) (node : Node) (is : IsNode past node) (number : ℕ) where
      at_once_aside : {pdu : Pdu} (print : Print) → IsMute (AtOnce number pdu) → print ≡ AtOnce number pdu → IsAside print
      at_once_aside {pdu} print mute same = subst IsAside (sym same) (mute_aside (AtOnce number pdu) mute not_late)

      unasked_well : (before session : Session) (prints : List Print) → ((request : OpenRequest) → In request session.requests → In request before.requests) →
          ((print : Print) → In print prints → IsAside print) → ServedWell past number before (unasked node session prints)
      unasked_well before session prints less aside = record {
        node = is;
        came = λ request among. inl (less request among);
        plain = λ lost among. among;
        aside = aside;
      }

      asked_since : (judged : Result Waited Status) (waits : OpenRequest) → ((request : Waited) → judged ≡ Ok request → Asked number waits.sequence request) →
          (step_at node (judged_as judged)).outputs.ticket ≡ Some waits.ticket → CameOn Asked (input_to m (judged_as judged) ∷ past) number waits
      asked_since (Ok request) waits asked given = record {
        since = record {
          middle = [];
          front = is.front;
          request = request;
          past_is = ap (λ (inputs : List NodeInput). comes_to m (Arrival request) ∷ inputs) is.front_is;
          given = subst (λ (inputs : List NodeInput). (outputs_at cluster inputs (comes_to m (Arrival request))).ticket ≡ Some waits.ticket) is.front_is
              (ap (λ (s : NodeStep). s.outputs.ticket) (sym (same_step past node is (Arrival request))) ∙ given);
          lives = λ lost among. among;
        };
        asked = asked request refl;
      }
      asked_since (Err status) waits asked given = absurd (by_up node.kept.up given)
        where
          by_up : (up : Bool) →
              (if up then stepped_up node.setup node.kept (Refusal (status_code status))
              else stepped_down node.setup node.kept (Refusal (status_code status))).outputs.ticket ≡ Some waits.ticket → ⊥
          by_up true given = cc
          by_up false given = cc

      judged_plain : (judged : Result Waited Status) → IsPlain (judged_as judged ∷ [])
      judged_plain (Ok request) = only_plain (Arrival request) (λ lost is. cc)
      judged_plain (Err status) = only_plain (Refusal (status_code status)) (λ lost is. cc)

      window_came : (before session : Session) (requested : Requested) (sequence : ℕ) (input : Input) →
          ((request : OpenRequest) → In request session.requests → In request before.requests) → (ticket : Option ℕ) →
          ((waits : OpenRequest) → waits.sequence ≡ sequence → ticket ≡ Some waits.ticket → CameOn Asked (input_to m input ∷ past) number waits) →
          (request : OpenRequest) → In request (in_window session requested sequence ticket).requests →
          In request before.requests ⊎ CameOn Asked (input_to m input ∷ past) number request
      window_came before session requested sequence input less None since request among = inl (less request among)
      window_came before session requested sequence input less (Some ticket) since request among = by_test (can_wait session) among
        where
          new : OpenRequest
          new = record { ticket = ticket; requested = requested; sequence = sequence }

          by_test : (can : Bool) → In request (if can then record session { requests = session.requests ++ new ∷ [] } else session).requests →
              In request before.requests ⊎ CameOn Asked (input_to m input ∷ past) number request
          by_test true among = elim (in_two request session.requests new among) [
            | inl old ↦ inl (less request old)
            | inr same ↦ inr (subst (CameOn Asked (input_to m input ∷ past) number) (sym same) (since new refl refl))
          ]
          by_test false among = inl (less request among)

      refusal_aside : (requested : Requested) (sequence : ℕ) (refused : Option ℕ) (print : Print) →
          In print (refusal_prints number requested sequence refused) → IsAside print
      refusal_aside requested sequence None print among = absurd among
      refusal_aside requested sequence (Some status) print (inl same) = at_once_aside print (refusal_is_mute number requested sequence status) same
      refusal_aside requested sequence (Some status) print (inr none) = absurd none

      request_well : (before session : Session) (requested : Requested) (sequence : ℕ) (account : Option (List ℕ)) (request : Option Request) →
          ((waits : OpenRequest) → In waits session.requests → In waits before.requests) → AsksBy number sequence request →
          ServedWell past number before (on_request number node session requested sequence account request)
      request_well before session requested sequence None request less asks = unasked_well before session [] less (λ print among. absurd among)
      request_well before session requested sequence (Some account) None less asks = unasked_well before session [] less (λ print among. absurd among)
      request_well before session requested sequence (Some account) (Some request) less asks =
          let judged = admitted (door_at node.setup node.kept) (next_id node.setup node.kept) account request in
          let input = judged_as judged in
          let step = step_at node input in
          record {
            node = node_then past node is input;
            came = window_came before session requested sequence input less step.outputs.ticket
                (λ waits same given. asked_since judged waits
                (λ waited is. subst (λ (n : ℕ). Asked number n waited) (sym same)
                (asks request refl (door_at node.setup node.kept) (next_id node.setup node.kept) account waited is)) given);
            plain = judged_plain judged;
            aside = refusal_aside requested sequence step.outputs.refused;
          }

      reaction_well : (settings : Settings) (came : Came) (before session : Session) (reaction : Reaction) →
          ComesOf before (record { next = session; reaction = reaction }) → AsksBy number came.sequence came.request →
          ServedWell past number before (on_reaction settings number node came session reaction)
      reaction_well settings came before session (reactions.Ask requested) comes asks =
          request_well before session requested came.sequence session.account came.request comes.less asks
      reaction_well settings came before session (reactions.Answered pushed) comes asks = record {
        node = delivered_well past node is pushed.delivery (came.outcome pushed.sequence);
        came = λ request among. inl (comes.less request among);
        plain = delivered_plain node pushed.delivery (came.outcome pushed.sequence);
        aside = λ print among. absurd among;
      }
      reaction_well settings came before session (reactions.Leave outgoing abandoned) comes asks = record {
        node = all_well past node is abandoned;
        came = λ request among. inl (comes.less request among);
        plain = all_plain node abandoned;
        aside = λ print among. elim among [
          | inl same ↦ at_once_aside print (response_is_mute number settings.system_id outgoing) same
          | inr (inl same) ↦ subst IsAside (sym same) (gone_aside number)
          | inr (inr none) ↦ absurd none
        ];
      }
      reaction_well settings came before session (reactions.Respond outgoing) comes asks =
          unasked_well before session _ comes.less (λ print among. elim among [
            | inl same ↦ at_once_aside print (response_is_mute number settings.system_id outgoing) same
            | inr none ↦ absurd none
          ])
      reaction_well settings came before session reactions.Nothing comes asks = unasked_well before session [] comes.less (λ print among. absurd among)

      nothing_asks : AsksBy number nothing_came.sequence nothing_came.request
      nothing_asks asked is = absurd cc

      read_well : (settings : Settings) (session : Session) (octets : List ℕ) (read : Result Pdu PduFault) →
          ((pdu : Pdu) → read ≡ Ok pdu → AsksBy number pdu.sequence (request_of settings.routes pdu.body)) →
          ServedWell past number session (on_read settings number node session octets read)
      read_well settings session octets (Ok pdu) asks =
          let done = on_pdu settings.accounts session pdu in
          reaction_well settings (came_by settings pdu) session done.next done.reaction (pdu_so settings.accounts session pdu) (asks pdu refl)
      read_well settings session octets (Err fault) asks =
          let done = on_fault session fault (requested_by (command_of (word_at 4 octets))) (word_at 12 octets) in
          reaction_well settings nothing_came session done.next done.reaction
          (fault_so session fault (requested_by (command_of (word_at 4 octets))) (word_at 12 octets)) nothing_asks

      wrong_length_well : (settings : Settings) (session : Session) →
          ServedWell past number session (on_done settings number node nothing_came (on_wrong_length session))
      wrong_length_well settings session =
          reaction_well settings nothing_came session (on_wrong_length session).next (on_wrong_length session).reaction (wrong_length_so session)
          nothing_asks

    -- ---- a session is served

    served_well : (past : List NodeInput) (runner : Runner) (number : ℕ) (served : Served) → ServesWell past runner →
        ServedWell past number (session_in runner.sessions number) served → ActsWell past (served_at runner number served)
    served_well past runner number served s it = by_test (is_gone served.next.session.state)
      where
        next : Runner
        next = record runner { node = served.next.node }

        without : List (ℕ × Session)
        without = remove_entry (is_at (nat_cmp number)) runner.sessions

        now : List NodeInput
        now = came_to m served.inputs past

        old_came : AllCame now runner.sessions
        old_came = came_through served.inputs past runner.sessions it.plain s.came

        left_came : (other : ℕ) (request : OpenRequest) (session : Session) → In (other, session) without → In request session.requests →
            CameBeforeOrSince now other request
        left_came other request session there among =
            old_came other request
            (record { session = session; there = removed_in (is_at (nat_cmp number)) runner.sessions (other, session) there; among = among })

        put_came : (other : ℕ) (request : OpenRequest) (session : Session) →
            (◌≡◌ {A = ℕ × Session} (other, session) (number, served.next.session)) ⊎ In (other, session) without → In request session.requests →
            CameBeforeOrSince now other request
        put_came other request session (inl new) among =
            subst (λ (n : ℕ). CameBeforeOrSince now n request) (sym (ap (λ (x : ℕ × Session). x.0) new))
            (elim (it.came request (subst (λ (x : Session). In request x.requests) (ap (λ (x : ℕ × Session). x.1) new) among)) [
              | inl old ↦ old_came number request (in_session runner.sessions number request old)
              | inr on ↦ inr on
            ])
        put_came other request session (inr old) among = left_came other request session old among

        by_test : (gone : Bool) → ActsWell past (record {
          next = if gone then record next { sessions = without } else record next { sessions = put_at runner.sessions number served.next.session };
          inputs = served.inputs;
          prints = served.prints;
        })
        by_test true = record {
          node = it.node;
          came = λ other request asks. left_came other request asks.session asks.there asks.among;
          fine = λ print among. inl (it.aside print among);
        }
        by_test false = record {
          node = it.node;
          came = λ other request asks.
              put_came other request asks.session (inserted_in without number served.next.session (other, asks.session) asks.there) asks.among;
          fine = λ print among. inl (it.aside print among);
        }

    serves_well : (past : List NodeInput) (runner : Runner) (number : ℕ) (served : Served) → ServesWell past runner →
        ServedWell past number (session_in runner.sessions number) served → ActsWell past (serves runner number served)
    serves_well past runner number served s it =
        let one = served_at runner number served in
        let here = served_well past runner number served s it in
        acts_then past one (posts_for one.next served.next.session.account) here
        (posts_well (came_to m one.inputs past) one.next _ (then_serves past one here)
        (posted_for_any_posts one.next.node.kept.clock (mail_of one.next) served.next.session.account))

    frame_well : (settings : Settings) (number : ℕ) (past : List NodeInput) (runner : Runner) (octets : List ℕ) → FrameAsks settings number octets →
        ServesWell past runner → ActsWell past (on_frame settings number runner octets)
    unfolding on_frame
    frame_well settings number past runner octets asks s =
        serves_well past runner number _ s
        (read_well past runner.node s.node number settings (session_in runner.sessions number) octets (read_pdu octets) asks)

    rest_well : (settings : Settings) (number : ℕ) (past : List NodeInput) (runner : Runner) (rest : List ℕ) → ServesWell past runner →
        ActsWell past (on_rest settings number runner rest)
    rest_well settings number past runner rest s = by_test (begins_wrong rest)
      where
        by_test : (wrong : Bool) → ActsWell past (cond {A = Acted} wrong (ends settings number runner) (holds runner number rest))
        by_test true = serves_well past runner number _ s (wrong_length_well past runner.node s.node number settings (session_in runner.sessions number))
        by_test false = record { node = s.node; came = s.came; fine = λ print among. absurd among }

    frames_well : (settings : Settings) (number : ℕ) (past : List NodeInput) (runner : Runner) (frames : List (List ℕ)) (rest : List ℕ) →
        ((frame : List ℕ) → In frame frames → FrameAsks settings number frame) → ServesWell past runner →
        ActsWell past (on_frames settings number runner frames rest)
    unfolding on_frames
    frames_well settings number past runner [] rest asks s = rest_well settings number past runner rest s
    frames_well settings number past runner (frame ∷ frames) rest asks s =
        by_test (is_none (session_at one.next.sessions number))
        (frames_well settings number (came_to m one.inputs past) one.next frames rest (λ other among. asks other (inr among))
        (then_serves past one here))
      where
        one : Acted
        one = on_frame settings number runner frame

        here : ActsWell past one
        here = frame_well settings number past runner frame (asks frame (inl refl)) s

        other : Acted
        other = on_frames settings number one.next frames rest

        by_test : (gone : Bool) → ActsWell (came_to m one.inputs past) other → ActsWell past (cond {A = Acted} gone one (followed_by one other))
        by_test true later = here
        by_test false later = acts_then past one other here later

    pub octets_well : (settings : Settings) (past : List NodeInput) (runner : Runner) (number : ℕ) (octets : List ℕ) →
        ((frame : List ℕ) → In frame (cut (held_in runner.streams number ++ octets)).frames → FrameAsks settings number frame) → ServesWell past runner →
        ActsWell past (on_octets settings runner number octets)
    unfolding on_octets
    octets_well settings past runner number octets asks s =
        let stream : Cut = cut (held_in runner.streams number ++ octets) in
        frames_well settings number past (opened_at runner number) stream.frames stream.rest asks (record { node = s.node; came = opened_came })
      where
        opened_came : AllCame past (opened_at runner number).sessions
        opened_came other request asks =
            elim (inserted_in (remove_entry (is_at (nat_cmp number)) runner.sessions) number (session_in runner.sessions number) (other, asks.session)
            asks.there) [
              | inl new ↦
                  subst (λ (n : ℕ). CameBeforeOrSince past n request) (sym (ap (λ (x : ℕ × Session). x.0) new))
                  (s.came number request (in_session runner.sessions number request
                  (subst (λ (x : Session). In request x.requests) (ap (λ (x : ℕ × Session). x.1) new) asks.among)))
              | inr old ↦
                  s.came other request (record {
                    session = asks.session;
                    there = removed_in (is_at (nat_cmp number)) runner.sessions (other, asks.session) old;
                    among = asks.among;
                  })
            ]

    -- ---- an attempt that is granted

    module _ (past : List NodeInput) (runner : Runner) (s : ServesWell past runner) where
      fails_well : (slot : Slot) → ActsWell past (fails_by runner (concluded runner.node slot unanswered))
      fails_well slot = record {
        node = concluded_well past runner.node s.node slot unanswered;
        came = came_through (concluded runner.node slot unanswered).inputs past runner.sessions (concluded_plain runner.node slot unanswered) s.came;
        fine = λ print among. absurd among;
      }

      pushes_well : (slot : Slot) (taken : Submission) (number : ℕ) (session : Option Session) → ActsWell past (pushes runner slot taken number session)
      pushes_well slot taken number None = record { node = s.node; came = s.came; fine = λ print among. absurd among }
      pushes_well slot taken number (Some session) = record {
        node = s.node;
        came = λ other request asks.
            s.came other request (push_asked runner.sessions number runner.node.kept.clock (deliveries.Attempt slot) other request asks);
        fine = λ print among. elim among [ inl same ↦ inl (subst IsAside (sym same) aside) | inr none ↦ absurd none ];
      }
        where
          never : {pdu : Pdu} (other id : ℕ) (late : Pdu) → Delivers number pdu ≡ Late other id late → ⊥
          never other id late is = cc

          aside : IsAside (Delivers number (delivery_on session taken))
          aside = mute_aside (Delivers number (delivery_on session taken)) (delivery_is_mute number session taken) never

      sent_to_well : (slot : Slot) (taken : Submission) (target : Option ℕ) → ActsWell past (sent_to runner slot taken target)
      sent_to_well slot taken None = fails_well slot
      sent_to_well slot taken (Some number) = pushes_well slot taken number (session_at runner.sessions number)

      sent_well : (slot : Slot) (taken : Option Submission) → ActsWell past (sent runner slot taken)
      sent_well slot None = fails_well slot
      sent_well slot (Some taken) = sent_to_well slot taken (target_in runner.sessions (is_long taken.text) taken.target)

    pub grant_well : (past : List NodeInput) (runner : Runner) (id : ℕ) → ServesWell past runner → ActsWell past (on_grant runner id)
    grant_well past runner id s = by_refusal (grant_refusal runner.node.setup runner.node.kept id)
      where
        slot : Slot
        slot = known_slot runner.node.kept id

        one : Acted
        one = granted runner (Grants slot)

        here : ActsWell past one
        here = record {
          node = node_then past runner.node s.node (Grants slot);
          came = came_next past runner.sessions (input_to m (Grants slot)) never s.came;
          fine = λ print among. absurd among;
        }
          where
            never : (lost : ℕ) → comes_to m (Restart lost) ≡ input_to m (Grants slot) → ⊥
            never lost same = grant_no_start slot lost (ap (λ (n : NodeInput). n.input) same)

        ungranted_aside : (reason : ℕ) → IsAside (Ungranted reason)
        ungranted_aside reason = mute_aside (Ungranted reason) (ungranted_is_mute reason) never
          where
            never : (other id : ℕ) (pdu : Pdu) → Ungranted reason ≡ Late other id pdu → ⊥
            never other id pdu is = cc

        by_refusal : (refusal : Option GrantRefusal) → ActsWell past (granted_unless runner id slot refusal)
        by_refusal None =
            acts_then past one (sent one.next slot (submission_at runner.node id)) here
            (sent_well (input_to m (Grants slot) ∷ past) one.next (then_serves past one here) slot (submission_at runner.node id))
        by_refusal (Some refusal) = record {
          node = s.node;
          came = s.came;
          fine = λ print among. elim among [
            | inl same ↦ inl (subst IsAside (sym same) (ungranted_aside (refusal_number refusal)))
            | inr none ↦ absurd none
          ];
        }
