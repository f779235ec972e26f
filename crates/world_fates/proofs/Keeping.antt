-- What an act of a node leaves of the deliver_sm that wait for their answers at its sessions, and when it brings an answer.
use Rattle.std.proofs.Common.{◌≡◌, ◌⊎◌, ℕ, zero, suc, Bool, true, false, cond, List, [], ◌∷◌, ◌++◌, length, Option, Some, None, Result, Ok, Err, refl}
use Rattle.std.proofs.Common.{sym, ◌∙◌, ap, subst, inl, inr}
use Rattle.std.specs.Prelude.{if◌then◌else◌, find, is_none, nat_lt}
use Rattle.std.specs.Map.{lookup, remove_entry}
use Rattle.std.specs.Ordering.{nat_cmp}
use Rattle.std.specs.BTreeMap.{is_at}
use Rattle.mc_model.specs.message.Decree.{Delivered}
use Rattle.mc_model.specs.message.Submission.{Submission}
use Rattle.mc_model.specs.synod.Lists.{In}
use Rattle.mc_model.specs.synod.Packet.{Packet, Slot}
use Rattle.mc_model.specs.node.Actor.{Request as Waited}
use Rattle.mc_model.specs.node.Grant.{GrantRefusal}
use Rattle.mc_model.specs.node.Input.{Delivery as Comes, Grant as Grants, Input, Response}
use Rattle.mc_model.specs.node.Outcome.{Concluded, Outcome}
use Rattle.mc_model.specs.node.Outputs.{Receipt, Reply}
use Rattle.mc_parts.proofs.Membership.{in_either, in_filter}
use Rattle.node_model.specs.Attempts.{grant_refusal}
use Rattle.node_model.specs.Granted.{is_open, known_slot}
use Rattle.node_model.specs.Outputs.{Stepped as NodeStep}
use Rattle.node_laws.proofs.invariant.Orders.{in_mapped}
use Rattle.pdu_tables.specs.CommandCodes.{command_of}
use Rattle.pdu_tables.specs.declared.status.Status.{Status}
use Rattle.pdu_codec.specs.Grammar.{word_at}
use Rattle.pdu_codec.specs.Pdu.{read_pdu}
use Rattle.pdu_fields.specs.declared.fault.PduFault.{PduFault}
use Rattle.pdu_frames.specs.Frames.{Cut, begins_wrong, cut}
use Rattle.pdu_bodies.specs.declared.pdu.Pdu.{Pdu}
use Rattle.receipts.specs.Texts.{Report}
use Rattle.sessions.specs.Session.{Session}
use Rattle.sessions.specs.States.{is_gone}
use Rattle.sessions.specs.Responses.{requested_by}
use Rattle.sessions.specs.Steps.{Done, on_pdu, on_push, on_reply, on_tick as on_moment}
use Rattle.sessions.specs.declared.pushed.Delivery.{Delivery}
use Rattle.sessions.specs.declared.pushed.Delivery.TheVariants as deliveries
use Rattle.sessions.specs.declared.pushed.Pushed.{Pushed}
use Rattle.sessions.specs.declared.reaction.Reaction.{Reaction}
use Rattle.sessions.specs.declared.reaction.Reaction.TheVariants as reactions
use Rattle.sessions.specs.declared.requested.Requested.{Requested}
use Rattle.desk.specs.Admissions.{admitted}
use Rattle.desk.specs.Arrivals.{door_at, judged_as, next_id}
use Rattle.desk.specs.declared.request.Request.{Request}
use Rattle.script_text.specs.Left.{followed_by, in_front, rests}
use Rattle.script_text.specs.Attempts.{Went, all_given_up, concluded, delivered_so, given_up, submission_at, unanswered, went}
use Rattle.script_text.specs.Node.{Node, request_at, step_at, tick_at}
use Rattle.script_text.specs.Prints.{AtOnce, Delivers, Gone, Print, Ungranted}
use Rattle.script_text.specs.Pushes.{accounts_up, delivery_on, is_long, overdue_in, pushed_on, session_at, target_in, timely_in, with_push}
use Rattle.script_text.specs.Receipts.{Mail, Posted, all_posted, goes_out, goes_out_up_to, is_for, posted, posted_for, posted_for_all}
use Rattle.script_text.specs.Receipts.{posted_for_any, posted_to, reports_on, submitter_of, waits_for, with_both}
use Rattle.script_text.specs.Runner.{Acted, Came, Owned, Runner, Served, Told, answered_by, came_by, declined, ends, fails_by, gives_up}
use Rattle.script_text.specs.Runner.{granted, granted_unless, held_in, holds, in_window, last_incarnation, mail_of, makes_room}
use Rattle.script_text.specs.Runner.{no_incarnation, nothing_came, on_delivery, on_done, on_frame, on_frames, on_grant, on_octets, on_reaction}
use Rattle.script_text.specs.Runner.{on_read, on_request, on_rest, on_restart, on_tick, opened_at, owner_of, posts, posts_for, posts_for_all}
use Rattle.script_text.specs.Runner.{pushes, put_at, refusal_prints, replied, replied_at, reply_prints, reports_by, restarted, sent, sent_to}
use Rattle.script_text.specs.Runner.{served_at, serves, session_in, ticked, told, unasked, with_posted}
use Rattle.script_text.specs.Settings.{Settings}
use Rattle.world_fates.proofs.Entries.{AreApart, Has, found_entry, insert_apart, inserted_in, map_apart, none_left, remove_apart, removed_in, set_apart, set_in}
use Rattle.world_fates.proofs.Windows.{ComesOf, IsAcknowledged, IsFewer, Waits, WaitsOn, acknowledged, fault_so, fewer_waits, in_session, pdu_so}
use Rattle.world_fates.proofs.Windows.{push_waits, wait_fewer, wrong_length_so}

-- ---- sessions that change

-- what waits on these waited on those
abbrev AllWaited : List (ℕ × Session) → List (ℕ × Session) → Type 0
AllWaited before after = (number : ℕ) (slot : Slot) (sequence : ℕ) → WaitsOn after number slot sequence → WaitsOn before number slot sequence

-- one of them is another now, on which what waits waited on the one before
changed_waited : (before : List (ℕ × Session)) (at : ℕ) (session next : Session) → In (at, session) before → IsFewer session next →
    (number : ℕ) (other : Session) → (◌≡◌ {A = ℕ × Session} (number, other) (at, next)) ⊎ In (number, other) before → (slot : Slot) (sequence : ℕ) →
    Waits other.pushed slot sequence → WaitsOn before number slot sequence
changed_waited before at session next there fewer number other (inl new) slot sequence waits = record {
  session = session;
  there = subst (λ (n : ℕ). In (n, session) before) (sym (ap (λ (x : ℕ × Session). x.0) new)) there;
  waits = fewer_waits session next fewer slot sequence
      (subst (λ (s : Session). Waits s.pushed slot sequence) (ap (λ (x : ℕ × Session). x.1) new) waits);
}
changed_waited before at session next there fewer number other (inr old) slot sequence waits =
    record { session = other; there = old; waits = waits }

-- ---- a receipt is pushed

receipt_pushed : (connected : List (ℕ × Session)) (at now id : ℕ) → AllWaited connected (with_push connected at now (deliveries.Receipt id))
receipt_pushed connected at now id number slot sequence waits = by_found (lookup (is_at (nat_cmp at)) connected) refl waits
  where
    never : deliveries.Receipt id ≡ deliveries.Attempt slot → ⊥
    never is = cc

    by_found : (found : Option Session) → lookup (is_at (nat_cmp at)) connected ≡ found →
        WaitsOn (pushed_on connected at now (deliveries.Receipt id) found) number slot sequence → WaitsOn connected number slot sequence
    by_found None is waits = waits
    by_found (Some session) is waits =
        elim (set_in at connected (on_push session now (deliveries.Receipt id)) (number, waits.session) waits.there) [
          | inl new ↦
              elim (push_waits session now (deliveries.Receipt id) slot sequence
              (subst (λ (s : Session). Waits s.pushed slot sequence) (ap (λ (x : ℕ × Session). x.1) new) waits.waits)) [
                | inl old ↦ record {
                  session = session;
                  there = subst (λ (n : ℕ). In (n, session) connected) (sym (ap (λ (x : ℕ × Session). x.0) new)) (found_entry connected at session is);
                  waits = old;
                }
                | inr pushed ↦ absurd (never pushed.0)
              ]
          | inr old ↦ record { session = waits.session; there = old; waits = waits.waits }
        ]

push_apart : (connected : List (ℕ × Session)) (at now : ℕ) (delivery : Delivery) → AreApart connected → AreApart (with_push connected at now delivery)
push_apart connected at now delivery apart = by_found (session_at connected at)
  where
    by_found : (found : Option Session) → AreApart (pushed_on connected at now delivery found)
    by_found None = apart
    by_found (Some session) = set_apart (is_at (nat_cmp at)) connected (on_push session now delivery) apart

-- ---- receipts go out

record Posts (mail : Mail) (posted : Posted) : Type 0 where
  apart : AreApart posted.next.sessions
  waited : AllWaited mail.sessions posted.next.sessions
  ungone : (number : ℕ) → In (Gone number) posted.prints → ⊥

stays_posted : (mail : Mail) → AreApart mail.sessions → Posts mail (rests mail)
stays_posted mail apart = record { apart = apart; waited = λ number slot sequence waits. waits; ungone = λ number among. among }

then_posts : (mail : Mail) (first last : Posted) → Posts mail first → Posts first.next last → Posts mail (followed_by first last)
then_posts mail first last one other = record {
  apart = other.apart;
  waited = λ number slot sequence waits. one.waited number slot sequence (other.waited number slot sequence waits);
  ungone = λ number among. elim (in_either (Gone number) first.prints last.prints among) [
    | inl here ↦ one.ungone number here
    | inr there ↦ other.ungone number there
  ];
}

reports_ungone : (at : ℕ) (session : Option Session) (report : Option Report) (number : ℕ) → In (Gone number) (reports_on at session report) → ⊥
reports_ungone at (Some session) (Some report) number (inl same) = cc
reports_ungone at (Some session) (Some report) number (inr none) = none
reports_ungone at None report number among = among
reports_ungone at (Some session) None number among = among

goes_out_posts : (now : ℕ) (account : List ℕ) (mail : Mail) (receipt : Receipt) (at : ℕ) → AreApart mail.sessions →
    Posts mail (goes_out now account mail receipt at)
goes_out_posts now account mail receipt at apart = record {
  apart = push_apart mail.sessions at now (deliveries.Receipt receipt.id) apart;
  waited = receipt_pushed mail.sessions at now receipt.id;
  ungone = reports_ungone at (session_at mail.sessions at) _;
}

goes_out_up_to_posts : (most now : ℕ) (account : List ℕ) (mail : Mail) → AreApart mail.sessions → Posts mail (goes_out_up_to most now account mail)
unfolding goes_out_up_to
goes_out_up_to_posts zero now account mail apart = stays_posted mail apart
goes_out_up_to_posts (suc more) now account mail apart =
    at_both (find (is_for account) mail.waiting) (target_in mail.sessions false account) (goes_out_up_to_posts more now account)
  where
    at_both : (found : Option Receipt) (target : Option ℕ) →
        ((next : Mail) → AreApart next.sessions → Posts next (goes_out_up_to more now account next)) →
        Posts mail (with_both (rests mail)
        (λ receipt number. followed_by (goes_out now account mail receipt number)
        (goes_out_up_to more now account (goes_out now account mail receipt number).next)) found target)
    at_both (Some receipt) (Some number) behind =
        let one = goes_out now account mail receipt number in
        let here = goes_out_posts now account mail receipt number apart in
        then_posts mail one (goes_out_up_to more now account one.next) here (behind one.next here.apart)
    at_both None target behind = stays_posted mail apart
    at_both (Some receipt) None behind = stays_posted mail apart

posted_for_posts : (now : ℕ) (mail : Mail) (account : List ℕ) → AreApart mail.sessions → Posts mail (posted_for now mail account)
posted_for_posts now mail account apart = goes_out_up_to_posts (length mail.waiting) now account mail apart

posted_for_any_posts : (now : ℕ) (mail : Mail) (account : Option (List ℕ)) → AreApart mail.sessions → Posts mail (posted_for_any now mail account)
posted_for_any_posts now mail None apart = stays_posted mail apart
posted_for_any_posts now mail (Some account) apart = posted_for_posts now mail account apart

posted_for_all_posts : (now : ℕ) (mail : Mail) (accounts : List (List ℕ)) → AreApart mail.sessions → Posts mail (posted_for_all now mail accounts)
unfolding posted_for_all
posted_for_all_posts now mail [] apart = stays_posted mail apart
posted_for_all_posts now mail (account ∷ others) apart =
    let one = posted_for now mail account in
    let here = posted_for_posts now mail account apart in
    then_posts mail one (posted_for_all now one.next others) here (posted_for_all_posts now one.next others here.apart)

posted_to_posts : (now : ℕ) (mail : Mail) (receipt : Receipt) (account : Option (List ℕ)) → AreApart mail.sessions →
    Posts mail (posted_to now mail receipt account)
posted_to_posts now mail receipt None apart = stays_posted mail apart
posted_to_posts now mail receipt (Some account) apart =
    let it = posted_for_posts now (record mail { waiting = waits_for account mail.waiting receipt }) account apart in
    record { apart = it.apart; waited = it.waited; ungone = it.ungone }

all_posted_posts : (now : ℕ) (mail : Mail) (receipts : List Receipt) → AreApart mail.sessions → Posts mail (all_posted now mail receipts)
unfolding all_posted
all_posted_posts now mail [] apart = stays_posted mail apart
all_posted_posts now mail (receipt ∷ others) apart =
    let one = posted now mail receipt in
    let here = posted_to_posts now mail receipt (submitter_of receipt) apart in
    then_posts mail one (all_posted now one.next others) here (all_posted_posts now one.next others here.apart)

-- ---- acts

-- No two sessions have one number then. What waits waited before, and its session is not told to be gone; and if an attempt is answered by
-- ESME_ROK, it is so.
pub record Keeps (Answers : Slot → Type 0) (connected : List (ℕ × Session)) (acted : Acted) : Type 0 where
  pub apart : AreApart acted.next.sessions
  pub waited : (number : ℕ) (slot : Slot) (sequence : ℕ) → WaitsOn acted.next.sessions number slot sequence →
      WaitsOn connected number slot sequence × (In (Gone number) acted.prints → ⊥)
  pub answers : (slot : Slot) (error : ℕ) → In (Response slot (Concluded Delivered error)) acted.inputs → Answers slot

abbrev pub Nothing : Slot → Type 0
Nothing slot = ⊥

keeps_then : (Answers : Slot → Type 0) (connected : List (ℕ × Session)) (one other : Acted) → Keeps Answers connected one →
    Keeps Answers one.next.sessions other → Keeps Answers connected (followed_by one other)
keeps_then Answers connected one other first last = record {
  apart = last.apart;
  waited = λ number slot sequence waits.
      let late = last.waited number slot sequence waits in
      let early = first.waited number slot sequence late.0 in (
        early.0,
        λ among. elim (in_either (Gone number) one.prints other.prints among) [ inl here ↦ early.1 here | inr there ↦ late.1 there ],
      );
  answers = λ slot error among. elim (in_either (Response slot (Concluded Delivered error)) one.inputs other.inputs among) [
    | inl here ↦ first.answers slot error here
    | inr there ↦ last.answers slot error there
  ];
}

-- from other sessions, and for more
keeps_from : (Answers Others : Slot → Type 0) (before connected : List (ℕ × Session)) (acted : Acted) → AllWaited before connected →
    ((slot : Slot) → Answers slot → Others slot) → Keeps Answers connected acted → Keeps Others before acted
keeps_from Answers Others before connected acted waited more keeps = record {
  apart = keeps.apart;
  waited = λ number slot sequence waits.
      let it = keeps.waited number slot sequence waits in (waited number slot sequence it.0, it.1);
  answers = λ slot error among. more slot (keeps.answers slot error among);
}

-- nothing comes to the node, and no session goes
silent_keeps : (Answers : Slot → Type 0) (connected : List (ℕ × Session)) (acted : Acted) → AreApart acted.next.sessions →
    AllWaited connected acted.next.sessions → ((number : ℕ) → In (Gone number) acted.prints → ⊥) →
    ((slot : Slot) (error : ℕ) → In (Response slot (Concluded Delivered error)) acted.inputs → ⊥) → Keeps Answers connected acted
silent_keeps Answers connected acted apart waited ungone silent = record {
  apart = apart;
  waited = λ number slot sequence waits. (waited number slot sequence waits, ungone number);
  answers = λ slot error among. absurd (silent slot error among);
}

posts_keep : (Answers : Slot → Type 0) (runner : Runner) (posted : Posted) → Posts (mail_of runner) posted →
    Keeps Answers runner.sessions (with_posted runner posted)
posts_keep Answers runner posted it =
    silent_keeps Answers runner.sessions (with_posted runner posted) it.apart it.waited it.ungone (λ slot error among. among)

-- ---- replies

reply_waited : (connected : List (ℕ × Session)) (at ticket : ℕ) (session : Session) → lookup (is_at (nat_cmp at)) connected ≡ Some session →
    AllWaited connected (replied_at connected at ticket (Some session))
reply_waited connected at ticket session is number slot sequence waits =
    changed_waited connected at session (on_reply session ticket) (found_entry connected at session is) (λ request among. among) number waits.session
    (set_in at connected (on_reply session ticket) (number, waits.session) waits.there) slot sequence waits.waits

replied_waited : (connected : List (ℕ × Session)) (ticket : ℕ) (owner : Option Owned) → AllWaited connected (replied connected ticket owner)
replied_waited connected ticket None number slot sequence waits = waits
replied_waited connected ticket (Some owned) number slot sequence waits = by_found (lookup (is_at (nat_cmp owned.number)) connected) refl waits
  where
    by_found : (found : Option Session) → lookup (is_at (nat_cmp owned.number)) connected ≡ found →
        WaitsOn (replied_at connected owned.number ticket found) number slot sequence → WaitsOn connected number slot sequence
    by_found None is waits = waits
    by_found (Some session) is waits = reply_waited connected owned.number ticket session is number slot sequence waits

replied_apart : (connected : List (ℕ × Session)) (ticket : ℕ) (owner : Option Owned) → AreApart connected → AreApart (replied connected ticket owner)
replied_apart connected ticket None apart = apart
replied_apart connected ticket (Some owned) apart = by_found (session_at connected owned.number)
  where
    by_found : (found : Option Session) → AreApart (replied_at connected owned.number ticket found)
    by_found None = apart
    by_found (Some session) = set_apart (is_at (nat_cmp owned.number)) connected (on_reply session ticket) apart

record Tells (connected : List (ℕ × Session)) (told : Told) : Type 0 where
  apart : AreApart told.next
  waited : AllWaited connected told.next
  ungone : (number : ℕ) → In (Gone number) told.prints → ⊥

replies_tell : (connected : List (ℕ × Session)) (replies : List Reply) → AreApart connected → Tells connected (told connected replies)
unfolding told
replies_tell connected [] apart = record { apart = apart; waited = λ number slot sequence waits. waits; ungone = λ number among. among }
replies_tell connected (reply ∷ replies) apart =
    by_owner (owner_of connected reply.ticket) (λ next are. replies_tell next replies are)
  where
    late_ungone : (owner : Option Owned) (number : ℕ) → In (Gone number) (reply_prints reply owner) → ⊥
    late_ungone None number among = among
    late_ungone (Some owned) number (inl same) = cc
    late_ungone (Some owned) number (inr none) = none

    by_owner : (owner : Option Owned) → ((next : List (ℕ × Session)) → AreApart next → Tells next (told next replies)) →
        Tells connected (in_front (reply_prints reply owner) (told (replied connected reply.ticket owner) replies))
    by_owner owner behind =
        let next = replied connected reply.ticket owner in
        let later = behind next (replied_apart connected reply.ticket owner apart) in
        record {
          apart = later.apart;
          waited = λ number slot sequence waits.
              replied_waited connected reply.ticket owner number slot sequence (later.waited number slot sequence waits);
          ungone = λ number among. elim (in_either (Gone number) (reply_prints reply owner) (told next replies).prints among) [
            | inl here ↦ late_ungone owner number here
            | inr there ↦ later.ungone number there
          ];
        }

-- a step of the node, whose replies go out, by an input that is no answer
answered_keeps : (Answers : Slot → Type 0) (runner : Runner) (node : Node) (input : Input) (step : NodeStep) → AreApart runner.sessions →
    ((slot : Slot) (outcome : Outcome) → Response slot outcome ≡ input → ⊥) → Keeps Answers runner.sessions (answered_by runner node input step)
answered_keeps Answers runner node input step apart never =
    let it = replies_tell runner.sessions step.outputs.replies apart in
    silent_keeps Answers runner.sessions (answered_by runner node input step) it.apart it.waited it.ungone
    (λ slot error among. elim among [ inl same ↦ never slot (Concluded Delivered error) same | inr none ↦ none ])

reports_keep : (Answers : Slot → Type 0) (runner : Runner) (node : Node) (input : Input) (step : NodeStep) → AreApart runner.sessions →
    ((slot : Slot) (outcome : Outcome) → Response slot outcome ≡ input → ⊥) → Keeps Answers runner.sessions (reports_by runner node input step)
reports_keep Answers runner node input step apart never =
    let one = answered_by runner node input step in
    let here = answered_keeps Answers runner node input step apart never in
    keeps_then Answers runner.sessions one (posts one.next step.outputs.receipts) here
    (posts_keep Answers one.next _ (all_posted_posts one.next.node.kept.clock (mail_of one.next) step.outputs.receipts here.apart))

pub delivery_keeps : (runner : Runner) (packet : Packet) → AreApart runner.sessions → Keeps Nothing runner.sessions (on_delivery runner packet)
delivery_keeps runner packet apart =
    reports_keep Nothing runner runner.node (Comes packet) (step_at runner.node (Comes packet)) apart (λ slot outcome is. cc)

-- ---- what is given up

-- no attempt is answered by ESME_ROK
abbrev IsUnanswered : List Input → Type 0
IsUnanswered inputs = (slot : Slot) (error : ℕ) → In (Response slot (Concluded Delivered error)) inputs → ⊥

concluded_unanswered : (node : Node) (slot : Slot) → IsUnanswered (concluded node slot unanswered).inputs
concluded_unanswered node slot = by_test (is_open node.kept slot)
  where
    by_test : (test : Bool) → IsUnanswered (cond {A = Went} test (went node (Response slot unanswered)) (rests node)).inputs
    by_test true other error (inl same) = cc
    by_test true other error (inr none) = none
    by_test false other error among = among

given_up_unanswered : (node : Node) (delivery : Delivery) → IsUnanswered (delivered_so node delivery (Some unanswered)).inputs
given_up_unanswered node (deliveries.Attempt slot) = concluded_unanswered node slot
given_up_unanswered node (deliveries.Receipt id) = λ slot error among. among

all_unanswered : (node : Node) (pushed : List Pushed) → IsUnanswered (all_given_up node pushed).inputs
unfolding all_given_up
all_unanswered node [] slot error among = among
all_unanswered node (first ∷ others) slot error among =
    let one = given_up node first in
    elim (in_either (Response slot (Concluded Delivered error)) one.inputs (all_given_up one.next others).inputs among) [
      | inl here ↦ given_up_unanswered node first.delivery slot error here
      | inr there ↦ all_unanswered one.next others slot error there
    ]

-- ---- a moment

moment_waited : (connected : List (ℕ × Session)) (now : ℕ) → AllWaited connected (timely_in connected now)
moment_waited connected now number slot sequence waits =
    let it = in_mapped (λ (entry : ℕ × Session). (entry.0, on_moment entry.1 now)) connected (number, waits.session) waits.there in
    let here = ap (λ (x : ℕ × Session). x.0) it.is in
    let left = ap (λ (x : ℕ × Session). x.1) it.is in
    record {
      session = it.from.1;
      there = subst (λ (n : ℕ). In (n, it.from.1) connected) (sym here) it.among;
      waits = fewer_waits it.from.1 (on_moment it.from.1 now) (λ request among. in_filter _ it.from.1.pushed request among) slot sequence
          (subst (λ (s : Session). Waits s.pushed slot sequence) left waits.waits);
    }

gives_up_keeps : (runner : Runner) (now : ℕ) → AreApart runner.sessions → Keeps Nothing runner.sessions (gives_up runner now)
gives_up_keeps runner now apart =
    silent_keeps Nothing runner.sessions (gives_up runner now) (map_apart (λ (session : Session). on_moment session now) runner.sessions apart)
    (moment_waited runner.sessions now) (λ number among. among) (all_unanswered runner.node (overdue_in runner.sessions now))

makes_room_keeps : (runner : Runner) → AreApart runner.sessions → Keeps Nothing runner.sessions (makes_room runner)
makes_room_keeps runner apart =
    let one = gives_up runner runner.node.kept.clock in
    let here = gives_up_keeps runner runner.node.kept.clock apart in
    keeps_then Nothing runner.sessions one (posts_for_all one.next) here
    (posts_keep Nothing one.next _
    (posted_for_all_posts one.next.node.kept.clock (mail_of one.next) (accounts_up one.next.sessions) here.apart))

pub tick_keeps : (runner : Runner) (moment : ℕ) → AreApart runner.sessions → Keeps Nothing runner.sessions (on_tick runner moment)
tick_keeps runner moment apart =
    let first = ticked runner moment in
    let tick = tick_at moment (accounts_up runner.sessions) in
    let here = answered_keeps Nothing runner runner.node tick (step_at runner.node tick) apart (λ slot outcome is. cc) in
    keeps_then Nothing runner.sessions first (makes_room first.next) here (makes_room_keeps first.next here.apart)

-- ---- a stop, and a start

-- each session goes
pub ended_keeps : (runner : Runner) (acted : Acted) → acted.next.sessions ≡ [] → IsUnanswered acted.inputs → Keeps Nothing runner.sessions acted
ended_keeps runner acted none silent = record {
  apart = subst (λ (connected : List (ℕ × Session)). AreApart connected) (sym none) tt;
  waited = λ number slot sequence waits. absurd (nowhere number slot sequence (subst (λ (c : List (ℕ × Session)). WaitsOn c number slot sequence) none waits));
  answers = λ slot error among. absurd (silent slot error among);
}
  where
    nowhere : (number : ℕ) (slot : Slot) (sequence : ℕ) → WaitsOn [] number slot sequence → ⊥
    nowhere number slot sequence waits = waits.there

pub restart_keeps : (runner : Runner) → AreApart runner.sessions → Keeps Nothing runner.sessions (on_restart runner)
restart_keeps runner apart = by_test (nat_lt runner.node.kept.incarnation last_incarnation)
  where
    no_answer : IsUnanswered (restarted runner).inputs
    no_answer slot error (inl same) = cc
    no_answer slot error (inr none) = none

    declines : (number : ℕ) → In (Gone number) (declined runner no_incarnation).prints → ⊥
    declines number (inl same) = cc
    declines number (inr none) = none

    by_test : (left : Bool) → Keeps Nothing runner.sessions (if left then restarted runner else declined runner no_incarnation)
    by_test true = ended_keeps runner (restarted runner) refl no_answer
    by_test false =
        silent_keeps Nothing runner.sessions (declined runner no_incarnation) apart (λ number slot sequence waits. waits) declines
        (λ slot error among. among)

-- ---- a frame

-- One of these frames reads as the deliver_sm_resp with ESME_ROK to the deliver_sm of an attempt that waits on a session.
pub record IsAnswerIn (frames : List (List ℕ)) (connected : List (ℕ × Session)) (number : ℕ) (slot : Slot) : Type 0 where
  pub frame : List ℕ
  pub ends : In frame frames
  pub pdu : Pdu
  pub reads : read_pdu frame ≡ Ok pdu
  pub sequence : ℕ
  pub acknowledges : IsAcknowledged pdu sequence
  pub waits : WaitsOn connected number slot sequence

-- what serving a session leaves
pub record IsServed (Answers : Slot → Type 0) (number : ℕ) (session : Session) (served : Served) : Type 0 where
  pub fewer : IsFewer session served.next.session
  pub gone : (other : ℕ) → In (Gone other) served.prints → (other ≡ number) × (is_gone served.next.session.state ≡ true)
  pub answers : (slot : Slot) (error : ℕ) → In (Response slot (Concluded Delivered error)) served.inputs → Answers slot

module _ (Answers : Slot → Type 0) (number : ℕ) (node : Node) where
  refusal_ungone : (requested : Requested) (sequence : ℕ) (refused : Option ℕ) (other : ℕ) →
      In (Gone other) (refusal_prints number requested sequence refused) → ⊥
  refusal_ungone requested sequence None other among = among
  refusal_ungone requested sequence (Some status) other (inl same) = cc
  refusal_ungone requested sequence (Some status) other (inr none) = none

  judged_never : (judged : Result Waited Status) (slot : Slot) (outcome : Outcome) → Response slot outcome ≡ judged_as judged → ⊥
  judged_never (Ok request) slot outcome is = cc
  judged_never (Err status) slot outcome is = cc

  window_fewer : (session : Session) (requested : Requested) (sequence : ℕ) (ticket : Option ℕ) →
      IsFewer session (in_window session requested sequence ticket)
  window_fewer session requested sequence None request among = among
  window_fewer session requested sequence (Some ticket) request among =
      wait_fewer session (record { ticket = ticket; requested = requested; sequence = sequence }) request among

  unasked_served : (before session : Session) (prints : List Print) → IsFewer before session → ((other : ℕ) → In (Gone other) prints → ⊥) →
      IsServed Answers number before (unasked node session prints)
  unasked_served before session prints fewer ungone = record {
    fewer = fewer;
    gone = λ other among. absurd (ungone other among);
    answers = λ slot error among. absurd among;
  }

  request_served : (before session : Session) (requested : Requested) (sequence : ℕ) (account : Option (List ℕ)) (request : Option Request) →
      IsFewer before session → IsServed Answers number before (on_request number node session requested sequence account request)
  request_served before session requested sequence None request fewer = unasked_served before session [] fewer (λ other among. among)
  request_served before session requested sequence (Some account) None fewer = unasked_served before session [] fewer (λ other among. among)
  request_served before session requested sequence (Some account) (Some request) fewer = record {
    fewer = λ other among.
        fewer other (window_fewer session requested sequence (step_at node (request_at node account request)).outputs.ticket other among);
    gone = λ other among.
        absurd (refusal_ungone requested sequence (step_at node (request_at node account request)).outputs.refused other among);
    answers = λ slot error among. elim among [
      | inl same ↦
          absurd (judged_never (admitted (door_at node.setup node.kept) (next_id node.setup node.kept) account request) slot (Concluded Delivered error) same)
      | inr none ↦ absurd none
    ];
  }

  -- the ESME's answer says what came of an attempt
  delivered_answers : (delivery : Delivery) (told : Option Outcome) →
      ((slot : Slot) (error : ℕ) → delivery ≡ deliveries.Attempt slot → told ≡ Some (Concluded Delivered error) → Answers slot) →
      (slot : Slot) (error : ℕ) → In (Response slot (Concluded Delivered error)) (delivered_so node delivery told).inputs → Answers slot
  delivered_answers (deliveries.Attempt there) (Some outcome) tells slot error among = by_test (is_open node.kept there) among
    where
      the_slot : Response slot (Concluded Delivered error) ≡ Response there outcome → deliveries.Attempt there ≡ deliveries.Attempt slot
      the_slot is = cc

      the_outcome : Response slot (Concluded Delivered error) ≡ Response there outcome → Some outcome ≡ Some (Concluded Delivered error)
      the_outcome is = cc

      by_test : (test : Bool) → In (Response slot (Concluded Delivered error))
          (cond {A = Went} test (went node (Response there outcome)) (rests node)).inputs → Answers slot
      by_test true (inl same) = tells slot error (the_slot same) (the_outcome same)
      by_test true (inr none) = absurd none
      by_test false among = absurd among
  delivered_answers (deliveries.Attempt there) None tells slot error among = absurd among
  delivered_answers (deliveries.Receipt id) told tells slot error among = absurd among

  reaction_served : (settings : Settings) (came : Came) (before session : Session) (reaction : Reaction) →
      ComesOf before (record { next = session; reaction = reaction }) →
      ((pushed : Pushed) → In pushed before.pushed → (slot : Slot) (error : ℕ) → pushed.delivery ≡ deliveries.Attempt slot →
      came.outcome pushed.sequence ≡ Some (Concluded Delivered error) → Answers slot) →
      IsServed Answers number before (on_reaction settings number node came session reaction)
  reaction_served settings came before session (reactions.Ask requested) comes tells =
      request_served before session requested came.sequence session.account came.request comes.fewer
  reaction_served settings came before session (reactions.Answered pushed) comes tells = record {
    fewer = comes.fewer;
    gone = λ other among. absurd among;
    answers = delivered_answers pushed.delivery (came.outcome pushed.sequence) (λ slot error. tells pushed (comes.answers pushed refl) slot error);
  }
  reaction_served settings came before session (reactions.Leave outgoing abandoned) comes tells = record {
    fewer = comes.fewer;
    gone = λ other among. elim among [
      | inl same ↦ absurd (not_once other same)
      | inr (inl same) ↦ (the_number other same, comes.leaves outgoing abandoned refl)
      | inr (inr none) ↦ absurd none
    ];
    answers = λ slot error among. absurd (all_unanswered node abandoned slot error among);
  }
    where
      not_once : {pdu : Pdu} (other : ℕ) → Gone other ≡ AtOnce number pdu → ⊥
      not_once other same = cc

      the_number : (other : ℕ) → Gone other ≡ Gone number → other ≡ number
      the_number other same = cc
  reaction_served settings came before session (reactions.Respond outgoing) comes tells =
      unasked_served before session _ comes.fewer (λ other among. elim among [ inl same ↦ not_once other same | inr none ↦ none ])
    where
      not_once : {pdu : Pdu} (other : ℕ) → Gone other ≡ AtOnce number pdu → ⊥
      not_once other same = cc
  reaction_served settings came before session reactions.Nothing comes tells = unasked_served before session [] comes.fewer (λ other among. among)

-- no PDU came, so no answer
pub faults_served : (Answers : Slot → Type 0) (settings : Settings) (number : ℕ) (node : Node) (session : Session) (done : Done) → ComesOf session done →
    IsServed Answers number session (on_done settings number node nothing_came done)
faults_served Answers settings number node session done comes =
    reaction_served Answers number node settings nothing_came session done.next done.reaction comes
    (λ pushed among slot error attempt told. absurd (never error told))
  where
    never : (error : ℕ) → None ≡ Some (Concluded Delivered error) → ⊥
    never error is = cc

pub read_served : (settings : Settings) (number : ℕ) (node : Node) (connected : List (ℕ × Session)) (octets : List ℕ) (read : Result Pdu PduFault) →
    read_pdu octets ≡ read → IsServed (IsAnswerIn (octets ∷ []) connected number) number (session_in connected number)
    (on_read settings number node (session_in connected number) octets read)
read_served settings number node connected octets (Ok pdu) reads =
    let session = session_in connected number in
    let done = on_pdu settings.accounts session pdu in
    reaction_served (IsAnswerIn (octets ∷ []) connected number) number node settings (came_by settings pdu) session done.next done.reaction
    (pdu_so settings.accounts session pdu) (λ pushed among slot error attempt told. record {
      frame = octets;
      ends = inl refl;
      pdu = pdu;
      reads = reads;
      sequence = pushed.sequence;
      acknowledges = acknowledged pdu pushed.sequence error told;
      waits = in_session connected number slot pushed.sequence (record { request = pushed; among = among; attempt = attempt; sequence_is = refl });
    })
read_served settings number node connected octets (Err fault) reads =
    faults_served (IsAnswerIn (octets ∷ []) connected number) settings number node (session_in connected number) _
    (fault_so (session_in connected number) fault (requested_by (command_of (word_at 4 octets))) (word_at 12 octets))

-- ---- a session is served

put_waited : (connected : List (ℕ × Session)) (number : ℕ) (next : Session) → IsFewer (session_in connected number) next →
    AllWaited connected (put_at connected number next)
put_waited connected number next fewer other slot sequence waits =
    elim (inserted_in (remove_entry (is_at (nat_cmp number)) connected) number next (other, waits.session) waits.there) [
      | inl new ↦
          let here = ap (λ (x : ℕ × Session). x.0) new in
          let put = subst (λ (s : Session). Waits s.pushed slot sequence) (ap (λ (x : ℕ × Session). x.1) new) waits.waits in
          subst (λ (n : ℕ). WaitsOn connected n slot sequence) (sym here)
          (in_session connected number slot sequence (fewer_waits (session_in connected number) next fewer slot sequence put))
      | inr old ↦ record {
        session = waits.session;
        there = removed_in (is_at (nat_cmp number)) connected (other, waits.session) old;
        waits = waits.waits;
      }
    ]

pub put_apart : (connected : List (ℕ × Session)) (number : ℕ) (next : Session) → AreApart connected → AreApart (put_at connected number next)
put_apart connected number next apart =
    insert_apart (remove_entry (is_at (nat_cmp number)) connected) number next (none_left number connected apart)
    (remove_apart (is_at (nat_cmp number)) connected apart)

served_keeps : (Answers : Slot → Type 0) (runner : Runner) (number : ℕ) (served : Served) → AreApart runner.sessions →
    IsServed Answers number (session_in runner.sessions number) served → Keeps Answers runner.sessions (served_at runner number served)
served_keeps Answers runner number served apart it = by_test (is_gone served.next.session.state) refl
  where
    next : Runner
    next = record runner { node = served.next.node }

    without : List (ℕ × Session)
    without = remove_entry (is_at (nat_cmp number)) runner.sessions

    by_test : (gone : Bool) → is_gone served.next.session.state ≡ gone → Keeps Answers runner.sessions (record {
      next = if gone then record next { sessions = without } else record next { sessions = put_at runner.sessions number served.next.session };
      inputs = served.inputs;
      prints = served.prints;
    })
    by_test true is = record {
      apart = remove_apart (is_at (nat_cmp number)) runner.sessions apart;
      waited = λ other slot sequence waits. (
        record {
          session = waits.session;
          there = removed_in (is_at (nat_cmp number)) runner.sessions (other, waits.session) waits.there;
          waits = waits.waits;
        },
        λ among. none_left number runner.sessions apart
            (subst (Has without) (it.gone other among).0 (record { value = waits.session; among = waits.there })),
      );
      answers = it.answers;
    }
    by_test false is = record {
      apart = put_apart runner.sessions number served.next.session apart;
      waited = λ other slot sequence waits. (
        put_waited runner.sessions number served.next.session it.fewer other slot sequence waits,
        λ among. not_both (sym is ∙ (it.gone other among).1),
      );
      answers = it.answers;
    }
      where
        not_both : false ≡ true → ⊥
        not_both is = cc

serves_keeps : (Answers : Slot → Type 0) (runner : Runner) (number : ℕ) (served : Served) → AreApart runner.sessions →
    IsServed Answers number (session_in runner.sessions number) served → Keeps Answers runner.sessions (serves runner number served)
serves_keeps Answers runner number served apart it =
    let one = served_at runner number served in
    let here = served_keeps Answers runner number served apart it in
    keeps_then Answers runner.sessions one (posts_for one.next served.next.session.account) here
    (posts_keep Answers one.next _ (posted_for_any_posts one.next.node.kept.clock (mail_of one.next) served.next.session.account here.apart))

-- ---- the octets of a session

pub frame_keeps : (settings : Settings) (number : ℕ) (runner : Runner) (octets : List ℕ) → AreApart runner.sessions →
    Keeps (IsAnswerIn (octets ∷ []) runner.sessions number) runner.sessions (on_frame settings number runner octets)
unfolding on_frame
frame_keeps settings number runner octets apart =
    serves_keeps (IsAnswerIn (octets ∷ []) runner.sessions number) runner number _ apart
    (read_served settings number runner.node runner.sessions octets (read_pdu octets) refl)

rest_keeps : (Answers : Slot → Type 0) (settings : Settings) (number : ℕ) (runner : Runner) (rest : List ℕ) → AreApart runner.sessions →
    Keeps Answers runner.sessions (on_rest settings number runner rest)
rest_keeps Answers settings number runner rest apart = by_test (begins_wrong rest)
  where
    by_test : (wrong : Bool) → Keeps Answers runner.sessions (cond {A = Acted} wrong (ends settings number runner) (holds runner number rest))
    by_test true =
        serves_keeps Answers runner number _ apart
        (faults_served Answers settings number runner.node (session_in runner.sessions number) _ (wrong_length_so (session_in runner.sessions number)))
    by_test false =
        silent_keeps Answers runner.sessions (holds runner number rest) apart (λ other slot sequence waits. waits) (λ other among. among)
        (λ slot error among. among)

frames_keep : (settings : Settings) (number : ℕ) (runner : Runner) (frames : List (List ℕ)) (rest : List ℕ) → AreApart runner.sessions →
    Keeps (IsAnswerIn frames runner.sessions number) runner.sessions (on_frames settings number runner frames rest)
unfolding on_frames
frames_keep settings number runner [] rest apart = rest_keeps (IsAnswerIn [] runner.sessions number) settings number runner rest apart
frames_keep settings number runner (frame ∷ frames) rest apart =
    by_test (is_none (session_at first.next.sessions number)) (frames_keep settings number first.next frames rest here.apart)
  where
    first : Acted
    first = on_frame settings number runner frame

    here : Keeps (IsAnswerIn (frame ∷ []) runner.sessions number) runner.sessions first
    here = frame_keeps settings number runner frame apart

    later : Acted
    later = on_frames settings number first.next frames rest

    Any : Slot → Type 0
    Any slot = IsAnswerIn (frame ∷ frames) runner.sessions number slot

    of_first : (slot : Slot) → IsAnswerIn (frame ∷ []) runner.sessions number slot → Any slot
    of_first slot it = record {
      frame = it.frame;
      ends = elim it.ends [ inl same ↦ inl same | inr none ↦ absurd none ];
      pdu = it.pdu;
      reads = it.reads;
      sequence = it.sequence;
      acknowledges = it.acknowledges;
      waits = it.waits;
    }

    of_later : (slot : Slot) → IsAnswerIn frames first.next.sessions number slot → Any slot
    of_later slot it = record {
      frame = it.frame;
      ends = inr it.ends;
      pdu = it.pdu;
      reads = it.reads;
      sequence = it.sequence;
      acknowledges = it.acknowledges;
      waits = (here.waited number slot it.sequence it.waits).0;
    }

    same_waited : (connected : List (ℕ × Session)) → AllWaited connected connected
    same_waited connected other slot sequence waits = waits

    one : Keeps Any runner.sessions first
    one = keeps_from (IsAnswerIn (frame ∷ []) runner.sessions number) Any runner.sessions runner.sessions first (same_waited runner.sessions) of_first here

    by_test : (gone : Bool) → Keeps (IsAnswerIn frames first.next.sessions number) first.next.sessions later →
        Keeps Any runner.sessions (cond {A = Acted} gone first (followed_by first later))
    by_test true others = one
    by_test false others =
        keeps_then Any runner.sessions first later one
        (keeps_from (IsAnswerIn frames first.next.sessions number) Any first.next.sessions first.next.sessions later
        (same_waited first.next.sessions) of_later others)

pub octets_keep : (settings : Settings) (runner : Runner) (number : ℕ) (octets : List ℕ) → AreApart runner.sessions →
    Keeps (IsAnswerIn (cut (held_in runner.streams number ++ octets)).frames runner.sessions number) runner.sessions
    (on_octets settings runner number octets)
unfolding on_octets
octets_keep settings runner number octets apart =
    let stream : Cut = cut (held_in runner.streams number ++ octets) in
    let opened = opened_at runner number in
    let waited = put_waited runner.sessions number (session_in runner.sessions number) (λ request among. among) in
    keeps_from (IsAnswerIn stream.frames opened.sessions number) (IsAnswerIn stream.frames runner.sessions number) runner.sessions opened.sessions
    (on_octets settings runner number octets) waited
    (λ slot it. record {
      frame = it.frame;
      ends = it.ends;
      pdu = it.pdu;
      reads = it.reads;
      sequence = it.sequence;
      acknowledges = it.acknowledges;
      waits = waited number slot it.sequence it.waits;
    })
    (frames_keep settings number opened stream.frames stream.rest
    (put_apart runner.sessions number (session_in runner.sessions number) apart))

-- ---- an attempt that is granted

-- by this act it is granted, and its deliver_sm goes out on a session
pub record IsPushed (id : ℕ) (acted : Acted) (number : ℕ) (slot : Slot) (sequence : ℕ) : Type 0 where
  pub about : slot.id ≡ id
  pub granted : acted.inputs ≡ Grants slot ∷ []
  pub deliver : Pdu
  pub prints : acted.prints ≡ Delivers number deliver ∷ []
  pub sequence_is : deliver.sequence ≡ sequence

pub record IsGranting (runner : Runner) (id : ℕ) (acted : Acted) : Type 0 where
  pub apart : AreApart acted.next.sessions
  pub waited : (number : ℕ) (slot : Slot) (sequence : ℕ) → WaitsOn acted.next.sessions number slot sequence →
      WaitsOn runner.sessions number slot sequence ⊎ IsPushed id acted number slot sequence
  pub ungone : (number : ℕ) → In (Gone number) acted.prints → ⊥
  pub silent : IsUnanswered acted.inputs

module _ (runner : Runner) (id : ℕ) (apart : AreApart runner.sessions) where
  abbrev slot_now : Slot
  slot_now = known_slot runner.node.kept id

  abbrev one : Acted
  one = granted runner (Grants slot_now)

  -- it is granted, and this comes of it at once
  abbrev grants_then : Acted → Acted
  grants_then acted = followed_by one acted

  never_answers : (slot other : Slot) (error : ℕ) → Response slot (Concluded Delivered error) ≡ Grants other → ⊥
  never_answers slot other error is = cc

  fails_granting : IsGranting runner id (grants_then (fails_by one.next (concluded one.next.node slot_now unanswered)))
  fails_granting = record {
    apart = apart;
    waited = λ number slot sequence waits. inl waits;
    ungone = λ number among. among;
    silent = λ slot error among. elim among [
      | inl same ↦ never_answers slot slot_now error same
      | inr later ↦ concluded_unanswered one.next.node slot_now slot error later
    ];
  }

  pushes_granting : (taken : Submission) (at : ℕ) (found : Option Session) → lookup (is_at (nat_cmp at)) runner.sessions ≡ found →
      IsGranting runner id (grants_then (pushes one.next slot_now taken at found))
  pushes_granting taken at None is = record {
    apart = apart;
    waited = λ number slot sequence waits. inl waits;
    ungone = λ number among. among;
    silent = λ slot error among. elim among [ inl same ↦ never_answers slot slot_now error same | inr none ↦ none ];
  }
  pushes_granting taken at (Some session) is = record {
    apart = push_apart runner.sessions at one.next.node.kept.clock (deliveries.Attempt slot_now) apart;
    waited = λ number slot sequence waits. by_found number slot sequence (session_at runner.sessions at) is waits;
    ungone = λ number among. elim among [ inl same ↦ no_delivery number same | inr none ↦ none ];
    silent = λ slot error among. elim among [ inl same ↦ never_answers slot slot_now error same | inr none ↦ none ];
  }
    where
      now : ℕ
      now = one.next.node.kept.clock

      no_delivery : {pdu : Pdu} (number : ℕ) → Gone number ≡ Delivers at pdu → ⊥
      no_delivery number same = cc

      the_slot : (slot : Slot) → deliveries.Attempt slot_now ≡ deliveries.Attempt slot → slot ≡ slot_now
      the_slot slot is = cc

      the_session : (other : Session) → Some other ≡ Some session → other ≡ session
      the_session other is = cc

      new : (number : ℕ) (slot : Slot) (sequence : ℕ) → number ≡ at → deliveries.Attempt slot_now ≡ deliveries.Attempt slot →
          session.next_sequence ≡ sequence → IsPushed id (grants_then (pushes one.next slot_now taken at (Some session))) number slot sequence
      new number slot sequence here attempt next = record {
        about = ap (λ (s : Slot). s.id) (the_slot slot attempt);
        granted = ap (λ (s : Slot). Grants s ∷ []) (sym (the_slot slot attempt));
        deliver = delivery_on session taken;
        prints = ap (λ (n : ℕ). Delivers n (delivery_on session taken) ∷ []) (sym here);
        sequence_is = next;
      }

      by_found : (number : ℕ) (slot : Slot) (sequence : ℕ) (found : Option Session) → found ≡ Some session →
          WaitsOn (pushed_on runner.sessions at now (deliveries.Attempt slot_now) found) number slot sequence →
          WaitsOn runner.sessions number slot sequence
          ⊎ IsPushed id (grants_then (pushes one.next slot_now taken at (Some session))) number slot sequence
      by_found number slot sequence None same waits = inl waits
      by_found number slot sequence (Some other) same waits =
          elim (set_in at runner.sessions (on_push other now (deliveries.Attempt slot_now)) (number, waits.session) waits.there) [
            | inl put ↦
                elim (push_waits other now (deliveries.Attempt slot_now) slot sequence
                (subst (λ (s : Session). Waits s.pushed slot sequence) (ap (λ (x : ℕ × Session). x.1) put) waits.waits)) [
                  | inl old ↦ inl (record {
                    session = session;
                    there = subst (λ (n : ℕ). In (n, session) runner.sessions) (sym (ap (λ (x : ℕ × Session). x.0) put))
                        (found_entry runner.sessions at session is);
                    waits = subst (λ (s : Session). Waits s.pushed slot sequence) (the_session other same) old;
                  })
                  | inr pushed ↦
                      inr (new number slot sequence (ap (λ (x : ℕ × Session). x.0) put) pushed.0
                      (ap (λ (s : Session). s.next_sequence) (sym (the_session other same)) ∙ pushed.1))
                ]
            | inr old ↦ inl (record { session = waits.session; there = old; waits = waits.waits })
          ]

  sent_to_granting : (taken : Submission) (target : Option ℕ) → IsGranting runner id (grants_then (sent_to one.next slot_now taken target))
  sent_to_granting taken None = fails_granting
  sent_to_granting taken (Some at) = pushes_granting taken at (session_at runner.sessions at) refl

  sent_granting : (taken : Option Submission) → IsGranting runner id (grants_then (sent one.next slot_now taken))
  sent_granting None = fails_granting
  sent_granting (Some taken) = sent_to_granting taken (target_in runner.sessions (is_long taken.text) taken.target)

  pub grant_granting : IsGranting runner id (on_grant runner id)
  grant_granting = by_refusal (grant_refusal runner.node.setup runner.node.kept id)
    where
      by_refusal : (refusal : Option GrantRefusal) → IsGranting runner id (granted_unless runner id slot_now refusal)
      by_refusal None = sent_granting (submission_at runner.node id)
      by_refusal (Some refusal) = record {
        apart = apart;
        waited = λ number slot sequence waits. inl waits;
        ungone = λ number among. elim among [ inl same ↦ refuses number same | inr none ↦ none ];
        silent = λ slot error among. among;
      }
        where
          refuses : {reason : ℕ} (number : ℕ) → Gone number ≡ Ungranted reason → ⊥
          refuses number same = cc
