-- The requests that wait on a session came in its stream, and what is replied to them is of the messages that they name.
use Rattle.std.proofs.Common.{◌≡◌, ◌⊎◌, ℕ, ◌^◌, ◌%◌, ◌<◌, ◌≤◌, zero, suc, Bool, true, false, cond, List, [], ◌∷◌, length, Option, Some, None, Ok, refl}
use Rattle.std.proofs.Common.{sym, ◌∙◌, ap, subst, inl, inr, arith}
use Rattle.std.specs.Prelude.{◌==◌, find}
use Rattle.std.specs.Fmt.{decimal}
use Rattle.std.specs.Map.{lookup, set_value}
use Rattle.std.specs.Ordering.{nat_cmp}
use Rattle.std.specs.BTreeMap.{is_at}
use Rattle.mc_model.specs.message.Decree.{Decree}
use Rattle.mc_model.specs.message.Submission.{Submission}
use Rattle.mc_model.specs.synod.Lists.{In}
use Rattle.mc_model.specs.synod.Packet.{Packet, Slot}
use Rattle.mc_model.specs.node.Actor.{Cancel, Query, Request, Submit, id_in}
use Rattle.mc_model.specs.node.Grant.{GrantRefusal, refusal_number}
use Rattle.mc_model.specs.node.Input.{Delivery as Comes, Grant as Grants, Input, Response, Restart}
use Rattle.mc_model.specs.node.Outcome.{Outcome}
use Rattle.mc_model.specs.node.Outputs.{Receipt, Reply}
use Rattle.mc_model.specs.node.Replies.{Accepted, Answer, Kept as StillThere, NotMatched, NotOwner, Removed, Shown, TooLate, Unknown}
use Rattle.mc_parts.proofs.Membership.{in_either}
use Rattle.node_laws.proofs.invariant.Orders.{in_mapped}
use Rattle.node_model.specs.Attempts.{grant_refusal}
use Rattle.node_model.specs.Granted.{is_open, known_slot}
use Rattle.node_model.specs.Kept.{Held, Kept}
use Rattle.node_model.specs.Outputs.{Stepped as NodeStep}
use Rattle.node_model.specs.Requests.{is_cancel, ticket_of}
use Rattle.pdu_bodies.specs.declared.pdu.Body.{Body}
use Rattle.pdu_bodies.specs.declared.pdu.Body.TheVariants.{CancelSm, CancelSmResp, QuerySm, QuerySmResp}
use Rattle.pdu_bodies.specs.declared.pdu.Cancel.{Cancel as CancelBody}
use Rattle.pdu_bodies.specs.declared.pdu.Pdu.{Pdu}
use Rattle.pdu_bodies.specs.declared.pdu.Query.{Query as QueryBody}
use Rattle.pdu_bodies.specs.declared.pdu.QueryAnswer.{QueryAnswer}
use Rattle.pdu_codec.specs.Bodies.{command_in}
use Rattle.pdu_codec.specs.Pdu.{read_pdu}
use Rattle.pdu_frames.specs.Frames.{cut}
use Rattle.pdu_tables.specs.CommandCodes.{command_code}
use Rattle.pdu_tables.specs.StatusCodes.{status_code}
use Rattle.pdu_tables.specs.declared.status.Status.TheVariants as statuses
use Rattle.receipts.specs.Texts.{Report}
use Rattle.sessions.specs.Session.{Session}
use Rattle.sessions.specs.States.{is_gone}
use Rattle.sessions.specs.Steps.{on_reply, on_tick as on_moment, push_refusal, pushed_unless}
use Rattle.sessions.specs.declared.pushed.Delivery.{Delivery}
use Rattle.sessions.specs.declared.pushed.Delivery.TheVariants as deliveries
use Rattle.sessions.specs.declared.pushed.Pushed.{Pushed}
use Rattle.sessions.specs.declared.pushed.PushRefusal.{PushRefusal}
use Rattle.sessions.specs.declared.request.OpenRequest.{OpenRequest}
use Rattle.sessions.specs.declared.requested.Requested.{Requested}
use Rattle.script_text.specs.Left.{followed_by, rests}
use Rattle.script_text.specs.Attempts.{Went, all_given_up, concluded, delivered_so, given_up, submission_at, unanswered, went}
use Rattle.script_text.specs.Node.{Node, step_at, tick_at}
use Rattle.script_text.specs.Prints.{AtOnce, Declined, Delivers, Gone, Late, Print, Reports, Ungranted}
use Rattle.script_text.specs.Pushes.{accounts_up, delivery_on, is_long, overdue_in, pushed_on, session_at, target_in, timely_in, with_push}
use Rattle.script_text.specs.Receipts.{Mail, Posted, all_posted, goes_out, goes_out_up_to, is_for, posted, posted_for, posted_for_all}
use Rattle.script_text.specs.Receipts.{posted_for_any, posted_to, reports_on, submitter_of, waits_for, with_both}
use Rattle.script_text.specs.Responses.{reply_pdu}
use Rattle.script_text.specs.Runner.{Acted, Owned, Runner, answered_by, fails_by, gives_up, granted, granted_unless, held_in}
use Rattle.script_text.specs.Runner.{mail_of, makes_room, on_delivery, on_grant, on_tick, owner_of, posts, posts_for, posts_for_all, pushes, replied}
use Rattle.script_text.specs.Runner.{replied_at, sent, sent_to, ticked, told, with_posted}
use Rattle.world_fates.proofs.node.Posting.{left_in}
use Rattle.world_fates.proofs.node.Telling.{refusal_tells_none}
use Rattle.world_fates.proofs.Entries.{AreApart, Has, found_entry, map_apart, set_apart, set_in}
use Rattle.world_fates.proofs.Asking.{AsksOn, replies_tell}
use Rattle.world_fates.proofs.Fresh.{reply_sequence}
use Rattle.octet_laws.proofs.AtOnce.{IsNoDeletion}
use Rattle.octet_laws.proofs.Holding.{IsQuery, IsAmong, StepSo, stepped_so}

-- ---- what is said of a session

-- a query_sm or a cancel_sm that waits at the node names its message
abbrev pub Names : Body → Request → Type 0
Names body (Submit id message) = Unit {0}
Names body (Query id account source) = (query : QueryBody) × (body ≡ QuerySm query) × (decimal id ≡ query.message_id)
Names body (Cancel id account source destination) = (cancel : CancelBody) × (body ≡ CancelSm cancel) × (decimal id ≡ cancel.message_id)

-- the request came in a frame of the stream
pub record IsTied (stream : List ℕ) (kept : Kept) (request : OpenRequest) : Type 0 where
  pub below : request.ticket < kept.ticket
  pub frame : List ℕ
  pub among : In frame (cut stream).frames
  pub pdu : Pdu
  pub reads : read_pdu frame ≡ Ok pdu
  pub sequence_is : pdu.sequence ≡ request.sequence
  pub asks : command_code (command_in pdu.body) < 0x80000000
  pub names : (h : Held) → In h kept.held → ticket_of h ≡ request.ticket → Names pdu.body h.waiting.request

pub record IsSoundSession (stream : List ℕ) (kept : Kept) (session : Session) : Type 0 where
  pub open_still : is_gone session.state ≡ false
  pub tied : (request : OpenRequest) → In request session.requests → IsTied stream kept request

-- no ticket was given that is still to come; and if something came on the session, it is connected
pub record IsSound (number : ℕ) (stream : List ℕ) (kept : Kept) (connected : List (ℕ × Session)) : Type 0 where
  pub given : (h : Held) → In h kept.held → ticket_of h < kept.ticket
  pub there : (stream ≡ []) ⊎ Has connected number
  pub each : (session : Session) → In (number, session) connected → IsSoundSession stream kept session
  pub apart : AreApart connected

-- what has not come whole is held
pub record Holds (number : ℕ) (stream : List ℕ) (streams : List (ℕ × List ℕ)) : Type 0 where
  pub rest : held_in streams number ≡ (cut stream).rest
  pub apart : AreApart streams

pub record Hears (number : ℕ) (stream : List ℕ) (runner : Runner) : Type 0 where
  pub sound : IsSound number stream runner.node.kept runner.sessions
  pub held : Holds number stream runner.streams

-- ---- the node goes on

pub record GoesOn (before after : Kept) : Type 0 where
  pub ticket : before.ticket ≤ after.ticket
  pub held : (h : Held) → In h after.held → IsAmong before.held h ⊎ ((before.ticket ≤ ticket_of h) × (ticket_of h < after.ticket))

pub step_on : (input : Input) (k : Kept) (step : NodeStep) → StepSo input k step → GoesOn k step.kept
step_on input k step so = record {
  ticket = so.ticket;
  held = λ h among. elim (so.held h among) [
    | inl old ↦ inl old
    | inr new ↦ (let ticket = new.ticket in let below = new.below in inr (omega (arith, ticket), omega (arith, ticket, below)))
  ];
}

pub on_same : (k : Kept) → GoesOn k k
on_same k = record { ticket = omega arith; held = λ h among. inl (record { from = h; among = among; ticket = refl; request = refl }) }

pub on_both : (one two three : Kept) → GoesOn one two → GoesOn two three → GoesOn one three
on_both one two three first last = record {
  ticket = omega (arith, first.ticket, last.ticket);
  held = λ h among. elim (last.held h among) [
    | inl old ↦ elim (first.held old.from old.among) [
      | inl older ↦
          inl (record { from = older.from; among = older.among; ticket = old.ticket ∙ older.ticket; request = old.request ∙ older.request })
      | inr new ↦
          (let same = old.ticket in let least = new.0 in let below = new.1 in let more = last.ticket in
          inr (omega (arith, same, least), omega (arith, same, below, more)))
    ]
    | inr new ↦ (let least = new.0 in let below = new.1 in let more = first.ticket in inr (omega (arith, least, more), below))
  ];
}

-- a ticket that was given before names what it named
pub tied_on : (stream : List ℕ) (before after : Kept) (request : OpenRequest) → GoesOn before after → IsTied stream before request →
    IsTied stream after request
tied_on stream before after request on tied = record {
  below = (let below = tied.below in let more = on.ticket in omega (arith, below, more));
  frame = tied.frame;
  among = tied.among;
  pdu = tied.pdu;
  reads = tied.reads;
  sequence_is = tied.sequence_is;
  asks = tied.asks;
  names = λ h among same. elim (on.held h among) [
    | inl old ↦ subst (Names tied.pdu.body) (sym old.request) (tied.names old.from old.among (sym old.ticket ∙ same))
    | inr new ↦ absurd (let least = new.0 in let below = tied.below in omega (arith, same, least, below))
  ];
}

given_on : (before after : Kept) → GoesOn before after → ((h : Held) → In h before.held → ticket_of h < before.ticket) → (h : Held) → In h after.held →
    ticket_of h < after.ticket
given_on before after on given h among = elim (on.held h among) [
  | inl old ↦ (let below = given old.from old.among in let same = old.ticket in let more = on.ticket in omega (arith, below, same, more))
  | inr new ↦ new.1
]

pub sound_on : (number : ℕ) (stream : List ℕ) (before after : Kept) (connected : List (ℕ × Session)) → GoesOn before after →
    IsSound number stream before connected → IsSound number stream after connected
sound_on number stream before after connected on sound = record {
  given = given_on before after on sound.given;
  there = sound.there;
  each = λ session among.
      let one = sound.each session among in
      record { open_still = one.open_still; tied = λ request waits. tied_on stream before after request on (one.tied request waits) };
  apart = sound.apart;
}

-- ---- sessions that change

-- a session is as it was, but that less waits there
pub record IsLess (number : ℕ) (before : List (ℕ × Session)) (session : Session) : Type 0 where
  pub old : Session
  pub there : In (number, old) before
  pub state : session.state ≡ old.state
  pub requests : (request : OpenRequest) → In request session.requests → In request old.requests

pub record Lessens (number : ℕ) (before after : List (ℕ × Session)) : Type 0 where
  pub less : (session : Session) → In (number, session) after → IsLess number before session
  pub has : Has before number → Has after number
  pub apart : AreApart before → AreApart after

the_same : (number : ℕ) (connected : List (ℕ × Session)) (session : Session) → In (number, session) connected → IsLess number connected session
the_same number connected session there = record { old = session; there = there; state = refl; requests = λ request among. among }

same_lessens : (number : ℕ) (connected : List (ℕ × Session)) → Lessens number connected connected
same_lessens number connected = record { less = the_same number connected; has = λ has. has; apart = λ apart. apart }

less_then : (number : ℕ) (one two three : List (ℕ × Session)) → Lessens number one two → Lessens number two three → Lessens number one three
less_then number one two three first last = record {
  less = λ session among.
      let late = last.less session among in
      let early = first.less late.old late.there in
      record {
        old = early.old;
        there = early.there;
        state = late.state ∙ early.state;
        requests = λ request waits. early.requests request (late.requests request waits);
      };
  has = λ has. last.has (first.has has);
  apart = λ apart. last.apart (first.apart apart);
}

pub sound_less : (number : ℕ) (stream : List ℕ) (kept : Kept) (before after : List (ℕ × Session)) → Lessens number before after →
    IsSound number stream kept before → IsSound number stream kept after
sound_less number stream kept before after lessens sound = record {
  given = sound.given;
  there = elim sound.there [ inl none ↦ inl none | inr has ↦ inr (lessens.has has) ];
  each = λ session among.
      let it = lessens.less session among in
      let one = sound.each it.old it.there in
      record { open_still = ap is_gone it.state ∙ one.open_still; tied = λ request waits. one.tied request (it.requests request waits) };
  apart = lessens.apart sound.apart;
}

set_has : {X : Type 0} (test : ℕ → Bool) (es : List (ℕ × X)) (value : X) (number : ℕ) → Has es number → Has (set_value test es value) number
set_has test [] value number has = absurd has.among
set_has {X} test (e ∷ es) value number has = by_test (test e.0) (set_has test es value number) has.among
  where
    by_test : (b : Bool) → (Has es number → Has (set_value test es value) number) → In (number, has.value) (e ∷ es) →
        Has (cond b ((e.0, value) ∷ es) (e ∷ set_value test es value)) number
    by_test true behind (inl same) = record { value = value; among = inl (ap (λ (x : ℕ × X). (x.0, value)) same) }
    by_test true behind (inr later) = record { value = has.value; among = inr later }
    by_test false behind (inl same) = record { value = has.value; among = inl same }
    by_test false behind (inr later) = let it = behind (record { value = has.value; among = later }) in record { value = it.value; among = inr it.among }

-- one of them is another now
set_lessens : (number at : ℕ) (connected : List (ℕ × Session)) (session next : Session) → lookup (is_at (nat_cmp at)) connected ≡ Some session →
    next.state ≡ session.state → ((request : OpenRequest) → In request next.requests → In request session.requests) →
    Lessens number connected (set_value (is_at (nat_cmp at)) connected next)
set_lessens number at connected session next found state requests = record {
  less = λ other among. elim (set_in at connected next (number, other) among) [
    | inl new ↦
        let is = ap (λ (x : ℕ × Session). x.1) new in
        record {
          old = session;
          there = subst (λ (n : ℕ). In (n, session) connected) (sym (ap (λ (x : ℕ × Session). x.0) new)) (found_entry connected at session found);
          state = ap (λ (s : Session). s.state) is ∙ state;
          requests = λ request waits. requests request (subst (λ (s : Session). In request s.requests) is waits);
        }
    | inr old ↦ the_same number connected other old
  ];
  has = set_has (is_at (nat_cmp at)) connected next number;
  apart = set_apart (is_at (nat_cmp at)) connected next;
}

push_lessens : (number : ℕ) (connected : List (ℕ × Session)) (at now : ℕ) (delivery : Delivery) → Lessens number connected (with_push connected at now delivery)
push_lessens number connected at now delivery = by_found (lookup (is_at (nat_cmp at)) connected) refl
  where
    pushed_so : (session : Session) (refusal : Option PushRefusal) → (found : lookup (is_at (nat_cmp at)) connected ≡ Some session) →
        Lessens number connected (set_value (is_at (nat_cmp at)) connected (pushed_unless refusal session now delivery))
    pushed_so session None found = set_lessens number at connected session _ found refl (λ request among. among)
    pushed_so session (Some refusal) found = set_lessens number at connected session session found refl (λ request among. among)

    by_found : (found : Option Session) → lookup (is_at (nat_cmp at)) connected ≡ found → Lessens number connected (pushed_on connected at now delivery found)
    by_found None is = same_lessens number connected
    by_found (Some session) is = pushed_so session (push_refusal session) is

replied_lessens : (number : ℕ) (connected : List (ℕ × Session)) (ticket : ℕ) (owner : Option Owned) → Lessens number connected (replied connected ticket owner)
replied_lessens number connected ticket None = same_lessens number connected
replied_lessens number connected ticket (Some owned) = by_found (lookup (is_at (nat_cmp owned.number)) connected) refl
  where
    by_found : (found : Option Session) → lookup (is_at (nat_cmp owned.number)) connected ≡ found →
        Lessens number connected (replied_at connected owned.number ticket found)
    by_found None is = same_lessens number connected
    by_found (Some session) is =
        set_lessens number owned.number connected session (on_reply session ticket) is refl
        (left_in (λ (other : OpenRequest). other.ticket == ticket) session.requests)

told_lessens : (number : ℕ) (connected : List (ℕ × Session)) (replies : List Reply) → Lessens number connected (told connected replies).next
unfolding told
told_lessens number connected [] = same_lessens number connected
told_lessens number connected (reply ∷ replies) =
    let next = replied connected reply.ticket (owner_of connected reply.ticket) in
    less_then number connected next (told next replies).next (replied_lessens number connected reply.ticket (owner_of connected reply.ticket))
    (told_lessens number next replies)

moment_lessens : (number : ℕ) (connected : List (ℕ × Session)) (now : ℕ) → Lessens number connected (timely_in connected now)
moment_lessens number connected now = record {
  less = λ session among.
      let it = in_mapped (λ (entry : ℕ × Session). (entry.0, on_moment entry.1 now)) connected (number, session) among in
      let is = ap (λ (x : ℕ × Session). x.1) it.is in
      record {
        old = it.from.1;
        there = subst (λ (n : ℕ). In (n, it.from.1) connected) (sym (ap (λ (x : ℕ × Session). x.0) it.is)) it.among;
        state = ap (λ (s : Session). s.state) is;
        requests = λ request waits. subst (λ (s : Session). In request s.requests) is waits;
      };
  has = timely_has connected;
  apart = map_apart (λ (session : Session). on_moment session now) connected;
}
  where
    timely_has : (connected : List (ℕ × Session)) → Has connected number → Has (timely_in connected now) number
    timely_has [] has = absurd has.among
    timely_has (e ∷ es) has = elim has.among [
      | inl same ↦ record { value = on_moment e.1 now; among = inl (ap (λ (x : ℕ × Session). (x.0, on_moment e.1 now)) same) }
      | inr later ↦
          (let it = timely_has es (record { value = has.value; among = later }) in record { value = it.value; among = inr it.among })
    ]

-- ---- what is printed

-- it is of a PDU that answers no request that waited, and is no cancel_sm_resp with ESME_ROK
abbrev pub IsPlain : Print → Type 0
IsPlain (AtOnce session pdu) = IsNoDeletion pdu
IsPlain (Late session id pdu) = ⊥
IsPlain (Delivers session pdu) = IsNoDeletion pdu
IsPlain (Reports session sequence optional report) = Unit {0}
IsPlain (Gone session) = ⊥
IsPlain (Declined number) = ⊥
IsPlain (Ungranted reason) = ⊥

-- the cancel_sm of this sequence_number came in the stream, and names the message
pub record IsAnswer (stream : List ℕ) (sequence id : ℕ) : Type 0 where
  pub frame : List ℕ
  pub among : In frame (cut stream).frames
  pub pdu : Pdu
  pub reads : read_pdu frame ≡ Ok pdu
  pub sequence_is : pdu.sequence ≡ sequence
  pub cancel : CancelBody
  pub body : pdu.body ≡ CancelSm cancel
  pub names : decimal id ≡ cancel.message_id

-- the query_sm of this sequence_number came in the stream, and has the message_id
pub record IsTold (stream : List ℕ) (sequence : ℕ) (message_id : List ℕ) : Type 0 where
  pub frame : List ℕ
  pub among : In frame (cut stream).frames
  pub pdu : Pdu
  pub reads : read_pdu frame ≡ Ok pdu
  pub sequence_is : pdu.sequence ≡ sequence
  pub query : QueryBody
  pub body : pdu.body ≡ QuerySm query
  pub names : query.message_id ≡ message_id

-- if it is a cancel_sm_resp with ESME_ROK on the session, or a query_sm_resp with an answer, it is so
abbrev pub IsRight : ℕ → List ℕ → Print → Type 0
IsRight number stream (AtOnce session pdu) = IsNoDeletion pdu
IsRight number stream (Late session id pdu) =
    (session ≡ number → pdu.body ≡ CancelSmResp → pdu.status % 2 ^ 32 ≡ 0 → IsAnswer stream pdu.sequence id × (pdu.status ≡ status_code statuses.Ok))
    × (session ≡ number → (answer : QueryAnswer) → pdu.body ≡ QuerySmResp (Some answer) → IsTold stream pdu.sequence answer.message_id)
IsRight number stream (Delivers session pdu) = IsNoDeletion pdu
IsRight number stream (Reports session sequence optional report) = Unit {0}
IsRight number stream (Gone session) = Unit {0}
IsRight number stream (Declined reason) = Unit {0}
IsRight number stream (Ungranted reason) = Unit {0}

-- and the session is not told to be gone
pub record IsFine (number : ℕ) (stream : List ℕ) (print : Print) : Type 0 where
  pub ungone : print ≡ Gone number → ⊥
  pub right : IsRight number stream print

pub plain_right : (number : ℕ) (stream : List ℕ) (print : Print) → IsPlain print → IsRight number stream print
plain_right number stream (AtOnce session pdu) plain = plain
plain_right number stream (Late session id pdu) plain = absurd plain
plain_right number stream (Delivers session pdu) plain = plain
plain_right number stream (Reports session sequence optional report) plain = tt
plain_right number stream (Gone session) plain = tt
plain_right number stream (Declined reason) plain = tt
plain_right number stream (Ungranted reason) plain = tt

pub plain_fine : (number : ℕ) (stream : List ℕ) (print : Print) → IsPlain print → IsFine number stream print
plain_fine number stream print plain = record { ungone = λ is. absurd (subst IsPlain is plain); right = plain_right number stream print plain }

-- ---- acts

pub record Keeps (number : ℕ) (stream : List ℕ) (acted : Acted) : Type 0 where
  pub hears : Hears number stream acted.next
  pub fine : (print : Print) → In print acted.prints → IsFine number stream print

pub keeps_then : (number : ℕ) (stream : List ℕ) (one other : Acted) → Keeps number stream one → Keeps number stream other →
    Keeps number stream (followed_by one other)
keeps_then number stream one other first last = record {
  hears = last.hears;
  fine = λ print among. elim (in_either print one.prints other.prints among) [ inl here ↦ first.fine print here | inr there ↦ last.fine print there ];
}

-- ---- receipts go out

pub record Posts (number : ℕ) (mail : Mail) (posted : Posted) : Type 0 where
  pub lessens : Lessens number mail.sessions posted.next.sessions
  pub plain : (print : Print) → In print posted.prints → IsPlain print

stays_posted : (number : ℕ) (mail : Mail) → Posts number mail (rests mail)
stays_posted number mail = record { lessens = same_lessens number mail.sessions; plain = λ print among. absurd among }

then_posts : (number : ℕ) (mail : Mail) (first last : Posted) → Posts number mail first → Posts number first.next last →
    Posts number mail (followed_by first last)
then_posts number mail first last one other = record {
  lessens = less_then number mail.sessions first.next.sessions last.next.sessions one.lessens other.lessens;
  plain = λ print among. elim (in_either print first.prints last.prints among) [ inl here ↦ one.plain print here | inr there ↦ other.plain print there ];
}

reports_plain : (at : ℕ) (session : Option Session) (report : Option Report) (print : Print) → In print (reports_on at session report) → IsPlain print
reports_plain at (Some session) (Some report) print (inl same) = subst IsPlain (sym same) tt
reports_plain at (Some session) (Some report) print (inr none) = absurd none
reports_plain at None report print among = absurd among
reports_plain at (Some session) None print among = absurd among

goes_out_posts : (number now : ℕ) (account : List ℕ) (mail : Mail) (receipt : Receipt) (at : ℕ) → Posts number mail (goes_out now account mail receipt at)
goes_out_posts number now account mail receipt at = record {
  lessens = push_lessens number mail.sessions at now (deliveries.Receipt receipt.id);
  plain = reports_plain at (session_at mail.sessions at) _;
}

goes_out_up_to_posts : (number most now : ℕ) (account : List ℕ) (mail : Mail) → Posts number mail (goes_out_up_to most now account mail)
unfolding goes_out_up_to
goes_out_up_to_posts number zero now account mail = stays_posted number mail
goes_out_up_to_posts number (suc more) now account mail =
    at_both (find (is_for account) mail.waiting) (target_in mail.sessions false account) (goes_out_up_to_posts number more now account)
  where
    at_both : (found : Option Receipt) (target : Option ℕ) → ((next : Mail) → Posts number next (goes_out_up_to more now account next)) →
        Posts number mail (with_both (rests mail)
        (λ receipt at. followed_by (goes_out now account mail receipt at)
        (goes_out_up_to more now account (goes_out now account mail receipt at).next)) found target)
    at_both (Some receipt) (Some at) behind =
        let one = goes_out now account mail receipt at in
        then_posts number mail one (goes_out_up_to more now account one.next) (goes_out_posts number now account mail receipt at) (behind one.next)
    at_both None target behind = stays_posted number mail
    at_both (Some receipt) None behind = stays_posted number mail

posted_for_posts : (number now : ℕ) (mail : Mail) (account : List ℕ) → Posts number mail (posted_for now mail account)
posted_for_posts number now mail account = goes_out_up_to_posts number (length mail.waiting) now account mail

pub posted_for_any_posts : (number now : ℕ) (mail : Mail) (account : Option (List ℕ)) → Posts number mail (posted_for_any now mail account)
posted_for_any_posts number now mail None = stays_posted number mail
posted_for_any_posts number now mail (Some account) = posted_for_posts number now mail account

pub posted_for_all_posts : (number now : ℕ) (mail : Mail) (accounts : List (List ℕ)) → Posts number mail (posted_for_all now mail accounts)
unfolding posted_for_all
posted_for_all_posts number now mail [] = stays_posted number mail
posted_for_all_posts number now mail (account ∷ others) =
    let one = posted_for now mail account in
    then_posts number mail one (posted_for_all now one.next others) (posted_for_posts number now mail account)
    (posted_for_all_posts number now one.next others)

posted_to_posts : (number now : ℕ) (mail : Mail) (receipt : Receipt) (account : Option (List ℕ)) → Posts number mail (posted_to now mail receipt account)
posted_to_posts number now mail receipt None = stays_posted number mail
posted_to_posts number now mail receipt (Some account) =
    let it = posted_for_posts number now (record mail { waiting = waits_for account mail.waiting receipt }) account in
    record { lessens = it.lessens; plain = it.plain }

pub all_posted_posts : (number now : ℕ) (mail : Mail) (receipts : List Receipt) → Posts number mail (all_posted now mail receipts)
unfolding all_posted
all_posted_posts number now mail [] = stays_posted number mail
all_posted_posts number now mail (receipt ∷ others) =
    let one = posted now mail receipt in
    then_posts number mail one (all_posted now one.next others) (posted_to_posts number now mail receipt (submitter_of receipt))
    (all_posted_posts number now one.next others)

posts_keep : (number : ℕ) (stream : List ℕ) (runner : Runner) (posted : Posted) → Hears number stream runner → Posts number (mail_of runner) posted →
    Keeps number stream (with_posted runner posted)
posts_keep number stream runner posted hears it = record {
  hears = record {
    sound = sound_less number stream runner.node.kept runner.sessions posted.next.sessions it.lessens hears.sound;
    held = hears.held;
  };
  fine = λ print among. plain_fine number stream print (it.plain print among);
}

pub posts_for_keep : (number : ℕ) (stream : List ℕ) (runner : Runner) (account : Option (List ℕ)) → Hears number stream runner →
    Keeps number stream (posts_for runner account)
posts_for_keep number stream runner account hears =
    posts_keep number stream runner _ hears (posted_for_any_posts number runner.node.kept.clock (mail_of runner) account)

-- ---- replies

removes : (requested : Requested) (sequence id : ℕ) (answer : Answer) → (reply_pdu requested sequence id answer).body ≡ CancelSmResp →
    (reply_pdu requested sequence id answer).status % 2 ^ 32 ≡ 0 → (chain : List Decree) × (answer ≡ Removed chain)
removes requested sequence id Accepted body status = absurd cc
removes requested sequence id (Shown chain) body status = absurd cc
removes requested sequence id (Removed chain) body status = (chain, refl)
removes requested sequence id NotOwner body status = absurd (omega (arith, status))
removes requested sequence id (StillThere chain) body status = absurd (omega (arith, status))
removes requested sequence id (NotMatched chain) body status = absurd (omega (arith, status))
removes requested sequence id Unknown body status = absurd (omega (arith, status))
removes requested sequence id TooLate body status = absurd (omega (arith, status))

shows : (requested : Requested) (sequence id : ℕ) (answer : Answer) (told : QueryAnswer) →
    (reply_pdu requested sequence id answer).body ≡ QuerySmResp (Some told) → (chain : List Decree) × (answer ≡ Shown chain) × (decimal id ≡ told.message_id)
shows requested sequence id (Shown chain) told body = (chain, refl, same _ body)
  where
    same : (one : QueryAnswer) → QuerySmResp (Some one) ≡ QuerySmResp (Some told) → one.message_id ≡ told.message_id
    same one is = cc
shows requested sequence id Accepted told body = absurd cc
shows requested sequence id (Removed chain) told body = absurd cc
shows requested sequence id NotOwner told body = absurd (refusal_tells_none requested told body)
shows requested sequence id (StillThere chain) told body = absurd (refusal_tells_none requested told body)
shows requested sequence id (NotMatched chain) told body = absurd (refusal_tells_none requested told body)
shows requested sequence id Unknown told body = absurd (refusal_tells_none requested told body)
shows requested sequence id TooLate told body = absurd (refusal_tells_none requested told body)

asked : (body : Body) (request : Request) → IsQuery request → Names body request →
    (query : QueryBody) × (body ≡ QuerySm query) × (decimal (id_in request) ≡ query.message_id)
asked body (Submit id message) is names = absurd is
asked body (Query id account source) is names = names
asked body (Cancel id account source destination) is names = absurd is

named : (body : Body) (request : Request) → is_cancel request ≡ true → Names body request →
    (cancel : CancelBody) × (body ≡ CancelSm cancel) × (decimal (id_in request) ≡ cancel.message_id)
named body (Submit id message) is names = absurd cc
named body (Query id account source) is names = absurd cc
named body (Cancel id account source destination) is names = names

-- a step of the node, whose replies go out
answered_keep : (number : ℕ) (stream : List ℕ) (runner : Runner) (node : Node) (input : Input) → IsSound number stream node.kept runner.sessions →
    Holds number stream runner.streams → ((lost : ℕ) → Restart lost ≡ input → ⊥) →
    Keeps number stream (answered_by runner node input (step_at node input))
answered_keep number stream runner node input sound held plain = record {
  hears = record {
    sound = sound_on number stream node.kept step.kept (told runner.sessions step.outputs.replies).next (step_on input node.kept step so)
        (sound_less number stream node.kept runner.sessions _ (told_lessens number runner.sessions step.outputs.replies) sound);
    held = held;
  };
  fine = λ print among.
      let it = (replies_tell runner.sessions step.outputs.replies).prints print among in
      record {
        ungone = λ is. never it.number it.reply.id _ (sym it.print_is ∙ is);
        right = subst (IsRight number stream) (sym it.print_is) (
          (λ same. answers it.request it.reply (subst (λ (n : ℕ). AsksOn runner.sessions n it.request) same it.asks) it.among it.ticket_is),
          (λ same. tells it.request it.reply (subst (λ (n : ℕ). AsksOn runner.sessions n it.request) same it.asks) it.among it.ticket_is),
        );
      };
}
  where
    step : NodeStep
    step = step_at node input

    so : StepSo input node.kept step
    so = stepped_so node.setup node.kept input plain

    never : (other id : ℕ) (pdu : Pdu) → Late other id pdu ≡ Gone number → ⊥
    never other id pdu is = cc

    tells : (request : OpenRequest) (reply : Reply) → AsksOn runner.sessions number request → In reply step.outputs.replies →
        request.ticket ≡ reply.ticket → (told : QueryAnswer) →
        (reply_pdu request.requested request.sequence reply.id reply.answer).body ≡ QuerySmResp (Some told) →
        IsTold stream (reply_pdu request.requested request.sequence reply.id reply.answer).sequence told.message_id
    tells request reply asks among ticket told body =
        let shown = shows request.requested request.sequence reply.id reply.answer told body in
        let waited = so.replies reply among in
        let tied = (sound.each asks.session asks.there).tied request asks.among in
        let query = waited.shown shown.0 shown.1 in
        let names = asked tied.pdu.body waited.from.waiting.request query (tied.names waited.from waited.among (waited.ticket ∙ sym ticket)) in
        record {
          frame = tied.frame;
          among = tied.among;
          pdu = tied.pdu;
          reads = tied.reads;
          sequence_is = tied.sequence_is ∙ reply_sequence request.requested request.sequence reply.id reply.answer;
          query = names.0;
          body = names.1;
          names = sym names.2 ∙ ap decimal waited.id ∙ shown.2;
        }

    answers : (request : OpenRequest) (reply : Reply) → AsksOn runner.sessions number request → In reply step.outputs.replies →
        request.ticket ≡ reply.ticket → (reply_pdu request.requested request.sequence reply.id reply.answer).body ≡ CancelSmResp →
        (reply_pdu request.requested request.sequence reply.id reply.answer).status % 2 ^ 32 ≡ 0 →
        IsAnswer stream (reply_pdu request.requested request.sequence reply.id reply.answer).sequence reply.id
        × ((reply_pdu request.requested request.sequence reply.id reply.answer).status ≡ status_code statuses.Ok)
    answers request reply asks among ticket body status =
        let removed = removes request.requested request.sequence reply.id reply.answer body status in
        let waited = so.replies reply among in
        let tied = (sound.each asks.session asks.there).tied request asks.among in
        let cancel = waited.removed removed.0 removed.1 in
        let names = named tied.pdu.body waited.from.waiting.request cancel (tied.names waited.from waited.among (waited.ticket ∙ sym ticket)) in (
          record {
            frame = tied.frame;
            among = tied.among;
            pdu = tied.pdu;
            reads = tied.reads;
            sequence_is = tied.sequence_is ∙ reply_sequence request.requested request.sequence reply.id reply.answer;
            cancel = names.0;
            body = names.1;
            names = ap decimal (sym waited.id) ∙ names.2;
          },
          ap (λ (a : Answer). (reply_pdu request.requested request.sequence reply.id a).status) removed.1,
        )

pub delivery_keep : (number : ℕ) (stream : List ℕ) (runner : Runner) (packet : Packet) → Hears number stream runner →
    Keeps number stream (on_delivery runner packet)
delivery_keep number stream runner packet hears =
    let node = runner.node in
    let step = step_at node (Comes packet) in
    let one = answered_by runner node (Comes packet) step in
    let here = answered_keep number stream runner node (Comes packet) hears.sound hears.held (λ lost is. cc) in
    keeps_then number stream one (posts one.next step.outputs.receipts) here
    (posts_keep number stream one.next _ here.hears (all_posted_posts number one.next.node.kept.clock (mail_of one.next) step.outputs.receipts))

-- ---- a moment

pub concluded_on : (node : Node) (slot : Slot) (outcome : Outcome) → GoesOn node.kept (concluded node slot outcome).next.kept
concluded_on node slot outcome = by_test (is_open node.kept slot)
  where
    by_test : (test : Bool) → GoesOn node.kept (cond {A = Went} test (went node (Response slot outcome)) (rests node)).next.kept
    by_test true = step_on (Response slot outcome) node.kept _ (stepped_so node.setup node.kept (Response slot outcome) (λ lost is. cc))
    by_test false = on_same node.kept

pub delivered_on : (node : Node) (delivery : Delivery) (outcome : Option Outcome) → GoesOn node.kept (delivered_so node delivery outcome).next.kept
delivered_on node (deliveries.Attempt slot) (Some outcome) = concluded_on node slot outcome
delivered_on node (deliveries.Attempt slot) None = on_same node.kept
delivered_on node (deliveries.Receipt id) outcome = on_same node.kept

pub all_on : (node : Node) (pushed : List Pushed) → GoesOn node.kept (all_given_up node pushed).next.kept
unfolding all_given_up
all_on node [] = on_same node.kept
all_on node (first ∷ others) =
    let one = given_up node first in
    on_both node.kept one.next.kept (all_given_up one.next others).next.kept (delivered_on node first.delivery (Some unanswered)) (all_on one.next others)

pub tick_keep : (number : ℕ) (stream : List ℕ) (runner : Runner) (moment : ℕ) → Hears number stream runner → Keeps number stream (on_tick runner moment)
tick_keep number stream runner moment hears =
    let one = ticked runner moment in
    let tick = tick_at moment (accounts_up runner.sessions) in
    let here = answered_keep number stream runner runner.node tick hears.sound hears.held (λ lost is. cc) in
    keeps_then number stream one (makes_room one.next) here (room_keep one.next here.hears)
  where
    room_keep : (runner : Runner) → Hears number stream runner → Keeps number stream (makes_room runner)
    room_keep runner hears =
        let now = runner.node.kept.clock in
        let given = gives_up runner now in
        let lessens = moment_lessens number runner.sessions now in
        let on = all_on runner.node (overdue_in runner.sessions now) in
        let left : Hears number stream given.next =
        record {
          sound = sound_on number stream runner.node.kept given.next.node.kept given.next.sessions on
              (sound_less number stream runner.node.kept runner.sessions given.next.sessions lessens hears.sound);
          held = hears.held;
        } in
        keeps_then number stream given (posts_for_all given.next) (record { hears = left; fine = λ print among. absurd among })
        (posts_keep number stream given.next _ left
        (posted_for_all_posts number given.next.node.kept.clock (mail_of given.next) (accounts_up given.next.sessions)))

-- ---- an attempt that is granted

pub grant_keep : (number : ℕ) (stream : List ℕ) (runner : Runner) (id : ℕ) → Hears number stream runner → Keeps number stream (on_grant runner id)
grant_keep number stream runner id hears = by_refusal (grant_refusal runner.node.setup runner.node.kept id)
  where
    slot : Slot
    slot = known_slot runner.node.kept id

    one : Acted
    one = granted runner (Grants slot)

    here : Hears number stream one.next
    here = record {
      sound = sound_on number stream runner.node.kept one.next.node.kept runner.sessions
          (step_on (Grants slot) runner.node.kept _ (stepped_so runner.node.setup runner.node.kept (Grants slot) (λ lost is. cc))) hears.sound;
      held = hears.held;
    }

    fails : Keeps number stream (fails_by one.next (concluded one.next.node slot unanswered))
    fails = record {
      hears = record {
        sound = sound_on number stream one.next.node.kept _ runner.sessions (concluded_on one.next.node slot unanswered) here.sound;
        held = here.held;
      };
      fine = λ print among. absurd among;
    }

    pushes_so : (taken : Submission) (at : ℕ) (session : Option Session) → Keeps number stream (pushes one.next slot taken at session)
    pushes_so taken at None = record { hears = here; fine = λ print among. absurd among }
    pushes_so taken at (Some session) = record {
      hears = record {
        sound = sound_less number stream one.next.node.kept runner.sessions _
            (push_lessens number runner.sessions at one.next.node.kept.clock (deliveries.Attempt slot)) here.sound;
        held = here.held;
      };
      fine = λ print among. elim among [
        | inl same ↦ plain_fine number stream print (subst IsPlain (sym same) (λ body is. no_answer body))
        | inr none ↦ absurd none
      ];
    }
      where
        no_answer : (delivery_on session taken).body ≡ CancelSmResp → ⊥
        no_answer body = cc

    sent_to_so : (taken : Submission) (target : Option ℕ) → Keeps number stream (sent_to one.next slot taken target)
    sent_to_so taken None = fails
    sent_to_so taken (Some at) = pushes_so taken at (session_at runner.sessions at)

    sent_so : (taken : Option Submission) → Keeps number stream (sent one.next slot taken)
    sent_so None = fails
    sent_so (Some taken) = sent_to_so taken (target_in runner.sessions (is_long taken.text) taken.target)

    by_refusal : (refusal : Option GrantRefusal) → Keeps number stream (granted_unless runner id slot refusal)
    by_refusal None =
        keeps_then number stream one (sent one.next slot (submission_at runner.node id)) (record { hears = here; fine = λ print among. absurd among })
        (sent_so (submission_at runner.node id))
    by_refusal (Some refusal) = record {
      hears = hears;
      fine = λ print among. elim among [
        | inl same ↦ record { ungone = λ is. ungone (sym same ∙ is); right = subst (IsRight number stream) (sym same) tt }
        | inr none ↦ absurd none
      ];
    }
      where
        ungone : Ungranted (refusal_number refusal) ≡ Gone number → ⊥
        ungone is = cc
