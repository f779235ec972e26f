-- Requests that came to a node behind certain inputs, and what is replied to them.
use Rattle.std.proofs.Common.{◌≡◌, ◌⊎◌, ℕ, zero, suc, Bool, true, false, cond, List, [], ◌∷◌, length, Option, Some, None, refl}
use Rattle.std.proofs.Common.{sym, ◌∙◌, ap, subst, inl, inr}
use Rattle.std.specs.Prelude.{◌==◌, find}
use Rattle.std.specs.Map.{lookup}
use Rattle.std.specs.Ordering.{nat_cmp}
use Rattle.std.specs.BTreeMap.{is_at}
use Rattle.std.proofs.Common.{eqb-true}
use Rattle.mc_model.specs.synod.Lists.{In}
use Rattle.mc_model.specs.node.Outputs.{Receipt, Reply}
use Rattle.mc_parts.proofs.Membership.{in_either}
use Rattle.pdu_bodies.specs.declared.pdu.Pdu.{Pdu}
use Rattle.receipts.specs.Texts.{Report}
use Rattle.sessions.specs.Session.{Session}
use Rattle.sessions.specs.Steps.{on_push, on_reply, push_refusal}
use Rattle.sessions.specs.Steps.{pushed_unless}
use Rattle.sessions.specs.declared.pushed.Delivery.{Delivery}
use Rattle.sessions.specs.declared.pushed.Delivery.TheVariants as deliveries
use Rattle.sessions.specs.declared.pushed.PushRefusal.{PushRefusal}
use Rattle.sessions.specs.declared.request.OpenRequest.{OpenRequest}
use Rattle.script_text.specs.Left.{followed_by, in_front, rests}
use Rattle.script_text.specs.Laws.{TellsState}
use Rattle.script_text.specs.Prints.{AtOnce, Gone, Late, Print, Reports}
use Rattle.script_text.specs.Pushes.{pushed_on, session_at, target_in, with_push}
use Rattle.script_text.specs.Receipts.{Mail, Posted, all_posted, goes_out, goes_out_up_to, is_for, posted, posted_for, posted_for_all}
use Rattle.script_text.specs.Receipts.{posted_for_any, posted_to, reports_on, submitter_of, waits_for, with_both}
use Rattle.script_text.specs.Responses.{reply_pdu}
use Rattle.script_text.specs.Runner.{Owned, Told, found_at}
use Rattle.script_text.specs.Runner.{owner_of}
use Rattle.script_text.specs.Runner.{replied, replied_at, reply_prints}
use Rattle.script_text.specs.Runner.{session_in, session_or_opened, told}
use Rattle.world_fates.proofs.node.Behind.{behind}
use Rattle.world_fates.proofs.node.Posting.{left_in}
use Rattle.world_fates.proofs.node.Telling.{report_tells_no_state}
use Rattle.world_fates.proofs.Entries.{Has, found_entry, set_has, set_in}

-- ---- requests that wait on sessions

pub record AsksOn (connected : List (ℕ × Session)) (number : ℕ) (request : OpenRequest) : Type 0 where
  pub session : Session
  pub there : In (number, session) connected
  pub among : In request session.requests

-- what waits then waited before
abbrev IsLess : Session → Session → Type 0
IsLess before after = (request : OpenRequest) → In request after.requests → In request before.requests

abbrev pub AllAsked : List (ℕ × Session) → List (ℕ × Session) → Type 0
AllAsked before after = (number : ℕ) (request : OpenRequest) → AsksOn after number request → AsksOn before number request

-- one of them is another now
set_asked : (before : List (ℕ × Session)) (at : ℕ) (session next : Session) → lookup (is_at (nat_cmp at)) before ≡ Some session → IsLess session next →
    (number : ℕ) (request : OpenRequest) (other : Session) → (◌≡◌ {A = ℕ × Session} (number, other) (at, next)) ⊎ In (number, other) before →
    In request other.requests →
    AsksOn before number request
set_asked before at session next found less number request other (inl new) among = record {
  session = session;
  there = subst (λ (n : ℕ). In (n, session) before) (sym (ap (λ (x : ℕ × Session). x.0) new)) (found_entry before at session found);
  among = less request (subst (λ (s : Session). In request s.requests) (ap (λ (x : ℕ × Session). x.1) new) among);
}
set_asked before at session next found less number request other (inr old) among = record { session = other; there = old; among = among }

pub in_session : (connected : List (ℕ × Session)) (number : ℕ) (request : OpenRequest) → In request (session_in connected number).requests →
    AsksOn connected number request
in_session connected number request among = by_found (lookup (is_at (nat_cmp number)) connected) refl among
  where
    by_found : (found : Option Session) → lookup (is_at (nat_cmp number)) connected ≡ found → In request (session_or_opened found).requests →
        AsksOn connected number request
    by_found None is among = absurd among
    by_found (Some session) is among = record { session = session; there = found_entry connected number session is; among = among }

push_less : (session : Session) (now : ℕ) (delivery : Delivery) → IsLess session (on_push session now delivery)
push_less session now delivery = by_refusal (push_refusal session)
  where
    by_refusal : (refusal : Option PushRefusal) → IsLess session (pushed_unless refusal session now delivery)
    by_refusal None request among = among
    by_refusal (Some refusal) request among = among

pub push_asked : (connected : List (ℕ × Session)) (at now : ℕ) (delivery : Delivery) → AllAsked connected (with_push connected at now delivery)
push_asked connected at now delivery number request asks = by_found (lookup (is_at (nat_cmp at)) connected) refl asks
  where
    by_found : (found : Option Session) → lookup (is_at (nat_cmp at)) connected ≡ found →
        AsksOn (pushed_on connected at now delivery found) number request → AsksOn connected number request
    by_found None is asks = asks
    by_found (Some session) is asks =
        set_asked connected at session (on_push session now delivery) is (push_less session now delivery) number request asks.session
        (set_in at connected (on_push session now delivery) (number, asks.session) asks.there) asks.among

-- ---- prints that answer no request that waited

-- it tells no state, and is no answer to a request that waited
pub record IsAside (print : Print) : Type 0 where
  pub state : (message_id : List ℕ) (state : ℕ) → TellsState print message_id state → ⊥
  pub late : (session id : ℕ) (pdu : Pdu) → print ≡ Late session id pdu → ⊥

-- it answers nothing at once, and no session is gone by it
pub record IsQuiet (print : Print) : Type 0 where
  pub once : (session : ℕ) (pdu : Pdu) → AtOnce session pdu ≡ print → ⊥
  pub gone : (session : ℕ) → Gone session ≡ print → ⊥

-- ---- receipts go out

pub record Posts (mail : Mail) (posted : Posted) : Type 0 where
  pub asked : AllAsked mail.sessions posted.next.sessions
  pub has : (number : ℕ) → Has posted.next.sessions number → Has mail.sessions number
  pub aside : (print : Print) → In print posted.prints → IsAside print
  pub quiet : (print : Print) → In print posted.prints → IsQuiet print

stays_posted : (mail : Mail) → Posts mail (rests mail)
stays_posted mail = record {
  asked = λ number request asks. asks;
  has = λ number has. has;
  aside = λ print among. absurd among;
  quiet = λ print among. absurd among;
}

then_posts : (mail : Mail) (first last : Posted) → Posts mail first → Posts first.next last → Posts mail (followed_by first last)
then_posts mail first last one other = record {
  asked = λ number request asks. one.asked number request (other.asked number request asks);
  has = λ number has. one.has number (other.has number has);
  aside = λ print among. elim (in_either print first.prints last.prints among) [
    | inl here ↦ one.aside print here
    | inr there ↦ other.aside print there
  ];
  quiet = λ print among. elim (in_either print first.prints last.prints among) [
    | inl here ↦ one.quiet print here
    | inr there ↦ other.quiet print there
  ];
}

reports_aside : (at : ℕ) (session : Option Session) (report : Option Report) (print : Print) → In print (reports_on at session report) → IsAside print
reports_aside at (Some session) (Some report) print (inl same) = record {
  state = λ message_id state tells. report_tells_no_state _ _ _ _ message_id state (subst (λ (p : Print). TellsState p message_id state) same tells);
  late = λ other id pdu is. never other id pdu (sym same ∙ is);
}
  where
    never : {number sequence : ℕ} {optional : Bool} {told : Report} (other id : ℕ) (pdu : Pdu) → Reports number sequence optional told ≡ Late other id pdu → ⊥
    never other id pdu is = cc
reports_aside at (Some session) (Some report) print (inr none) = absurd none
reports_aside at None report print among = absurd among
reports_aside at (Some session) None print among = absurd among

reports_quiet : (at : ℕ) (session : Option Session) (report : Option Report) (print : Print) → In print (reports_on at session report) → IsQuiet print
reports_quiet at (Some session) (Some report) print (inl same) =
    subst IsQuiet (sym same) (record { once = λ other pdu is. absurd cc; gone = λ other is. absurd cc })
reports_quiet at (Some session) (Some report) print (inr none) = absurd none
reports_quiet at None report print among = absurd among
reports_quiet at (Some session) None print among = absurd among

push_has : (connected : List (ℕ × Session)) (at now : ℕ) (delivery : Delivery) (number : ℕ) → Has (with_push connected at now delivery) number →
    Has connected number
push_has connected at now delivery number has = by_found (session_at connected at) has
  where
    by_found : (found : Option Session) → Has (pushed_on connected at now delivery found) number → Has connected number
    by_found None has = has
    by_found (Some session) has = set_has (is_at (nat_cmp at)) connected (on_push session now delivery) number has

goes_out_posts : (now : ℕ) (account : List ℕ) (mail : Mail) (receipt : Receipt) (at : ℕ) → Posts mail (goes_out now account mail receipt at)
goes_out_posts now account mail receipt at = record {
  asked = push_asked mail.sessions at now (deliveries.Receipt receipt.id);
  has = push_has mail.sessions at now (deliveries.Receipt receipt.id);
  aside = reports_aside at (session_at mail.sessions at) _;
  quiet = reports_quiet at (session_at mail.sessions at) _;
}

goes_out_up_to_posts : (most now : ℕ) (account : List ℕ) (mail : Mail) → Posts mail (goes_out_up_to most now account mail)
unfolding goes_out_up_to
goes_out_up_to_posts zero now account mail = stays_posted mail
goes_out_up_to_posts (suc more) now account mail =
    at_both (find (is_for account) mail.waiting) (target_in mail.sessions false account) (goes_out_up_to_posts more now account)
  where
    at_both : (found : Option Receipt) (target : Option ℕ) → ((next : Mail) → Posts next (goes_out_up_to more now account next)) →
        Posts mail (with_both (rests mail)
        (λ receipt number. followed_by (goes_out now account mail receipt number)
        (goes_out_up_to more now account (goes_out now account mail receipt number).next)) found target)
    at_both (Some receipt) (Some number) behind =
        let one = goes_out now account mail receipt number in
        then_posts mail one (goes_out_up_to more now account one.next) (goes_out_posts now account mail receipt number) (behind one.next)
    at_both None target behind = stays_posted mail
    at_both (Some receipt) None behind = stays_posted mail

posted_for_posts : (now : ℕ) (mail : Mail) (account : List ℕ) → Posts mail (posted_for now mail account)
posted_for_posts now mail account = goes_out_up_to_posts (length mail.waiting) now account mail

pub posted_for_any_posts : (now : ℕ) (mail : Mail) (account : Option (List ℕ)) → Posts mail (posted_for_any now mail account)
posted_for_any_posts now mail None = stays_posted mail
posted_for_any_posts now mail (Some account) = posted_for_posts now mail account

pub posted_for_all_posts : (now : ℕ) (mail : Mail) (accounts : List (List ℕ)) → Posts mail (posted_for_all now mail accounts)
unfolding posted_for_all
posted_for_all_posts now mail [] = stays_posted mail
posted_for_all_posts now mail (account ∷ others) =
    let one = posted_for now mail account in
    then_posts mail one (posted_for_all now one.next others) (posted_for_posts now mail account) (posted_for_all_posts now one.next others)

posted_to_posts : (now : ℕ) (mail : Mail) (receipt : Receipt) (account : Option (List ℕ)) → Posts mail (posted_to now mail receipt account)
posted_to_posts now mail receipt None = stays_posted mail
posted_to_posts now mail receipt (Some account) =
    let it = posted_for_posts now (record mail { waiting = waits_for account mail.waiting receipt }) account in
    record { asked = it.asked; has = it.has; aside = it.aside; quiet = it.quiet }

pub all_posted_posts : (now : ℕ) (mail : Mail) (receipts : List Receipt) → Posts mail (all_posted now mail receipts)
unfolding all_posted
all_posted_posts now mail [] = stays_posted mail
all_posted_posts now mail (receipt ∷ others) =
    let one = posted now mail receipt in
    then_posts mail one (all_posted now one.next others) (posted_to_posts now mail receipt (submitter_of receipt)) (all_posted_posts now one.next others)

-- ---- replies

found_passes : {A : Type 0} (test : A → Bool) (items : List A) (item : A) → find test items ≡ Some item → In item items × (test item ≡ true)
found_passes test [] item is = absurd cc
found_passes {A} test (first ∷ items) item is = by_test (test first) refl (found_passes test items item) is
  where
    the_item : Some first ≡ Some item → item ≡ first
    the_item is = cc

    by_test : (passes : Bool) → test first ≡ passes → (find test items ≡ Some item → In item items × (test item ≡ true)) →
        cond passes (Some first) (find test items) ≡ Some item → In item (first ∷ items) × (test item ≡ true)
    by_test true passes behind is = (inl (the_item is), ap test (the_item is) ∙ passes)
    by_test false passes behind is = let it = behind is in (inr it.0, it.1)

-- a session holds the request of a ticket
record IsOwner (connected : List (ℕ × Session)) (ticket : ℕ) (owned : Owned) : Type 0 where
  asks : AsksOn connected owned.number owned.request
  ticket_is : owned.request.ticket ≡ ticket

owner_is : (connected : List (ℕ × Session)) (ticket : ℕ) (owned : Owned) → owner_of connected ticket ≡ Some owned → IsOwner connected ticket owned
owner_is [] ticket owned is = absurd cc
owner_is (entry ∷ entries) ticket owned is =
    by_found (find (λ (request : OpenRequest). request.ticket == ticket) entry.1.requests) refl (owner_is entries ticket owned) is
  where
    here : (request : OpenRequest) → In request entry.1.requests → request.ticket ≡ ticket →
        IsOwner (entry ∷ entries) ticket (record { number = entry.0; request = request })
    here request among same = record { asks = record { session = entry.1; there = inl refl; among = among }; ticket_is = same }

    the_owned : (one : Owned) → Some one ≡ Some owned → one ≡ owned
    the_owned one is = cc

    by_found : (found : Option OpenRequest) → find (λ (request : OpenRequest). request.ticket == ticket) entry.1.requests ≡ found →
        (owner_of entries ticket ≡ Some owned → IsOwner entries ticket owned) → found_at entry.0 found (owner_of entries ticket) ≡ Some owned →
        IsOwner (entry ∷ entries) ticket owned
    by_found None at behind is =
        let it = behind is in
        record { asks = record { session = it.asks.session; there = inr it.asks.there; among = it.asks.among }; ticket_is = it.ticket_is }
    by_found (Some request) at behind is =
        let passes = found_passes (λ (r : OpenRequest). r.ticket == ticket) entry.1.requests request at in
        subst (IsOwner (entry ∷ entries) ticket) (the_owned _ is) (here request passes.0 (eqb-true request.ticket ticket passes.1))

reply_less : (session : Session) (ticket : ℕ) → IsLess session (on_reply session ticket)
reply_less session ticket request among = left_in (λ (other : OpenRequest). other.ticket == ticket) session.requests request among

replied_asked : (connected : List (ℕ × Session)) (ticket : ℕ) (owner : Option Owned) → AllAsked connected (replied connected ticket owner)
replied_asked connected ticket None number request asks = asks
replied_asked connected ticket (Some owned) number request asks = by_found (lookup (is_at (nat_cmp owned.number)) connected) refl asks
  where
    by_found : (found : Option Session) → lookup (is_at (nat_cmp owned.number)) connected ≡ found →
        AsksOn (replied_at connected owned.number ticket found) number request → AsksOn connected number request
    by_found None is asks = asks
    by_found (Some session) is asks =
        set_asked connected owned.number session (on_reply session ticket) is (reply_less session ticket) number request asks.session
        (set_in owned.number connected (on_reply session ticket) (number, asks.session) asks.there) asks.among

-- it answers a request that waits on a session
pub record IsReplyTo (connected : List (ℕ × Session)) (replies : List Reply) (print : Print) : Type 0 where
  pub number : ℕ
  pub request : OpenRequest
  pub reply : Reply
  pub asks : AsksOn connected number request
  pub among : In reply replies
  pub ticket_is : request.ticket ≡ reply.ticket
  pub print_is : print ≡ Late number reply.id (reply_pdu request.requested request.sequence reply.id reply.answer)

pub record Tells (connected : List (ℕ × Session)) (replies : List Reply) (told : Told) : Type 0 where
  pub asked : AllAsked connected told.next
  pub prints : (print : Print) → In print told.prints → IsReplyTo connected replies print

pub replies_tell : (connected : List (ℕ × Session)) (replies : List Reply) → Tells connected replies (told connected replies)
unfolding told
replies_tell connected [] = record { asked = λ number request asks. asks; prints = λ print among. absurd among }
replies_tell connected (reply ∷ replies) =
    by_owner (owner_of connected reply.ticket) refl (λ next. replies_tell next replies)
  where
    now : (owner : Option Owned) → owner_of connected reply.ticket ≡ owner → (print : Print) → In print (reply_prints reply owner) →
        IsReplyTo connected (reply ∷ replies) print
    now None is print among = absurd among
    now (Some owned) is print (inl same) =
        let it = owner_is connected reply.ticket owned is in
        record {
          number = owned.number;
          request = owned.request;
          reply = reply;
          asks = it.asks;
          among = inl refl;
          ticket_is = it.ticket_is;
          print_is = same;
        }
    now (Some owned) is print (inr none) = absurd none

    by_owner : (owner : Option Owned) → owner_of connected reply.ticket ≡ owner →
        ((next : List (ℕ × Session)) → Tells next replies (told next replies)) →
        Tells connected (reply ∷ replies) (in_front (reply_prints reply owner) (told (replied connected reply.ticket owner) replies))
    by_owner owner is behind =
        let later = behind (replied connected reply.ticket owner) in
        let asked = replied_asked connected reply.ticket owner in
        record {
          asked = λ number request asks. asked number request (later.asked number request asks);
          prints = λ print among.
              elim (in_either print (reply_prints reply owner) (told (replied connected reply.ticket owner) replies).prints among) [
                | inl here ↦ now owner is print here
                | inr there ↦
                    let it = later.prints print there in
                    record {
                      number = it.number;
                      request = it.request;
                      reply = it.reply;
                      asks = asked it.number it.request it.asks;
                      among = inr it.among;
                      ticket_is = it.ticket_is;
                      print_is = it.print_is;
                    }
              ];
        }
