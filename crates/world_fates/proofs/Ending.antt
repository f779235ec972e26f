-- What acts of a node answer at once, and which sessions they end.
use Rattle.std.proofs.Common.{◌≡◌, ◌⊎◌, ℕ, Bool, true, false, cond, List, [], ◌∷◌, ◌++◌, Option, Some, None, Result, Ok, Err, refl, sym, ap, subst, inl, inr}
use Rattle.std.specs.Prelude.{if◌then◌else◌, is_none, nat_lt}
use Rattle.std.specs.Map.{remove_entry}
use Rattle.std.specs.Ordering.{nat_cmp}
use Rattle.std.specs.BTreeMap.{is_at}
use Rattle.mc_model.specs.message.Submission.{Submission}
use Rattle.mc_model.specs.synod.Lists.{In}
use Rattle.mc_model.specs.synod.Packet.{Packet, Slot}
use Rattle.mc_model.specs.node.Grant.{GrantRefusal, refusal_number}
use Rattle.mc_model.specs.node.Input.{Delivery as Comes, Grant as Grants}
use Rattle.mc_model.specs.node.Outputs.{Reply}
use Rattle.mc_parts.proofs.Membership.{in_either}
use Rattle.node_model.specs.Attempts.{grant_refusal}
use Rattle.node_model.specs.Granted.{known_slot}
use Rattle.node_laws.proofs.invariant.Orders.{in_append, in_mapped}
use Rattle.pdu_bodies.specs.declared.pdu.Pdu.{Pdu}
use Rattle.pdu_codec.specs.Grammar.{word_at}
use Rattle.pdu_codec.specs.Pdu.{read_pdu}
use Rattle.pdu_fields.specs.declared.fault.PduFault.{PduFault}
use Rattle.pdu_frames.specs.Frames.{Cut, begins_wrong, cut}
use Rattle.pdu_tables.specs.CommandCodes.{command_of}
use Rattle.pdu_tables.specs.StatusCodes.{status_code}
use Rattle.pdu_tables.specs.declared.status.Status.TheVariants as statuses
use Rattle.sessions.specs.Responses.{requested_by}
use Rattle.sessions.specs.Session.{Session}
use Rattle.sessions.specs.States.{is_gone}
use Rattle.sessions.specs.Steps.{leaves, on_fault, on_pdu, on_wrong_length, stays}
use Rattle.sessions.specs.declared.reaction.Reaction.{Reaction}
use Rattle.sessions.specs.declared.reaction.Reaction.TheVariants as reactions
use Rattle.sessions.specs.declared.requested.Requested.{Requested}
use Rattle.sessions.specs.declared.response.Response.TheVariants.{Nack}
use Rattle.desk.specs.declared.request.Request.{Request}
use Rattle.script_text.specs.Left.{followed_by}
use Rattle.script_text.specs.Attempts.{submission_at}
use Rattle.script_text.specs.Node.{Node, request_at, step_at, tick_at}
use Rattle.script_text.specs.Prints.{AtOnce, Declined, Delivers, Gone, Late, Print, Ungranted}
use Rattle.script_text.specs.Pushes.{accounts_up, delivery_on, is_long, session_at, target_in}
use Rattle.script_text.specs.Runner.{Acted, Runner, answered_by, gone_prints, granted, granted_unless, last_incarnation, mail_of, makes_room}
use Rattle.script_text.specs.Runner.{declined, no_incarnation, on_delivery, on_grant, on_restart, on_tick, posts, posts_for_all, pushes, restarted, sent}
use Rattle.script_text.specs.Runner.{sent_to}
use Rattle.script_text.specs.Receipts.{posted_for_any}
use Rattle.script_text.specs.Runner.{Came, Served, came_by, ends, gives_up, held_in, holds, nothing_came, on_done, on_frame, on_frames, on_octets}
use Rattle.script_text.specs.Runner.{on_reaction, on_read, on_request, on_rest, opened_at, posts_for, put_at, refusal_prints, served_at, serves, session_in}
use Rattle.script_text.specs.Runner.{ticked, told}
use Rattle.script_text.specs.Settings.{Settings}
use Rattle.world_fates.proofs.Entries.{AreApart, Has, found_entry, none_left}
use Rattle.world_fates.proofs.Windows.{wrong_length_so}
use Rattle.world_fates.proofs.Keeping.{faults_served, frame_keeps, put_apart, read_served}
use Rattle.world_fates.proofs.Asking.{IsQuiet, Posts, all_posted_posts, posted_for_all_posts, posted_for_any_posts, replies_tell}

-- ---- acts that do neither

abbrev pub AreQuiet : List Print → Type 0
AreQuiet prints = (print : Print) → In print prints → IsQuiet print

none_quiet : AreQuiet []
none_quiet print among = absurd among

quiet_both : (first last : List Print) → AreQuiet first → AreQuiet last → AreQuiet (first ++ last)
quiet_both first last one other print among = elim (in_either print first last among) [ inl here ↦ one print here | inr there ↦ other print there ]

only_quiet : (one : Print) → IsQuiet one → AreQuiet (one ∷ [])
only_quiet one quiet print (inl same) = subst IsQuiet (sym same) quiet
only_quiet one quiet print (inr none) = absurd none

late_quiet : (number id : ℕ) (pdu : Pdu) → IsQuiet (Late number id pdu)
late_quiet number id pdu = record { once = λ other late is. absurd cc; gone = λ other is. absurd cc }

told_quiet : (connected : List (ℕ × Session)) (replies : List Reply) → AreQuiet (told connected replies).prints
told_quiet connected replies print among =
    let it = (replies_tell connected replies).prints print among in
    subst IsQuiet (sym it.print_is) (late_quiet it.number it.reply.id _)

pub delivery_quiet : (runner : Runner) (packet : Packet) → AreQuiet (on_delivery runner packet).prints
delivery_quiet runner packet =
    let node = runner.node in
    let one = answered_by runner node (Comes packet) (step_at node (Comes packet)) in
    quiet_both one.prints (posts one.next (step_at node (Comes packet)).outputs.receipts).prints
    (told_quiet runner.sessions (step_at node (Comes packet)).outputs.replies)
    (all_posted_posts one.next.node.kept.clock (mail_of one.next) (step_at node (Comes packet)).outputs.receipts).quiet

pub tick_quiet : (runner : Runner) (moment : ℕ) → AreQuiet (on_tick runner moment).prints
tick_quiet runner moment =
    let one = ticked runner moment in
    let left = (gives_up one.next one.next.node.kept.clock).next in
    quiet_both one.prints (makes_room one.next).prints
    (told_quiet runner.sessions (step_at runner.node (tick_at moment (accounts_up runner.sessions))).outputs.replies)
    (quiet_both [] (posts_for_all left).prints none_quiet
    (posted_for_all_posts left.node.kept.clock (mail_of left) (accounts_up left.sessions)).quiet)

module _ (runner : Runner) where
  pushes_quiet : (slot : Slot) (taken : Submission) (number : ℕ) (session : Option Session) → AreQuiet (pushes runner slot taken number session).prints
  pushes_quiet slot taken number None = none_quiet
  pushes_quiet slot taken number (Some session) =
      only_quiet (Delivers number (delivery_on session taken)) (record { once = λ other late is. absurd cc; gone = λ other is. absurd cc })

  sent_to_quiet : (slot : Slot) (taken : Submission) (target : Option ℕ) → AreQuiet (sent_to runner slot taken target).prints
  sent_to_quiet slot taken None = none_quiet
  sent_to_quiet slot taken (Some number) = pushes_quiet slot taken number (session_at runner.sessions number)

  sent_quiet : (slot : Slot) (taken : Option Submission) → AreQuiet (sent runner slot taken).prints
  sent_quiet slot None = none_quiet
  sent_quiet slot (Some taken) = sent_to_quiet slot taken (target_in runner.sessions (is_long taken.text) taken.target)

pub grant_quiet : (runner : Runner) (id : ℕ) → AreQuiet (on_grant runner id).prints
grant_quiet runner id = by_refusal (grant_refusal runner.node.setup runner.node.kept id)
  where
    slot : Slot
    slot = known_slot runner.node.kept id

    by_refusal : (refusal : Option GrantRefusal) → AreQuiet (granted_unless runner id slot refusal).prints
    by_refusal None =
        let one = granted runner (Grants slot) in
        quiet_both [] (sent one.next slot (submission_at runner.node id)).prints none_quiet (sent_quiet one.next slot (submission_at runner.node id))
    by_refusal (Some refusal) =
        only_quiet (Ungranted (refusal_number refusal)) (record { once = λ other late is. absurd cc; gone = λ other is. absurd cc })

-- ---- acts that end sessions

-- so is what it answers at once, and a session that is gone by it is connected no longer
pub record Ends (Once : ℕ → Pdu → Type 0) (acted : Acted) : Type 0 where
  pub once : (session : ℕ) (pdu : Pdu) → In (AtOnce session pdu) acted.prints → Once session pdu
  pub gone : (session : ℕ) → In (Gone session) acted.prints → Has acted.next.sessions session → ⊥

pub quiet_ends : (Once : ℕ → Pdu → Type 0) (acted : Acted) → AreQuiet acted.prints → Ends Once acted
quiet_ends Once acted quiet = record {
  once = λ session pdu among. absurd ((quiet (AtOnce session pdu) among).once session pdu refl);
  gone = λ session among has. (quiet (Gone session) among).gone session refl;
}

-- nothing is connected any more
pub all_ends : (Once : ℕ → Pdu → Type 0) (acted : Acted) (connected : List (ℕ × Session)) → acted.prints ≡ gone_prints connected →
    acted.next.sessions ≡ [] → Ends Once acted
all_ends Once acted connected printed none = record {
  once = λ session pdu among.
      let it = in_mapped (λ (entry : ℕ × Session). Gone entry.0) connected (AtOnce session pdu) (subst (In (AtOnce session pdu)) printed among) in
      absurd (never session pdu it.from.0 it.is);
  gone = λ session among has. subst (λ (now : List (ℕ × Session)). Has now session → ⊥) (sym none) (λ nothing. nothing.among) has;
}
  where
    never : (session : ℕ) (pdu : Pdu) (other : ℕ) → AtOnce session pdu ≡ Gone other → ⊥
    never session pdu other is = cc

pub restart_ends : (Once : ℕ → Pdu → Type 0) (runner : Runner) → Ends Once (on_restart runner)
restart_ends Once runner = by_test (nat_lt runner.node.kept.incarnation last_incarnation)
  where
    by_test : (left : Bool) → Ends Once (if left then restarted runner else declined runner no_incarnation)
    by_test true = all_ends Once (restarted runner) runner.sessions refl refl
    by_test false =
        quiet_ends Once (declined runner no_incarnation)
        (only_quiet (Declined no_incarnation) (record { once = λ other late is. absurd cc; gone = λ other is. absurd cc }))

-- ---- octets

-- it was answered at once to one of these frames, whatever was at hand then
pub record OfFrame (settings : Settings) (number : ℕ) (frames : List (List ℕ)) (pdu : Pdu) : Type 0 where
  pub frame : List ℕ
  pub among : In frame frames
  pub runner : Runner
  pub printed : In (AtOnce number pdu) (on_frame settings number runner frame).prints

-- or it tells of a wrong length
abbrev pub OfOctets : Settings → ℕ → List (List ℕ) → ℕ → Pdu → Type 0
OfOctets settings number frames session pdu =
    (session ≡ number) × (OfFrame settings number frames pdu ⊎ (pdu.status ≡ status_code statuses.InvalidCommandLength))

-- octets of one session end that session alone
pub record EndsOn (number : ℕ) (Once : ℕ → Pdu → Type 0) (acted : Acted) : Type 0 where
  pub ends : Ends Once acted
  pub only : (session : ℕ) → In (Gone session) acted.prints → session ≡ number

once_more : (number : ℕ) (Once More : ℕ → Pdu → Type 0) (acted : Acted) → ((session : ℕ) (pdu : Pdu) → Once session pdu → More session pdu) →
    EndsOn number Once acted → EndsOn number More acted
once_more number Once More acted more it = record {
  ends = record { once = λ session pdu among. more session pdu (it.ends.once session pdu among); gone = it.ends.gone };
  only = it.only;
}

serves_ends : (Once : ℕ → Pdu → Type 0) (runner : Runner) (number : ℕ) (served : Served) → AreApart runner.sessions →
    ((other : ℕ) → In (Gone other) served.prints → (other ≡ number) × (is_gone served.next.session.state ≡ true)) →
    ((session : ℕ) (pdu : Pdu) → In (AtOnce session pdu) served.prints → Once session pdu) → EndsOn number Once (serves runner number served)
serves_ends Once runner number served apart gone once = record {
  ends = record {
    once = λ session pdu among. elim (in_either (AtOnce session pdu) served.prints posted among) [
      | inl here ↦ once session pdu here
      | inr there ↦ absurd ((posts.quiet (AtOnce session pdu) there).once session pdu refl)
    ];
    gone = λ session among has. elim (in_either (Gone session) served.prints posted among) [
      | inl here ↦
          let it = gone session here in
          none_left number runner.sessions apart (subst (Has without) it.0 (left session it.1 (posts.has session has)))
      | inr there ↦ (posts.quiet (Gone session) there).gone session refl
    ];
  };
  only = λ session among. elim (in_either (Gone session) served.prints posted among) [
    | inl here ↦ (gone session here).0
    | inr there ↦ absurd ((posts.quiet (Gone session) there).gone session refl)
  ];
}
  where
    one : Acted
    one = served_at runner number served

    posted : List Print
    posted = (posts_for one.next served.next.session.account).prints

    posts : Posts (mail_of one.next) (posted_for_any one.next.node.kept.clock (mail_of one.next) served.next.session.account)
    posts = posted_for_any_posts one.next.node.kept.clock (mail_of one.next) served.next.session.account

    without : List (ℕ × Session)
    without = remove_entry (is_at (nat_cmp number)) runner.sessions

    next : Runner
    next = record runner { node = served.next.node }

    left : (session : ℕ) → is_gone served.next.session.state ≡ true → Has one.next.sessions session → Has without session
    left session is has =
        subst (λ (test : Bool). Has (if test then record next { sessions = without }
        else record next { sessions = put_at runner.sessions number served.next.session }).sessions session) is has

-- what is answered at once goes out on the session that was served
module _ (settings : Settings) (number : ℕ) (node : Node) where
  refusal_number_is : (requested : Requested) (sequence : ℕ) (refused : Option ℕ) (session : ℕ) (pdu : Pdu) →
      In (AtOnce session pdu) (refusal_prints number requested sequence refused) → session ≡ number
  refusal_number_is requested sequence None session pdu among = absurd among
  refusal_number_is requested sequence (Some status) session pdu (inl same) = cc
  refusal_number_is requested sequence (Some status) session pdu (inr none) = absurd none

  request_number_is : (left : Session) (requested : Requested) (sequence : ℕ) (account : Option (List ℕ)) (request : Option Request) (session : ℕ) (pdu : Pdu) →
      In (AtOnce session pdu) (on_request number node left requested sequence account request).prints → session ≡ number
  request_number_is left requested sequence None request session pdu among = absurd among
  request_number_is left requested sequence (Some account) None session pdu among = absurd among
  request_number_is left requested sequence (Some account) (Some request) session pdu among =
      refusal_number_is requested sequence (step_at node (request_at node account request)).outputs.refused session pdu among

  reaction_number_is : (came : Came) (left : Session) (reaction : Reaction) (session : ℕ) (pdu : Pdu) →
      In (AtOnce session pdu) (on_reaction settings number node came left reaction).prints → session ≡ number
  reaction_number_is came left (reactions.Ask requested) session pdu among =
      request_number_is left requested came.sequence left.account came.request session pdu among
  reaction_number_is came left (reactions.Answered pushed) session pdu among = absurd among
  reaction_number_is came left (reactions.Leave outgoing abandoned) session pdu (inl same) = cc
  reaction_number_is came left (reactions.Leave outgoing abandoned) session pdu (inr (inl same)) = absurd cc
  reaction_number_is came left (reactions.Leave outgoing abandoned) session pdu (inr (inr none)) = absurd none
  reaction_number_is came left (reactions.Respond outgoing) session pdu (inl same) = cc
  reaction_number_is came left (reactions.Respond outgoing) session pdu (inr none) = absurd none
  reaction_number_is came left reactions.Nothing session pdu among = absurd among

  read_number_is : (left : Session) (octets : List ℕ) (read : Result Pdu PduFault) (session : ℕ) (pdu : Pdu) →
      In (AtOnce session pdu) (on_read settings number node left octets read).prints → session ≡ number
  read_number_is left octets (Ok asked) session pdu among =
      let done = on_pdu settings.accounts left asked in
      reaction_number_is (came_by settings asked) done.next done.reaction session pdu among
  read_number_is left octets (Err fault) session pdu among =
      let done = on_fault left fault (requested_by (command_of (word_at 4 octets))) (word_at 12 octets) in
      reaction_number_is nothing_came done.next done.reaction session pdu among

  -- a wrong length ends the session
  pub length_told : (left : Session) (session : ℕ) (pdu : Pdu) →
      In (AtOnce session pdu) (on_done settings number node nothing_came (on_wrong_length left)).prints →
      pdu.status ≡ status_code statuses.InvalidCommandLength
  length_told left session pdu among = by_test (is_gone left.state) among
    where
      by_test : (gone : Bool) → In (AtOnce session pdu) (on_done settings number node nothing_came
          (if gone then stays left reactions.Nothing else leaves left 0 (Nack statuses.InvalidCommandLength))).prints →
          pdu.status ≡ status_code statuses.InvalidCommandLength
      by_test true among = absurd among
      by_test false (inl same) = ap (λ (p : Pdu). p.status) (the_pdu same)
        where
          the_pdu : {other : Pdu} → AtOnce session pdu ≡ AtOnce number other → pdu ≡ other
          the_pdu same = cc
      by_test false (inr (inl same)) = absurd cc
      by_test false (inr (inr none)) = absurd none

frame_ends : (settings : Settings) (number : ℕ) (runner : Runner) (octets : List ℕ) → AreApart runner.sessions →
    EndsOn number (OfOctets settings number (octets ∷ [])) (on_frame settings number runner octets)
unfolding on_frame
frame_ends settings number runner octets apart =
    let served = on_read settings number runner.node (session_in runner.sessions number) octets (read_pdu octets) in
    let one = (served_at runner number served).next in
    let posted = (posts_for one served.next.session.account).prints in
    serves_ends (OfOctets settings number (octets ∷ [])) runner number served apart
    (read_served settings number runner.node runner.sessions octets (read_pdu octets) refl).gone
    (λ session pdu among.
    let here = read_number_is settings number runner.node (session_in runner.sessions number) octets (read_pdu octets) session pdu among in (
      here,
      inl (record {
        frame = octets;
        among = inl refl;
        runner = runner;
        printed = in_append (AtOnce number pdu) served.prints posted
            (inl (subst (λ (n : ℕ). In (AtOnce n pdu) served.prints) here among));
      }),
    ))

rest_ends : (settings : Settings) (number : ℕ) (runner : Runner) (rest : List ℕ) → AreApart runner.sessions →
    EndsOn number (OfOctets settings number []) (on_rest settings number runner rest)
rest_ends settings number runner rest apart = by_test (begins_wrong rest)
  where
    session : Session
    session = session_in runner.sessions number

    by_test : (wrong : Bool) → EndsOn number (OfOctets settings number []) (cond {A = Acted} wrong (ends settings number runner) (holds runner number rest))
    by_test true =
        serves_ends (OfOctets settings number []) runner number (on_done settings number runner.node nothing_came (on_wrong_length session)) apart
        (faults_served (λ slot. ⊥) settings number runner.node session (on_wrong_length session) (wrong_length_so session)).gone
        (λ other pdu among. (
          reaction_number_is settings number runner.node nothing_came (on_wrong_length session).next (on_wrong_length session).reaction other pdu among,
          inr (length_told settings number runner.node session other pdu among),
        ))
    by_test false = record {
      ends = quiet_ends (OfOctets settings number []) (holds runner number rest) none_quiet;
      only = λ other among. absurd among;
    }

-- of one of more frames
of_more : (settings : Settings) (number : ℕ) (frames others : List (List ℕ)) → ((frame : List ℕ) → In frame frames → In frame others) →
    (session : ℕ) (pdu : Pdu) → OfOctets settings number frames session pdu → OfOctets settings number others session pdu
of_more settings number frames others within session pdu it = (
  it.0,
  elim it.1 [
    | inl of ↦ inl (record { frame = of.frame; among = within of.frame of.among; runner = of.runner; printed = of.printed })
    | inr wrong ↦ inr wrong
  ],
)

frames_end : (settings : Settings) (number : ℕ) (runner : Runner) (frames : List (List ℕ)) (rest : List ℕ) → AreApart runner.sessions →
    EndsOn number (OfOctets settings number frames) (on_frames settings number runner frames rest)
unfolding on_frames
frames_end settings number runner [] rest apart = rest_ends settings number runner rest apart
frames_end settings number runner (frame ∷ frames) rest apart =
    by_found (session_at one.next.sessions number) refl
    (frames_end settings number one.next frames rest (frame_keeps settings number runner frame apart).apart)
  where
    one : Acted
    one = on_frame settings number runner frame

    later : Acted
    later = on_frames settings number one.next frames rest

    All : ℕ → Pdu → Type 0
    All = OfOctets settings number (frame ∷ frames)

    here : EndsOn number All one
    here = once_more number (OfOctets settings number (frame ∷ [])) All one
        (of_more settings number (frame ∷ []) (frame ∷ frames) (λ other among. elim among [ inl same ↦ inl same | inr none ↦ absurd none ]))
        (frame_ends settings number runner frame apart)

    then_ends : (session : Session) → session_at one.next.sessions number ≡ Some session → EndsOn number All later → EndsOn number All (followed_by one later)
    then_ends session is there = record {
      ends = record {
        once = λ other pdu among. elim (in_either (AtOnce other pdu) one.prints later.prints among) [
          | inl first ↦ here.ends.once other pdu first
          | inr last ↦ there.ends.once other pdu last
        ];
        gone = λ other among has. elim (in_either (Gone other) one.prints later.prints among) [
          | inl first ↦
              here.ends.gone other first (subst (Has one.next.sessions) (sym (here.only other first))
              (record { value = session; among = found_entry one.next.sessions number session is }))
          | inr last ↦ there.ends.gone other last has
        ];
      };
      only = λ other among. elim (in_either (Gone other) one.prints later.prints among) [
        | inl first ↦ here.only other first
        | inr last ↦ there.only other last
      ];
    }

    by_found : (found : Option Session) → session_at one.next.sessions number ≡ found → EndsOn number (OfOctets settings number frames) later →
        EndsOn number All (cond {A = Acted} (is_none found) one (followed_by one later))
    by_found None is others = here
    by_found (Some session) is others =
        then_ends session is (once_more number (OfOctets settings number frames) All later
        (of_more settings number frames (frame ∷ frames) (λ other among. inr among)) others)

pub octets_end : (settings : Settings) (runner : Runner) (number : ℕ) (octets : List ℕ) → AreApart runner.sessions →
    EndsOn number (OfOctets settings number (cut (held_in runner.streams number ++ octets)).frames) (on_octets settings runner number octets)
unfolding on_octets
octets_end settings runner number octets apart =
    let stream : Cut = cut (held_in runner.streams number ++ octets) in
    frames_end settings number (opened_at runner number) stream.frames stream.rest
    (put_apart runner.sessions number (session_in runner.sessions number) apart)
