-- What a step of a node leaves of the requests that wait there, and to which of them it replies.
use Rattle.std.proofs.Common.{◌≡◌, ◌⊎◌, ℕ, ◌<◌, ◌≤◌, Bool, true, false, List, [], ◌∷◌, map, Option, Some, None, refl}
use Rattle.std.proofs.Common.{sym, ◌∙◌, ap, subst, inl, inr, arith}
use Rattle.std.specs.Prelude.{◌==◌, if◌then◌else◌, filter, max, pred}
use Rattle.mc_model.specs.message.Decree.{Attempt, Decree, Deleted, Delivered, Expired, Failed, Fate, Told, Final, Kind, Rejected, Taken, Undeliverable}
use Rattle.mc_model.specs.message.Chain.{final_in, taken_in}
use Rattle.mc_model.specs.message.Submission.{Submission}
use Rattle.mc_model.specs.synod.Lists.{In}
use Rattle.mc_model.specs.synod.OneSlot.{Vote}
use Rattle.mc_model.specs.synod.Packet.{Ask, Packet, Prepare, Promise, Propose, Refused, Slot, Tell, TopVote, Voted, slot_at}
use Rattle.mc_model.specs.node.Actor.{Cancel, Query, Request, Submit, id_in}
use Rattle.mc_model.specs.node.Input.{Arrival, Crash, Delivery, Grant, Input, Refusal, Response, Restart, Tick}
use Rattle.mc_model.specs.node.FirstRule.{Announce, Close, Delete, Expire, Follow, GiveUp, Lose, Rule, Take, Try, Undeliver}
use Rattle.mc_model.specs.node.Outcome.{Outcome}
use Rattle.mc_model.specs.node.Outputs.{Reply}
use Rattle.mc_model.specs.node.Replies.{Answer, NotMatched, NotOwner, Removed, Shown, TooLate}
use Rattle.mc_model.specs.node.Reach.{Reach}
use Rattle.mc_model.specs.node.Setup.{Setup}
use Rattle.mc_parts.proofs.Membership.{in_filter, in_two}
use Rattle.node_laws.proofs.invariant.Orders.{in_mapped}
use Rattle.node_model.specs.Answers.{answer_by, cancel_answer, cancel_answer_of, cancel_decided, is_match, answer_to, is_owner}
use Rattle.node_model.specs.Answers.{query_shown, replied, replies_to, still_waits}
use Rattle.node_model.specs.Attempts.{closed_by, concluded, on_response}
use Rattle.node_model.specs.Kept.{Held, Kept, message_at, with_message}
use Rattle.node_model.specs.Learner.{heard, makes_known}
use Rattle.node_model.specs.Message.{Message, Round}
use Rattle.node_model.specs.Outputs.{Stepped, leaves}
use Rattle.node_model.specs.Packets.{answer_told, heard_in, is_member, is_own_name, known_then, on_known, on_packet}
use Rattle.node_model.specs.Packets.{promised_in, settled_for, settled_told, start_known, start_told, tell_held, tells_about}
use Rattle.node_model.specs.Packets.{vote_concerns}
use Rattle.node_model.specs.Proposer.{Prepared, Start, is_free, is_own_ballot, runs_at, started}
use Rattle.node_model.specs.Requests.{begun, held_at, id_of, is_cancel, settled_by, settles, ticket_of, told_by, with_held}
use Rattle.node_model.specs.Rules.{Fitting, first_rule}
use Rattle.node_model.specs.Starts.{take_for}
use Rattle.node_model.specs.Stepped.{saved_by, sender_of, stepped, stepped_down, stepped_up, stopped}
use Rattle.node_model.specs.Ticks.{given_up, ids_of, is_late, late_reply, on_arrival, on_tick, ruled, ruled_each, ticked, waits_too}
use Rattle.world_fates.proofs.node.Posting.{found_in}

-- ---- what is said of a step

-- a request waited before, under its ticket
pub record IsAmong (held : List Held) (h : Held) : Type 0 where
  pub from : Held
  pub among : In from held
  pub ticket : ticket_of h ≡ ticket_of from
  pub request : h.waiting.request ≡ from.waiting.request

-- it came by this input, and waits under the next ticket
pub record IsNew (input : Input) (before after : Kept) (h : Held) : Type 0 where
  pub ticket : ticket_of h ≡ before.ticket
  pub below : before.ticket < after.ticket
  pub request : input ≡ Arrival h.waiting.request

-- it is a query_sm
abbrev pub IsQuery : Request → Type 0
IsQuery (Submit id message) = ⊥
IsQuery (Query id account source) = Unit {0}
IsQuery (Cancel id account source destination) = ⊥

-- a reply is to a request that waited, and ESME_ROK to a cancel_sm is to one, and to a query_sm too
pub record IsReplied (held : List Held) (reply : Reply) : Type 0 where
  pub from : Held
  pub among : In from held
  pub ticket : ticket_of from ≡ reply.ticket
  pub id : id_of from ≡ reply.id
  pub removed : (chain : List Decree) → reply.answer ≡ Removed chain → is_cancel from.waiting.request ≡ true
  pub shown : (chain : List Decree) → reply.answer ≡ Shown chain → IsQuery from.waiting.request

-- the ticket that a step gives is the next one
pub record IsGiven (input : Input) (before after : Kept) (ticket : ℕ) : Type 0 where
  pub request : Request
  pub input_is : input ≡ Arrival request
  pub ticket_is : ticket ≡ before.ticket
  pub below : before.ticket < after.ticket

pub record StepSo (input : Input) (k : Kept) (step : Stepped) : Type 0 where
  pub ticket : k.ticket ≤ step.kept.ticket
  pub held : (h : Held) → In h step.kept.held → IsAmong k.held h ⊎ IsNew input k step.kept h
  pub replies : (reply : Reply) → In reply step.outputs.replies → IsReplied k.held reply
  pub given : (ticket : ℕ) → step.outputs.ticket ≡ Some ticket → IsGiven input k step.kept ticket

the_same : (held : List Held) (h : Held) → In h held → IsAmong held h
the_same held h among = record { from = h; among = among; ticket = refl; request = refl }

-- the same requests wait
record Same (before after : Kept) : Type 0 where
  held : after.held ≡ before.held
  ticket : after.ticket ≡ before.ticket

no_ticket : {A : Type 0} (ticket : ℕ) → None ≡ Some ticket → A
no_ticket ticket is = absurd cc

same_so : (input : Input) (k : Kept) (step : Stepped) → Same k step.kept → step.outputs.replies ≡ [] → step.outputs.ticket ≡ None → StepSo input k step
same_so input k step same silent none = record {
  ticket = omega (arith, same.ticket);
  held = λ h among. inl (the_same k.held h (subst (In h) same.held among));
  replies = λ reply among. absurd (subst (In reply) silent among);
  given = λ ticket is. no_ticket ticket (sym none ∙ is);
}

leaves_so : (input : Input) (k : Kept) → StepSo input k (leaves k)
leaves_so input k = same_so input k (leaves k) (record { held = refl; ticket = refl }) refl refl

either : (input : Input) (k : Kept) (test : Bool) (one other : Stepped) → StepSo input k one → StepSo input k other →
    StepSo input k (if test then one else other)
either input k true one other first second = first
either input k false one other first second = second

started_same : (setup : Setup) (k : Kept) (id : ℕ) (start : Option Start) → Same k (started setup k id start).kept
started_same setup k id None = record { held = refl; ticket = refl }
started_same setup k id (Some start) = by_test (is_free k (slot_at id start.place)) _ (record { held = refl; ticket = refl })
  where
    by_test : (test : Bool) (prepared : Prepared) → Same k prepared.kept →
        Same k (if test then prepared else record { kept = k; packets = [] }).kept
    by_test true prepared same = same
    by_test false prepared same = record { held = refl; ticket = refl }

-- ---- what is answered

removed_by : (known : Option (List Decree)) (reached settled : Bool) (request : Request) (chain : List Decree) →
    answer_by known reached settled request ≡ Some (Removed chain) → is_cancel request ≡ true
removed_by None reached settled (Submit id message) chain is = absurd cc
removed_by (Some decrees) reached settled (Submit id message) chain is = absurd cc
removed_by None true settled (Query id account source) chain is = absurd cc
removed_by None false settled (Query id account source) chain is = absurd cc
removed_by (Some decrees) false settled (Query id account source) chain is = absurd cc
removed_by (Some decrees) true settled (Query id account source) chain is = absurd (shown (taken_in decrees) is)
  where
    by_test : (test : Bool) → (if test then Some (Shown decrees) else Some NotOwner) ≡ Some (Removed chain) → ⊥
    by_test true is = cc
    by_test false is = cc

    shown : (taken : Option Submission) → query_shown account source decrees taken ≡ Some (Removed chain) → ⊥
    shown None is = cc
    shown (Some taken) is = by_test (is_owner taken account source) is
removed_by known reached settled (Cancel id account source destination) chain is = refl

shown_by : (known : Option (List Decree)) (reached settled : Bool) (request : Request) (chain : List Decree) →
    answer_by known reached settled request ≡ Some (Shown chain) → IsQuery request
shown_by None reached settled (Submit id message) chain is = absurd cc
shown_by (Some decrees) reached settled (Submit id message) chain is = absurd cc
shown_by known reached settled (Query id account source) chain is = tt
shown_by None true settled (Cancel id account source destination) chain is = absurd cc
shown_by None false settled (Cancel id account source destination) chain is = absurd cc
shown_by (Some decrees) reached false (Cancel id account source destination) chain is = absurd cc
shown_by (Some decrees) reached true (Cancel id account source destination) chain is = absurd (decided (taken_in decrees) is)
  where
    by_state : (state : Option Final) (kind : Kind) (all : List Decree) → cancel_answer state kind all ≡ Some (Shown chain) → ⊥
    by_state None (Taken message) all is = cc
    by_state None (Attempt number) all is = cc
    by_state None (Failed error) all is = cc
    by_state None (Fate final error) all is = cc
    by_state None Told all is = cc
    by_state (Some Delivered) kind all is = cc
    by_state (Some Expired) kind all is = cc
    by_state (Some Deleted) kind all is = cc
    by_state (Some Undeliverable) kind all is = cc
    by_state (Some Rejected) kind all is = cc

    by_chain : (all : List Decree) → cancel_answer_of all ≡ Some (Shown chain) → ⊥
    by_chain [] is = cc
    by_chain (newest ∷ older) is = by_state (final_in (newest ∷ older)) newest.kind (newest ∷ older) is

    by_test : (test : Bool) → (if test then cancel_answer_of decrees else Some (NotMatched decrees)) ≡ Some (Shown chain) → ⊥
    by_test true is = by_chain decrees is
    by_test false is = cc

    decided : (taken : Option Submission) → cancel_decided account source destination decrees taken ≡ Some (Shown chain) → ⊥
    decided None is = cc
    decided (Some taken) is = by_test (is_match taken account source destination) is

replied_so : (held : List Held) (nodes : ℕ) (known : Option (List Decree)) (h from : Held) → In from held → ticket_of h ≡ ticket_of from →
    h.waiting.request ≡ from.waiting.request → (answer : Answer) → answer_to nodes known h ≡ Some answer →
    IsReplied held (record { ticket = ticket_of h; id = id_of h; answer = answer })
replied_so held nodes known h from among ticket request answer is = record {
  from = from;
  among = among;
  ticket = sym ticket;
  id = ap id_in (sym request);
  removed = λ chain removed.
      ap is_cancel (sym request) ∙ removed_by known _ h.waiting.settled h.waiting.request chain (is ∙ ap Some removed);
  shown = λ chain shown. subst IsQuery request (shown_by known _ h.waiting.settled h.waiting.request chain (is ∙ ap Some shown));
}

module _ (nodes id : ℕ) (known : Option (List Decree)) where
  record IsAnswered (held : List Held) (reply : Reply) : Type 0 where
    h : Held
    among : In h held
    answer : Answer
    is : answer_to nodes known h ≡ Some answer
    reply_is : reply ≡ record { ticket = ticket_of h; id = id_of h; answer = answer }

  answered : (held : List Held) (reply : Reply) → In reply (replies_to nodes known id held) → IsAnswered held reply
  answered [] reply among = absurd among
  answered (h ∷ others) reply among = by_test (id_of h == id) (answered others reply) among
    where
      later : IsAnswered others reply → IsAnswered (h ∷ others) reply
      later it = record { h = it.h; among = inr it.among; answer = it.answer; is = it.is; reply_is = it.reply_is }

      by_answer : (answer : Option Answer) → answer_to nodes known h ≡ answer →
          (In reply (replies_to nodes known id others) → IsAnswered others reply) →
          In reply (replied h answer (replies_to nodes known id others)) → IsAnswered (h ∷ others) reply
      by_answer None is behind among = later (behind among)
      by_answer (Some answer) is behind (inl same) = record { h = h; among = inl refl; answer = answer; is = is; reply_is = same }
      by_answer (Some answer) is behind (inr among) = later (behind among)

      by_test : (test : Bool) → (In reply (replies_to nodes known id others) → IsAnswered others reply) →
          In reply (replied h (if test then answer_to nodes known h else None) (replies_to nodes known id others)) → IsAnswered (h ∷ others) reply
      by_test true behind among = by_answer (answer_to nodes known h) refl behind among
      by_test false behind among = later (behind among)

-- a request that is settled is the same
record IsSame (h other : Held) : Type 0 where
  ticket : ticket_of other ≡ ticket_of h
  request : other.waiting.request ≡ h.waiting.request

settled_same : (nodes : ℕ) (known : Option (List Decree)) (h : Held) → IsSame h (settled_by nodes known h)
settled_same nodes known h = by_test (settles nodes known h)
  where
    by_test : (test : Bool) → IsSame h (if test then record h { waiting = record h.waiting { settled = true } } else h)
    by_test true = record { ticket = refl; request = refl }
    by_test false = record { ticket = refl; request = refl }

settled_for_same : (nodes id : ℕ) (chain : List Decree) (h : Held) → IsSame h (settled_for nodes id chain h)
settled_for_same nodes id chain h = by_test (id_of h == id)
  where
    by_test : (test : Bool) → IsSame h (if test then settled_by nodes (Some chain) h else h)
    by_test true = settled_same nodes (Some chain) h
    by_test false = record { ticket = refl; request = refl }

-- ---- packets

promised_so : (input : Input) (setup : Setup) (k : Kept) (m : Message) (round : Option Round) (sender : ℕ) (slot : Slot) (ballot : ℕ) (report : Option Vote) →
    StepSo input k (promised_in setup k m round sender slot ballot report)
promised_so input setup k m None sender slot ballot report = leaves_so input k
promised_so input setup k m (Some r) sender slot ballot report =
    either input k (runs_at (Some r) slot ballot) _ _ (same_so input k _ (record { held = refl; ticket = refl }) refl refl) (leaves_so input k)

known_so : (input : Input) (setup : Setup) (k : Kept) (id : ℕ) (m : Message) (chain : List Decree) → StepSo input k (on_known setup k id m chain)
known_so input setup k id m chain = record {
  ticket = omega (arith, same.ticket);
  held = λ h among. inl (before h (in_filter (still_waits setup.nodes (Some chain) id) settled h among));
  replies = λ reply among.
      let it = answered setup.nodes id (Some chain) settled reply among in
      let was = before it.h it.among in
      subst (IsReplied k.held) (sym it.reply_is) (replied_so k.held setup.nodes (Some chain) it.h was.from was.among was.ticket was.request it.answer it.is);
  given = λ ticket is. no_ticket ticket is;
}
  where
    settled : List Held
    settled = map (settled_for setup.nodes id chain) k.held

    learned : Kept
    learned = record (with_message k id (known_then m chain)) { held = settled }

    same : Same learned (started setup learned id (start_known setup learned id m.known chain)).kept
    same = started_same setup learned id (start_known setup learned id m.known chain)

    before : (h : Held) → In h settled → IsAmong k.held h
    before h among =
        let it = in_mapped (settled_for setup.nodes id chain) k.held h among in
        let one = settled_for_same setup.nodes id chain it.from in
        record {
          from = it.from;
          among = it.among;
          ticket = ap ticket_of it.is ∙ one.ticket;
          request = ap (λ (g : Held). g.waiting.request) it.is ∙ one.request;
        }

voted_so : (input : Input) (setup : Setup) (k : Kept) (id : ℕ) (m : Message) (vote : Vote) → StepSo input k (heard_in setup k id m vote)
voted_so input setup k id m vote =
    either input k (makes_known setup.nodes m vote) _ _ (known_so input setup k id m vote.chain)
    (same_so input k (leaves (with_message k id m)) (record { held = refl; ticket = refl }) refl refl)

told_so : (input : Input) (setup : Setup) (k : Kept) (known : Option (List Decree)) (h told new : Held) → In h k.held → IsSame h new →
    StepSo input k (settled_told setup k known told new)
told_so input setup k known h told new there one = by_answer (answer_to setup.nodes known new) refl
  where
    marked : Kept
    marked = record k { held = with_held k.held new }

    prepared : Prepared
    prepared = started setup marked (id_of new) (start_told setup k known told new)

    same : Same marked prepared.kept
    same = started_same setup marked (id_of new) (start_told setup k known told new)

    with_new : (test : Bool) (g other : Held) → In other k.held → g ≡ (if test then new else other) → IsAmong k.held g
    with_new true g other among is =
        record { from = h; among = there; ticket = ap ticket_of is ∙ one.ticket; request = ap (λ (x : Held). x.waiting.request) is ∙ one.request }
    with_new false g other among is =
        record { from = other; among = among; ticket = ap ticket_of is; request = ap (λ (x : Held). x.waiting.request) is }

    before : (g : Held) → In g prepared.kept.held → IsAmong k.held g
    before g among =
        let it = in_mapped (λ (x : Held). if ticket_of x == ticket_of new then new else x) k.held g (subst (In g) same.held among) in
        with_new (ticket_of it.from == ticket_of new) g it.from it.among it.is

    by_answer : (answer : Option Answer) → answer_to setup.nodes known new ≡ answer → StepSo input k (answer_told prepared new answer)
    by_answer None is = record {
      ticket = omega (arith, same.ticket);
      held = λ g among. inl (before g among);
      replies = λ reply among. absurd among;
      given = λ ticket is. no_ticket ticket is;
    }
    by_answer (Some answer) is = record {
      ticket = omega (arith, same.ticket);
      held = λ g among. inl (before g (in_filter _ prepared.kept.held g among));
      replies = λ reply among. elim among [
        | inl now ↦ subst (IsReplied k.held) (sym now) (replied_so k.held setup.nodes known new h there one.ticket one.request answer is)
        | inr none ↦ absurd none
      ];
      given = λ ticket is. no_ticket ticket is;
    }

tell_so : (input : Input) (setup : Setup) (k : Kept) (teller : ℕ) (told : Option TopVote) (ticket : ℕ) (found : Option Held) → held_at k.held ticket ≡ found →
    StepSo input k (tell_held setup k teller told found)
tell_so input setup k teller told ticket None is = leaves_so input k
tell_so input setup k teller told ticket (Some h) is =
    let known = (message_at k (id_of h)).known in
    let heard = told_by h teller told in
    let one = settled_same setup.nodes known heard in
    either input k (tells_about told (id_of h)) _ _
    (told_so input setup k known h heard (settled_by setup.nodes known heard) (found_in (λ (g : Held). ticket_of g == ticket) k.held h is)
    (record { ticket = one.ticket; request = one.request }))
    (leaves_so input k)

packet_so : (input : Input) (setup : Setup) (k : Kept) (packet : Packet) → StepSo input k (on_packet setup k packet)
packet_so input setup k (Prepare sender slot ballot) =
    either input k (is_member setup sender) _ _ (same_so input k _ (record { held = refl; ticket = refl }) refl refl) (leaves_so input k)
packet_so input setup k (Promise sender slot ballot report) =
    either input k (is_member setup sender) _ _
    (promised_so input setup k (message_at k slot.id) (message_at k slot.id).round sender slot ballot report) (leaves_so input k)
packet_so input setup k (Propose sender slot vote) =
    either input k (is_member setup sender) _ _ (same_so input k _ (record { held = refl; ticket = refl }) refl refl) (leaves_so input k)
packet_so input setup k (Voted sender slot vote) =
    either input k (is_member setup sender) _ _
    (either input k (vote_concerns setup k slot vote) _ _ (voted_so input setup k slot.id (heard (message_at k slot.id) sender vote) vote)
    (leaves_so input k)) (leaves_so input k)
packet_so input setup k (Refused sender slot ballot promised) =
    either input k (is_member setup sender) _ _
    (either input k (is_own_ballot setup k ballot) _ _ (same_so input k _ (record { held = refl; ticket = refl }) refl refl) (leaves_so input k))
    (leaves_so input k)
packet_so input setup k (Ask sender id name) =
    either input k (is_member setup sender) _ _ (same_so input k _ (record { held = refl; ticket = refl }) refl refl) (leaves_so input k)
packet_so input setup k (Tell sender name told) =
    either input k (is_member setup sender) _ _
    (either input k (is_own_name setup k name) _ _ (tell_so input setup k sender told name.ticket (held_at k.held name.ticket) refl) (leaves_so input k))
    (leaves_so input k)

-- ---- ticks, requests, and what comes of attempts

ruled_same : (setup : Setup) (k : Kept) (id : ℕ) (fit : Option Fitting) → Same k (ruled setup k id fit).kept
ruled_same setup k id None = record { held = refl; ticket = refl }
ruled_same setup k id (Some fit) =
    let it = started_same setup (given_up fit.rule k id (pred fit.start.place)) id (Some fit.start) in
    let before = by_rule fit.rule (pred fit.start.place) in
    record { held = it.held ∙ before.held; ticket = it.ticket ∙ before.ticket }
  where
    by_rule : (rule : Rule) (place : ℕ) → Same k (given_up rule k id place)
    by_rule Take place = record { held = refl; ticket = refl }
    by_rule Follow place = record { held = refl; ticket = refl }
    by_rule Close place = record { held = refl; ticket = refl }
    by_rule Lose place = record { held = refl; ticket = refl }
    by_rule GiveUp place = record { held = refl; ticket = refl }
    by_rule Delete place = record { held = refl; ticket = refl }
    by_rule Expire place = record { held = refl; ticket = refl }
    by_rule Undeliver place = record { held = refl; ticket = refl }
    by_rule Try place = record { held = refl; ticket = refl }
    by_rule Announce place = record { held = refl; ticket = refl }

each_same : (setup : Setup) (reach : Reach) (ids : List ℕ) (k : Kept) → Same k (ruled_each setup reach ids k).kept
each_same setup reach [] k = record { held = refl; ticket = refl }
each_same setup reach (id ∷ others) k =
    let first = ruled_same setup k id (first_rule setup k reach id) in
    let rest = each_same setup reach others (ruled setup k id (first_rule setup k reach id)).kept in
    record { held = rest.held ∙ first.held; ticket = rest.ticket ∙ first.ticket }

tick_so : (input : Input) (setup : Setup) (k : Kept) (moment : ℕ) (reach : Reach) → StepSo input k (on_tick setup k moment reach)
tick_so input setup k moment reach = record {
  ticket = omega (arith, same.ticket);
  held = λ h among. inl (the_same k.held h (in_filter _ k.held h (subst (In h) same.held among)));
  replies = λ reply among.
      let it = in_mapped late_reply (filter (is_late now) k.held) reply among in
      record {
        from = it.from;
        among = in_filter (is_late now) k.held it.from it.among;
        ticket = ap (λ (r : Reply). r.ticket) (sym it.is);
        id = ap (λ (r : Reply). r.id) (sym it.is);
        removed = λ chain is. absurd (never chain (ap (λ (r : Reply). r.answer) (sym it.is) ∙ is));
        shown = λ chain is. absurd (never_shown chain (ap (λ (r : Reply). r.answer) (sym it.is) ∙ is));
      };
  given = λ ticket is. no_ticket ticket is;
}
  where
    now : ℕ
    now = max k.clock moment

    timely : Kept
    timely = ticked k now

    same : Same timely (ruled_each setup reach (ids_of timely) timely).kept
    same = each_same setup reach (ids_of timely) timely

    never : (chain : List Decree) → TooLate ≡ Removed chain → ⊥
    never chain is = cc

    never_shown : (chain : List Decree) → TooLate ≡ Shown chain → ⊥
    never_shown chain is = cc

arrival_so : (setup : Setup) (k : Kept) (request : Request) → StepSo (Arrival request) k (on_arrival setup k request)
arrival_so setup k request = record {
  ticket = omega (arith, same.ticket);
  held = λ h among. elim (in_two h k.held new (subst (In h) same.held among)) [
    | inl old ↦ inl (the_same k.held h old)
    | inr is ↦ inr (record { ticket = ap ticket_of is; below = omega (arith, same.ticket); request = ap (λ (g : Held). Arrival g.waiting.request) (sym is) })
  ];
  replies = λ reply among. absurd among;
  given = λ ticket is. record { request = request; input_is = refl; ticket_is = the_ticket ticket is; below = omega (arith, same.ticket) };
}
  where
    new : Held
    new = begun k.ticket k.clock request

    more : Kept
    more = waits_too k request new

    same : Same more (started setup more (id_in request) (take_for setup k new request)).kept
    same = started_same setup more (id_in request) (take_for setup k new request)

    the_ticket : (ticket : ℕ) → Some k.ticket ≡ Some ticket → ticket ≡ k.ticket
    the_ticket ticket is = cc

response_so : (input : Input) (setup : Setup) (k : Kept) (slot : Slot) (outcome : Outcome) → StepSo input k (on_response setup k slot outcome)
response_so input setup k slot outcome =
    let closed = closed_by k slot outcome in
    let same = started_same setup closed slot.id (concluded setup k slot outcome (message_at k slot.id).known) in
    same_so input k (on_response setup k slot outcome) (record { held = same.held; ticket = same.ticket }) refl refl

-- ---- each step

stopped_same : (setup : Setup) (k : Kept) (packet : Packet) (after : Bool) → Same k (stopped setup k packet after)
stopped_same setup k packet false = record { held = refl; ticket = refl }
stopped_same setup k packet true = by_test (is_member setup (sender_of packet)) packet
  where
    by_test : (test : Bool) (packet : Packet) →
        Same k (if test then record (saved_by setup k packet) { up = false } else record k { up = false })
    by_test false packet = record { held = refl; ticket = refl }
    by_test true (Prepare sender slot ballot) = record { held = refl; ticket = refl }
    by_test true (Propose sender slot vote) = record { held = refl; ticket = refl }
    by_test true (Promise sender slot ballot report) = record { held = refl; ticket = refl }
    by_test true (Voted sender slot vote) = record { held = refl; ticket = refl }
    by_test true (Refused sender slot ballot promised) = record { held = refl; ticket = refl }
    by_test true (Ask sender id name) = record { held = refl; ticket = refl }
    by_test true (Tell sender name told) = record { held = refl; ticket = refl }

up_so : (setup : Setup) (k : Kept) (input : Input) → ((lost : ℕ) → Restart lost ≡ input → ⊥) → StepSo input k (stepped_up setup k input)
up_so setup k (Delivery packet) plain = packet_so (Delivery packet) setup k packet
up_so setup k (Crash packet after) plain =
    same_so (Crash packet after) k (leaves (stopped setup k packet after)) (stopped_same setup k packet after) refl refl
up_so setup k (Arrival request) plain = arrival_so setup k request
up_so setup k (Refusal status) plain = same_so (Refusal status) k _ (record { held = refl; ticket = refl }) refl refl
up_so setup k (Tick moment reach) plain = tick_so (Tick moment reach) setup k moment reach
up_so setup k (Grant slot) plain = same_so (Grant slot) k _ (record { held = refl; ticket = refl }) refl refl
up_so setup k (Response slot outcome) plain = response_so (Response slot outcome) setup k slot outcome
up_so setup k (Restart lost) plain = absurd (plain lost refl)

down_so : (setup : Setup) (k : Kept) (input : Input) → ((lost : ℕ) → Restart lost ≡ input → ⊥) → StepSo input k (stepped_down setup k input)
down_so setup k (Delivery packet) plain = leaves_so (Delivery packet) k
down_so setup k (Crash packet after) plain = leaves_so (Crash packet after) k
down_so setup k (Arrival request) plain = leaves_so (Arrival request) k
down_so setup k (Refusal status) plain = leaves_so (Refusal status) k
down_so setup k (Tick moment reach) plain = leaves_so (Tick moment reach) k
down_so setup k (Grant slot) plain = leaves_so (Grant slot) k
down_so setup k (Response slot outcome) plain = leaves_so (Response slot outcome) k
down_so setup k (Restart lost) plain = absurd (plain lost refl)

pub stepped_so : (setup : Setup) (k : Kept) (input : Input) → ((lost : ℕ) → Restart lost ≡ input → ⊥) → StepSo input k (stepped setup k input)
stepped_so setup k input plain = by_up k.up
  where
    by_up : (up : Bool) → StepSo input k (if up then stepped_up setup k input else stepped_down setup k input)
    by_up true = up_so setup k input plain
    by_up false = down_so setup k input plain
