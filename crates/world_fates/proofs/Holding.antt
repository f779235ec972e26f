-- What a step of a node leaves of the requests that it holds, by their tickets, and which of them its replies answer.
use Rattle.std.proofs.Common.{◌≡◌, ◌⊎◌, ℕ, max, Bool, true, false, List, [], ◌∷◌, map, Option, Some, None, refl, sym, ap, subst, ◌∙◌, inl, inr}
use Rattle.std.specs.Prelude.{◌==◌, filter, not, if◌then◌else◌}
use Rattle.mc_model.specs.message.Chain.{final_in, taken_in}
use Rattle.mc_model.specs.message.Decree.{Attempt, Decree, Deleted, Delivered, Expired, Failed, Fate, Told, Final, Kind, Rejected, Taken, Undeliverable}
use Rattle.mc_model.specs.message.Submission.{Submission}
use Rattle.mc_model.specs.synod.Lists.{In}
use Rattle.mc_model.specs.synod.OneSlot.{Vote}
use Rattle.mc_model.specs.synod.Packet.{Ask, Name, Packet, Prepare, Promise, Propose, Refused, Slot, Tell, TopVote, Voted}
use Rattle.mc_model.specs.node.Actor.{Cancel, Query, Request, Submit, id_in}
use Rattle.mc_model.specs.node.Input.{Arrival, Crash, Delivery, Grant, Input, Refusal, Response, Restart, Tick}
use Rattle.mc_model.specs.node.Outcome.{Outcome}
use Rattle.mc_model.specs.node.Outputs.{Reply}
use Rattle.mc_model.specs.node.Replies.{Accepted, Answer, Kept as Keeps, NotMatched, NotOwner, Removed, Shown, TooLate, Unknown}
use Rattle.mc_model.specs.node.Reach.{Reach}
use Rattle.mc_model.specs.node.Setup.{Setup}
use Rattle.mc_parts.proofs.Membership.{in_either, in_filter}
use Rattle.node_model.specs.Message.{Message, Round}
use Rattle.node_model.specs.Kept.{Held, Kept, message_at, with_message}
use Rattle.node_model.specs.Learner.{heard, makes_known}
use Rattle.node_model.specs.Proposer.{is_own_ballot, promised_by, refused, runs_at, started}
use Rattle.node_model.specs.Requests.{begun, held_at, id_of, is_settled, settled_by, settles, ticket_of, told_by, with_held}
use Rattle.node_model.specs.Answers.{answer_by, answer_to, cancel_answer, cancel_answer_of, cancel_decided, is_match, is_owner, query_shown, replied}
use Rattle.node_model.specs.Answers.{replies_to, reply_of, still_waits}
use Rattle.node_model.specs.Attempts.{closed_by, concluded, on_response}
use Rattle.node_model.specs.Starts.{take_for}
use Rattle.node_model.specs.Outputs.{Stepped, leaves, sends}
use Rattle.node_model.specs.Packets.{answer_told, if_member, is_member, is_own_name, known_then, on_known, on_packet, on_promise}
use Rattle.node_model.specs.Packets.{on_refused, on_tell, on_voted, promised_in, proposals, settled_for, settled_told, start_told}
use Rattle.node_model.specs.Packets.{tell_held, tells_about, told_to, vote_concerns}
use Rattle.node_model.specs.Stepped.{saved_by, sender_of, stepped, stepped_down, stepped_up, stopped}
use Rattle.node_model.specs.Ticks.{ids_of, is_late, late_reply, ticked, waits_too}
use Rattle.node_laws.proofs.invariant.Orders.{in_mapped}
use Rattle.node_laws.proofs.invariant.Told.{found_at}
use Rattle.arrival_laws.proofs.Lasting.{Lasts, lasts_then, message_lasts, rules_last, start_lasts}
use Rattle.world_fates.specs.Questions.{HoldsUnder}

-- ---- requests under tickets

abbrev pub request_of : Held → Request
request_of h = h.waiting.request

-- so this one is held
abbrev pub IsUnder : List Held → Held → Type 0
IsUnder held h = HoldsUnder held (ticket_of h) (request_of h)

held_under : (held : List Held) (h : Held) → In h held → IsUnder held h
held_under held h among = record { one = h; among = among; ticket_is = refl; request_is = refl }

-- what is held of these was held of the others
under_before : (held others : List Held) → ((h : Held) → In h others → IsUnder held h) → (ticket : ℕ) (request : Request) →
    HoldsUnder others ticket request → HoldsUnder held ticket request
under_before held others before ticket request under =
    let it = before under.one under.among in
    record { one = it.one; among = it.among; ticket_is = it.ticket_is ∙ under.ticket_is; request_is = it.request_is ∙ under.request_is }

-- which requests an answer may answer
abbrev pub MayAnswer : Answer → Request → Type 0
MayAnswer Accepted (Submit id message) = Unit {0}
MayAnswer Accepted (Query id account source) = ⊥
MayAnswer Accepted (Cancel id account source destination) = ⊥
MayAnswer (Shown chain) (Submit id message) = ⊥
MayAnswer (Shown chain) (Query id account source) = Unit {0}
MayAnswer (Shown chain) (Cancel id account source destination) = ⊥
MayAnswer Unknown (Submit id message) = ⊥
MayAnswer Unknown (Query id account source) = Unit {0}
MayAnswer Unknown (Cancel id account source destination) = Unit {0}
MayAnswer (Removed chain) request = Unit {0}
MayAnswer (Keeps chain) request = Unit {0}
MayAnswer NotOwner request = Unit {0}
MayAnswer (NotMatched chain) request = Unit {0}
MayAnswer TooLate request = Unit {0}

-- a reply answers a request that is held
pub record AnswersHeld (held : List Held) (reply : Reply) : Type 0 where
  pub request : Request
  pub under : HoldsUnder held reply.ticket request
  pub about : id_in request ≡ reply.id
  pub may : MayAnswer reply.answer request

-- a request came, and got this ticket
pub record ComesUnder (input : Input) (step : Stepped) (ticket : ℕ) (request : Request) : Type 0 where
  pub input_is : input ≡ Arrival request
  pub given : step.outputs.ticket ≡ Some ticket

-- What is held was held before, or came; and each reply answers what was held.
pub record HoldsOn (k : Kept) (input : Input) (step : Stepped) : Type 0 where
  pub held : (h : Held) → In h step.kept.held → IsUnder k.held h ⊎ ComesUnder input step (ticket_of h) (request_of h)
  pub replies : (reply : Reply) → In reply step.outputs.replies → AnswersHeld k.held reply

-- nothing is told of, and nothing replied
quietly : (k : Kept) (input : Input) (step : Stepped) → step.kept.held ≡ k.held → step.outputs.replies ≡ [] → HoldsOn k input step
quietly k input step same none = record {
  held = λ h among. inl (held_under k.held h (subst (In h) same among));
  replies = λ reply among. absurd (subst (In reply) none among);
}

-- ---- promises and refusals

promise_holds : (setup : Setup) (k : Kept) (input : Input) (sender : ℕ) (slot : Slot) (ballot : ℕ) (report : Option Vote) →
    HoldsOn k input (on_promise setup k sender slot ballot report)
promise_holds setup k input sender slot ballot report = by_round (message_at k slot.id).round
  where
    by_run : (r : Round) (runs : Bool) → HoldsOn k input (if runs
        then sends (with_message k slot.id (record (message_at k slot.id) { round = Some (promised_by r sender report) }))
        (proposals setup r sender report) [] []
        else leaves k)
    by_run r true = quietly k input _ refl refl
    by_run r false = quietly k input _ refl refl

    by_round : (round : Option Round) → HoldsOn k input (promised_in setup k (message_at k slot.id) round sender slot ballot report)
    by_round None = quietly k input _ refl refl
    by_round (Some r) = by_run r (runs_at (Some r) slot ballot)

refusal_holds : (setup : Setup) (k : Kept) (input : Input) (slot : Slot) (ballot promised : ℕ) → HoldsOn k input (on_refused setup k slot ballot promised)
refusal_holds setup k input slot ballot promised = by_ballot (is_own_ballot setup k ballot)
  where
    by_ballot : (own : Bool) →
        HoldsOn k input (if own then leaves (with_message k slot.id (refused (message_at k slot.id) slot ballot promised)) else leaves k)
    by_ballot true = quietly k input _ refl refl
    by_ballot false = quietly k input _ refl refl

-- ---- votes

-- a request that is changed stays what it is, and under its ticket
record IsSame (before after : Held) : Type 0 where
  ticket_is : ticket_of before ≡ ticket_of after
  request_is : request_of before ≡ request_of after

settled_same : (nodes : ℕ) (known : Option (List Decree)) (h : Held) → IsSame h (settled_by nodes known h)
settled_same nodes known h = by_test (settles nodes known h)
  where
    by_test : (test : Bool) → IsSame h (if test then record h { waiting = record h.waiting { settled = true } } else h)
    by_test true = record { ticket_is = refl; request_is = refl }
    by_test false = record { ticket_is = refl; request_is = refl }

settled_for_same : (nodes id : ℕ) (chain : List Decree) (h : Held) → IsSame h (settled_for nodes id chain h)
settled_for_same nodes id chain h = by_test (id_of h == id)
  where
    by_test : (test : Bool) → IsSame h (if test then settled_by nodes (Some chain) h else h)
    by_test true = settled_same nodes (Some chain) h
    by_test false = record { ticket_is = refl; request_is = refl }

changed_under : (change : Held → Held) → ((h : Held) → IsSame h (change h)) → (held : List Held) (h : Held) → In h (map change held) →
    IsUnder held h
changed_under change same held h among =
    let it = in_mapped change held h among in
    record {
      one = it.from;
      among = it.among;
      ticket_is = (same it.from).ticket_is ∙ sym (ap ticket_of it.is);
      request_is = (same it.from).request_is ∙ sym (ap request_of it.is);
    }

-- ---- what is answered

the_answer : (one other : Answer) → Some one ≡ Some other → one ≡ other
the_answer one other is = cc

-- it answers so, and so it may
so_may : (request : Request) (one answer : Answer) → MayAnswer one request → Some one ≡ Some answer → MayAnswer answer request
so_may request one answer may is = subst (λ (a : Answer). MayAnswer a request) (the_answer one answer is) may

module _ (id : ℕ) (account source destination : List ℕ) (answer : Answer) where
  cancel_may : (state : Option Final) (kind : Kind) (chain : List Decree) → cancel_answer state kind chain ≡ Some answer →
      MayAnswer answer (Cancel id account source destination)
  cancel_may None (Taken message) chain is = absurd cc
  cancel_may None (Attempt number) chain is = so_may (Cancel id account source destination) (Keeps chain) answer tt is
  cancel_may None (Failed error) chain is = absurd cc
  cancel_may None (Fate final error) chain is = so_may (Cancel id account source destination) (Keeps chain) answer tt is
  cancel_may None Told chain is = so_may (Cancel id account source destination) (Keeps chain) answer tt is
  cancel_may (Some Delivered) kind chain is = so_may (Cancel id account source destination) (Keeps chain) answer tt is
  cancel_may (Some Expired) kind chain is = so_may (Cancel id account source destination) (Keeps chain) answer tt is
  cancel_may (Some Deleted) kind chain is = so_may (Cancel id account source destination) (Removed chain) answer tt is
  cancel_may (Some Undeliverable) kind chain is = so_may (Cancel id account source destination) (Keeps chain) answer tt is
  cancel_may (Some Rejected) kind chain is = so_may (Cancel id account source destination) (Keeps chain) answer tt is

  chain_may : (chain : List Decree) → cancel_answer_of chain ≡ Some answer → MayAnswer answer (Cancel id account source destination)
  chain_may [] is = absurd cc
  chain_may (newest ∷ older) is = cancel_may (final_in (newest ∷ older)) newest.kind (newest ∷ older) is

  decided_may : (chain : List Decree) (taken : Option Submission) → cancel_decided account source destination chain taken ≡ Some answer →
      MayAnswer answer (Cancel id account source destination)
  decided_may chain None is = absurd cc
  decided_may chain (Some taken) is = by_test (is_match taken account source destination) is
    where
      by_test : (matches : Bool) → (if matches then cancel_answer_of chain else Some (NotMatched chain)) ≡ Some answer →
          MayAnswer answer (Cancel id account source destination)
      by_test true is = chain_may chain is
      by_test false is = so_may (Cancel id account source destination) (NotMatched chain) answer tt is

  shown_may : (chain : List Decree) (taken : Option Submission) → query_shown account source chain taken ≡ Some answer →
      MayAnswer answer (Query id account source)
  shown_may chain None is = absurd cc
  shown_may chain (Some taken) is = by_test (is_owner taken account source) is
    where
      by_test : (owns : Bool) → (if owns then Some (Shown chain) else Some NotOwner) ≡ Some answer → MayAnswer answer (Query id account source)
      by_test true is = so_may (Query id account source) (Shown chain) answer tt is
      by_test false is = so_may (Query id account source) NotOwner answer tt is

answer_may : (known : Option (List Decree)) (reached settled : Bool) (request : Request) (answer : Answer) →
    answer_by known reached settled request ≡ Some answer → MayAnswer answer request
answer_may None reached settled (Submit id message) answer is = absurd cc
answer_may (Some chain) reached settled (Submit id message) answer is = so_may (Submit id message) Accepted answer tt is
answer_may None true settled (Query id account source) answer is = so_may (Query id account source) Unknown answer tt is
answer_may None false settled (Query id account source) answer is = absurd cc
answer_may (Some chain) true settled (Query id account source) answer is = shown_may id account source [] answer chain (taken_in chain) is
answer_may (Some chain) false settled (Query id account source) answer is = absurd cc
answer_may None true settled (Cancel id account source destination) answer is = so_may (Cancel id account source destination) Unknown answer tt is
answer_may None false settled (Cancel id account source destination) answer is = absurd cc
answer_may (Some chain) reached true (Cancel id account source destination) answer is =
    decided_may id account source destination answer chain (taken_in chain) is
answer_may (Some chain) reached false (Cancel id account source destination) answer is = absurd cc

-- a reply to requests of a message answers one of them
reply_held : (nodes : ℕ) (known : Option (List Decree)) (id : ℕ) (held : List Held) (reply : Reply) → In reply (replies_to nodes known id held) →
    AnswersHeld held reply
reply_held nodes known id [] reply among = absurd among
reply_held nodes known id (h ∷ others) reply among =
    by_answer (λ later. more (reply_held nodes known id others reply later)) (reply_of nodes known id h) (by_test (id_of h == id)) among
  where
    more : AnswersHeld others reply → AnswersHeld (h ∷ others) reply
    more it = record {
      request = it.request;
      under = record { one = it.under.one; among = inr it.under.among; ticket_is = it.under.ticket_is; request_is = it.under.request_is };
      about = it.about;
      may = it.may;
    }

    by_test : (test : Bool) → (answer : Answer) → (if test then answer_to nodes known h else None) ≡ Some answer → MayAnswer answer (request_of h)
    by_test true answer is = answer_may known (is_settled nodes known h) h.waiting.settled (request_of h) answer is
    by_test false answer is = absurd cc

    by_answer : (In reply (replies_to nodes known id others) → AnswersHeld (h ∷ others) reply) → (found : Option Answer) →
        ((answer : Answer) → found ≡ Some answer → MayAnswer answer (request_of h)) → In reply (replied h found (replies_to nodes known id others)) →
        AnswersHeld (h ∷ others) reply
    by_answer later None may among = later among
    by_answer later (Some answer) may (inl same) =
        subst (AnswersHeld (h ∷ others)) (sym same) (record {
          request = request_of h;
          under = record { one = h; among = inl refl; ticket_is = refl; request_is = refl };
          about = refl;
          may = may answer refl;
        })
    by_answer later (Some answer) may (inr among) = later among

module _ (setup : Setup) (k : Kept) (id : ℕ) (m : Message) (chain : List Decree) where
  abbrev knowing : Kept
  knowing = record (with_message k id (known_then m chain)) { held = map (settled_for setup.nodes id chain) k.held }

  waited : (h : Held) → In h knowing.held → IsUnder k.held h
  waited h among = changed_under (settled_for setup.nodes id chain) (settled_for_same setup.nodes id chain) k.held h among

  known_holds : (input : Input) → HoldsOn k input (on_known setup k id m chain)
  known_holds input = record {
    held = λ h among. inl (waited h (in_filter (still_waits setup.nodes (Some chain) id) knowing.held h among));
    replies = λ reply among.
        let it = reply_held setup.nodes (Some chain) id knowing.held reply among in
        record {
          request = it.request;
          under = under_before k.held knowing.held waited reply.ticket it.request it.under;
          about = it.about;
          may = it.may;
        };
  }

vote_holds : (setup : Setup) (k : Kept) (input : Input) (voter : ℕ) (slot : Slot) (vote : Vote) → HoldsOn k input (on_voted setup k voter slot vote)
vote_holds setup k input voter slot vote = by_test (makes_known setup.nodes (heard (message_at k slot.id) voter vote) vote)
  where
    by_test : (makes : Bool) → HoldsOn k input (if makes then on_known setup k slot.id (heard (message_at k slot.id) voter vote) vote.chain
        else leaves (with_message k slot.id (heard (message_at k slot.id) voter vote)))
    by_test true = known_holds setup k slot.id (heard (message_at k slot.id) voter vote) vote.chain input
    by_test false = quietly k input _ refl refl

-- ---- what is told to a question

told_under : (held : List Held) (new h : Held) → IsUnder held new → In h (with_held held new) → IsUnder held h
told_under held new h under among =
    let it = in_mapped (λ (old : Held). if ticket_of old == ticket_of new then new else old) held h among in
    by_ticket it.from it.among (ticket_of it.from == ticket_of new) it.is
  where
    by_ticket : (old : Held) → In old held → (same : Bool) → h ≡ (if same then new else old) → IsUnder held h
    by_ticket old among true is = subst (IsUnder held) (sym is) under
    by_ticket old among false is = subst (IsUnder held) (sym is) (held_under held old among)

module _ (setup : Setup) (k : Kept) (told new : Held) (known : Option (List Decree)) (under : IsUnder k.held new) where
  abbrev noted : Kept
  noted = record k { held = with_held k.held new }

  abbrev asked_on : Kept
  asked_on = (started setup noted (id_of new) (start_told setup noted known told new)).kept

  tell_lasts : Lasts noted asked_on
  tell_lasts = start_lasts setup noted (id_of new) (start_told setup noted known told new)

  told_before : (h : Held) → In h asked_on.held → IsUnder k.held h
  told_before h among = told_under k.held new h under (subst (In h) tell_lasts.held among)

  told_holds : (input : Input) → HoldsOn k input (settled_told setup k known told new)
  told_holds input =
      by_answer (answer_to setup.nodes known new) (answer_may known (is_settled setup.nodes known new) new.waiting.settled (request_of new))
    where
      by_answer : (found : Option Answer) → ((answer : Answer) → found ≡ Some answer → MayAnswer answer (request_of new)) →
          HoldsOn k input (answer_told (started setup noted (id_of new) (start_told setup noted known told new)) new found)
      by_answer None may = record { held = λ h among. inl (told_before h among); replies = λ reply among. absurd among }
      by_answer (Some answer) may = record {
        held = λ h among. inl (told_before h (in_filter (λ (other : Held). not (ticket_of other == ticket_of new)) asked_on.held h among));
        replies = λ reply among. elim among [
          | inl same ↦
              subst (AnswersHeld k.held) (sym same) (record { request = request_of new; under = under; about = refl; may = may answer refl })
          | inr none ↦ absurd none
        ];
      }

tell_holds : (setup : Setup) (k : Kept) (input : Input) (teller : ℕ) (name : Name) (told : Option TopVote) → HoldsOn k input (on_tell setup k teller name told)
tell_holds setup k input teller name told = by_name (is_own_name setup k name)
  where
    to_held : (h : Held) → In h k.held → HoldsOn k input (told_to setup k (message_at k (id_of h)).known (told_by h teller told))
    to_held h among =
        let known = (message_at k (id_of h)).known in
        let same = settled_same setup.nodes known (told_by h teller told) in
        told_holds setup k (told_by h teller told) (settled_by setup.nodes known (told_by h teller told)) known
        (record { one = h; among = among; ticket_is = same.ticket_is; request_is = same.request_is }) input

    by_about : (h : Held) → In h k.held → (about : Bool) →
        HoldsOn k input (if about then told_to setup k (message_at k (id_of h)).known (told_by h teller told) else leaves k)
    by_about h among true = to_held h among
    by_about h among false = quietly k input (leaves k) refl refl

    by_held : (found : Option Held) → held_at k.held name.ticket ≡ found → HoldsOn k input (tell_held setup k teller told found)
    by_held None is = quietly k input (leaves k) refl refl
    by_held (Some h) is = by_about h (found_at k.held name.ticket h is).among (tells_about told (id_of h))

    by_name : (own : Bool) → HoldsOn k input (if own then tell_held setup k teller told (held_at k.held name.ticket) else leaves k)
    by_name true = by_held (held_at k.held name.ticket) refl
    by_name false = quietly k input (leaves k) refl refl

-- ---- packets, requests, ticks and attempts

packet_holds : (setup : Setup) (k : Kept) (packet : Packet) → HoldsOn k (Delivery packet) (on_packet setup k packet)
packet_holds setup k packet = by_packet packet
  where
    input : Input
    input = Delivery packet

    if_so : (sender : ℕ) (step : Stepped) → HoldsOn k input step → HoldsOn k input (if_member setup k sender step)
    if_so sender step holds = by_test (is_member setup sender)
      where
        by_test : (member : Bool) → HoldsOn k input (if member then step else leaves k)
        by_test true = holds
        by_test false = quietly k input (leaves k) refl refl

    voted : (voter : ℕ) (slot : Slot) (vote : Vote) (concerns : Bool) → HoldsOn k input (if concerns then on_voted setup k voter slot vote else leaves k)
    voted voter slot vote true = vote_holds setup k input voter slot vote
    voted voter slot vote false = quietly k input (leaves k) refl refl

    by_packet : (p : Packet) → HoldsOn k input (on_packet setup k p)
    by_packet (Prepare sender slot ballot) = if_so sender _ (quietly k input _ refl refl)
    by_packet (Promise sender slot ballot report) = if_so sender _ (promise_holds setup k input sender slot ballot report)
    by_packet (Propose sender slot vote) = if_so sender _ (quietly k input _ refl refl)
    by_packet (Voted sender slot vote) = if_so sender _ (voted sender slot vote (vote_concerns setup k slot vote))
    by_packet (Refused sender slot ballot promised) = if_so sender _ (refusal_holds setup k input slot ballot promised)
    by_packet (Ask sender id name) = if_so sender _ (quietly k input _ refl refl)
    by_packet (Tell sender name told) = if_so sender _ (tell_holds setup k input sender name told)

arrival_holds : (setup : Setup) (k : Kept) (request : Request) → HoldsOn k (Arrival request) (stepped_up setup k (Arrival request))
arrival_holds setup k request =
    let new = begun k.ticket k.clock request in
    let lasts = start_lasts setup (waits_too k request new) (id_in request) (take_for setup (waits_too k request new) new request) in
    record {
      held = λ h among. elim (in_either h k.held (new ∷ []) (subst (In h) lasts.held among)) [
        | inl old ↦ inl (held_under k.held h old)
        | inr came ↦ elim came [
          | inl same ↦ inr (record {
            input_is = ap (λ (x : Held). Arrival (request_of x)) (sym same);
            given = ap (λ (x : Held). Some (ticket_of x)) (sym same);
          })
          | inr none ↦ absurd none
        ]
      ];
      replies = λ reply among. absurd among;
    }

tick_holds : (setup : Setup) (k : Kept) (moment : ℕ) (reach : Reach) → HoldsOn k (Tick moment reach) (stepped_up setup k (Tick moment reach))
tick_holds setup k moment reach =
    let clock = max k.clock moment in
    let risen = ticked k clock in
    let lasts = rules_last setup reach (ids_of risen) risen in
    record {
      held = λ h among. inl (held_under k.held h (in_filter (λ (other : Held). not (is_late clock other)) k.held h (subst (In h) lasts.held among)));
      replies = λ reply among.
          let it = in_mapped late_reply (filter (is_late clock) k.held) reply among in
          subst (AnswersHeld k.held) (sym it.is) (record {
            request = request_of it.from;
            under = held_under k.held it.from (in_filter (is_late clock) k.held it.from it.among);
            about = refl;
            may = tt;
          });
    }

response_holds : (setup : Setup) (k : Kept) (slot : Slot) (outcome : Outcome) → HoldsOn k (Response slot outcome) (on_response setup k slot outcome)
response_holds setup k slot outcome =
    let closed = closed_by k slot outcome in
    let start = concluded setup k slot outcome (message_at k slot.id).known in
    quietly k (Response slot outcome) (on_response setup k slot outcome)
    (lasts_then k closed (started setup closed slot.id start).kept (message_lasts k slot.id _) (start_lasts setup closed slot.id start)).held refl

crash_holds : (setup : Setup) (k : Kept) (packet : Packet) (after : Bool) → HoldsOn k (Crash packet after) (leaves (stopped setup k packet after))
crash_holds setup k packet after = quietly k (Crash packet after) (leaves (stopped setup k packet after)) (by_test after) refl
  where
    by_packet : (p : Packet) → (saved_by setup k p).held ≡ k.held
    by_packet (Prepare sender slot ballot) = refl
    by_packet (Propose sender slot vote) = refl
    by_packet other = refl

    by_member : (member : Bool) → (if member then record (saved_by setup k packet) { up = false } else record k { up = false }).held ≡ k.held
    by_member true = by_packet packet
    by_member false = refl

    by_test : (test : Bool) → (stopped setup k packet test).held ≡ k.held
    by_test true = by_member (is_member setup (sender_of packet))
    by_test false = refl

-- ---- a step

-- a node that starts anew holds nothing
pub restart_holds : (setup : Setup) (k : Kept) (lost : ℕ) (h : Held) → In h (stepped setup k (Restart lost)).kept.held → ⊥
restart_holds setup k lost h among = by_up k.up among
  where
    by_up : (up : Bool) → In h (if up then stepped_up setup k (Restart lost) else stepped_down setup k (Restart lost)).kept.held → ⊥
    by_up true among = among
    by_up false among = among

restart_so : (setup : Setup) (k : Kept) (lost : ℕ) → HoldsOn k (Restart lost) (stepped setup k (Restart lost))
restart_so setup k lost = record { held = λ h among. absurd (restart_holds setup k lost h among); replies = λ reply among. absurd (silent k.up reply among) }
  where
    silent : (up : Bool) (reply : Reply) →
        In reply (if up then stepped_up setup k (Restart lost) else stepped_down setup k (Restart lost)).outputs.replies → ⊥
    silent true reply among = among
    silent false reply among = among

pub holds_on : (setup : Setup) (k : Kept) (input : Input) → HoldsOn k input (stepped setup k input)
holds_on setup k input = by_input input
  where
    by_up : (i : Input) → HoldsOn k i (stepped_up setup k i) → HoldsOn k i (stepped_down setup k i) → (up : Bool) →
        HoldsOn k i (if up then stepped_up setup k i else stepped_down setup k i)
    by_up i above below true = above
    by_up i above below false = below

    by_input : (i : Input) → HoldsOn k i (stepped setup k i)
    by_input (Delivery packet) = by_up (Delivery packet) (packet_holds setup k packet) (quietly k (Delivery packet) _ refl refl) k.up
    by_input (Arrival request) = by_up (Arrival request) (arrival_holds setup k request) (quietly k (Arrival request) _ refl refl) k.up
    by_input (Refusal status) = by_up (Refusal status) (quietly k (Refusal status) _ refl refl) (quietly k (Refusal status) _ refl refl) k.up
    by_input (Tick moment tests) = by_up (Tick moment tests) (tick_holds setup k moment tests) (quietly k (Tick moment tests) _ refl refl) k.up
    by_input (Grant slot) = by_up (Grant slot) (quietly k (Grant slot) _ refl refl) (quietly k (Grant slot) _ refl refl) k.up
    by_input (Response slot outcome) =
        by_up (Response slot outcome) (response_holds setup k slot outcome) (quietly k (Response slot outcome) _ refl refl) k.up
    by_input (Crash packet after) = by_up (Crash packet after) (crash_holds setup k packet after) (quietly k (Crash packet after) _ refl refl) k.up
    by_input (Restart lost) = restart_so setup k lost
