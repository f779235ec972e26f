-- What a step of a node that is up leaves of requests that wait, and whom its replies answer.
use Rattle.std.proofs.Common.{◌≡◌, ◌↔◌, ◌⊎◌, ℕ, ◌≤◌, max, Bool, true, false, List, [], ◌∷◌, map, Option, Some, None, refl, sym, ap, subst, ◌∙◌, inl, inr, arith}
use Rattle.std.specs.Prelude.{◌==◌, filter, not, if◌then◌else◌}
use Rattle.mc_model.specs.message.Decree.{Decree}
use Rattle.mc_model.specs.synod.Lists.{In}
use Rattle.mc_model.specs.synod.OneSlot.{Vote}
use Rattle.mc_model.specs.synod.Packet.{Ask, Name, Packet, Prepare, Promise, Propose, Refused, Slot, Tell, TopVote, Voted}
use Rattle.mc_model.specs.node.Actor.{Request, id_in}
use Rattle.mc_model.specs.node.Input.{Arrival, Crash, Delivery, Grant, Input, Refusal, Response, Restart, Tick}
use Rattle.mc_model.specs.node.Outcome.{Outcome}
use Rattle.mc_model.specs.node.Outputs.{Reply}
use Rattle.mc_model.specs.node.Replies.{Answer}
use Rattle.mc_model.specs.node.Reach.{Reach}
use Rattle.mc_model.specs.node.Setup.{Setup}
use Rattle.mc_parts.proofs.Membership.{in_either, in_filter}
use Rattle.mc_parts.proofs.Requests.{serials}
use Rattle.node_model.specs.Message.{Message, Round}
use Rattle.node_model.specs.Kept.{Held, Kept, message_at, with_message}
use Rattle.node_model.specs.Learner.{heard, makes_known}
use Rattle.node_model.specs.Proposer.{is_own_ballot, promised_by, refused, runs_at, started}
use Rattle.node_model.specs.Requests.{begun, held_at, id_of, settled_by, ticket_of, told_by, with_held}
use Rattle.node_model.specs.Answers.{answer_to, still_waits}
use Rattle.node_model.specs.Attempts.{closed_by, concluded, on_grant, on_response}
use Rattle.node_model.specs.Starts.{take_for}
use Rattle.node_model.specs.Outputs.{Stepped, leaves, sends}
use Rattle.node_model.specs.Packets.{answer_told, if_member, is_member, is_own_name, known_then, on_known, on_packet, on_promise}
use Rattle.node_model.specs.Packets.{on_refused, on_tell, on_voted, promised_in, proposals, settled_for, settled_told, start_known, start_told}
use Rattle.node_model.specs.Packets.{tell_held, tells_about, told_to, vote_concerns}
use Rattle.node_model.specs.Stepped.{stepped, stepped_down, stepped_up}
use Rattle.node_model.specs.Ticks.{ids_of, is_late, late_reply, ruled_each, ticked, waits_too}
use Rattle.node_laws.specs.Runs.{IsUpFor}
use Rattle.node_laws.proofs.invariant.Orders.{in_mapped}
use Rattle.node_laws.proofs.invariant.Told.{found_at}
use Rattle.node_laws.proofs.step.Busy.{same_id}
use Rattle.arrival_laws.proofs.Comings.{ComesAbout, IsPlain}
use Rattle.arrival_laws.proofs.Answering.{IsAsked, asked_by, asked_later, reply_asked}
use Rattle.arrival_laws.proofs.Lasting.{Lasts, lasts_still, lasts_then, message_lasts, rules_last, start_lasts}

-- The node stays up, gives no serial again, its requests are those that waited and one that came, and each reply answers one that waited.
pub record GoesOn (k : Kept) (input : Input) (step : Stepped) : Type 0 where
  pub up : step.kept.up ≡ k.up
  pub serial : k.serial ≤ step.kept.serial
  pub held : (h : Held) → In h step.kept.held → IsAsked k.held (id_of h) ⊎ ComesAbout input (id_of h)
  pub replies : (reply : Reply) → In reply step.outputs.replies → IsAsked k.held reply.id

no_less : (before after : Kept) → after.serial ≡ before.serial → before.serial ≤ after.serial
no_less before after same = omega (arith, same)

-- ---- nothing is told of, and nothing replied

quietly : (k : Kept) (input : Input) (step : Stepped) → Lasts k step.kept → step.outputs.replies ≡ [] → GoesOn k input step
quietly k input step lasts none = record {
  up = lasts.up;
  serial = no_less k step.kept lasts.serial;
  held = λ h among. inl (asked_by k.held h (subst (In h) lasts.held among));
  replies = λ reply among. absurd (subst (In reply) none among);
}

-- ---- promises and refusals

promise_goes : (setup : Setup) (k : Kept) (input : Input) (sender : ℕ) (slot : Slot) (ballot : ℕ) (report : Option Vote) →
    GoesOn k input (on_promise setup k sender slot ballot report)
promise_goes setup k input sender slot ballot report = by_round (message_at k slot.id).round
  where
    by_round : (round : Option Round) → GoesOn k input (promised_in setup k (message_at k slot.id) round sender slot ballot report)
    by_round None = quietly k input _ (lasts_still k) refl
    by_round (Some r) = by_run (runs_at (Some r) slot ballot)
      where
        by_run : (runs : Bool) → GoesOn k input (if runs
            then sends (with_message k slot.id (record (message_at k slot.id) { round = Some (promised_by r sender report) }))
            (proposals setup r sender report) [] []
            else leaves k)
        by_run true = quietly k input _ (message_lasts k slot.id _) refl
        by_run false = quietly k input _ (lasts_still k) refl

refusal_goes : (setup : Setup) (k : Kept) (input : Input) (slot : Slot) (ballot promised : ℕ) → GoesOn k input (on_refused setup k slot ballot promised)
refusal_goes setup k input slot ballot promised = by_ballot (is_own_ballot setup k ballot)
  where
    by_ballot : (own : Bool) →
        GoesOn k input (if own then leaves (with_message k slot.id (refused (message_at k slot.id) slot ballot promised)) else leaves k)
    by_ballot true = quietly k input _ (message_lasts k slot.id _) refl
    by_ballot false = quietly k input _ (lasts_still k) refl

-- ---- votes

settled_for_id : (nodes id : ℕ) (chain : List Decree) (h : Held) → id_of (settled_for nodes id chain h) ≡ id_of h
settled_for_id nodes id chain h = by_test (id_of h == id)
  where
    by_test : (test : Bool) → id_of (if test then settled_by nodes (Some chain) h else h) ≡ id_of h
    by_test true = same_id nodes (Some chain) h
    by_test false = refl

-- requests of which each is changed to one about the same message
changed_held : (change : Held → Held) → ((h : Held) → id_of (change h) ≡ id_of h) → (held : List Held) (h : Held) → In h (map change held) →
    IsAsked held (id_of h)
changed_held change same held h among =
    let it = in_mapped change held h among in
    record { request = it.from; among = it.among; about = sym (same it.from) ∙ sym (ap id_of it.is) }

module _ (setup : Setup) (k : Kept) (id : ℕ) (m : Message) (chain : List Decree) where
  abbrev knowing : Kept
  knowing = record (with_message k id (known_then m chain)) { held = map (settled_for setup.nodes id chain) k.held }

  abbrev begun_round : Kept
  begun_round = (started setup knowing id (start_known setup knowing id m.known chain)).kept

  lasts : Lasts knowing begun_round
  lasts = start_lasts setup knowing id (start_known setup knowing id m.known chain)

  waited : (h : Held) → In h knowing.held → IsAsked k.held (id_of h)
  waited h among = changed_held (settled_for setup.nodes id chain) (settled_for_id setup.nodes id chain) k.held h among

  known_goes : (input : Input) → GoesOn k input (on_known setup k id m chain)
  known_goes input = record {
    up = lasts.up;
    serial = no_less knowing begun_round lasts.serial;
    held = λ h among. inl (waited h (in_filter (still_waits setup.nodes (Some chain) id) knowing.held h among));
    replies = λ reply among. asked_later k.held knowing.held reply.id waited (reply_asked setup.nodes (Some chain) id knowing.held reply among);
  }

vote_goes : (setup : Setup) (k : Kept) (input : Input) (voter : ℕ) (slot : Slot) (vote : Vote) → GoesOn k input (on_voted setup k voter slot vote)
vote_goes setup k input voter slot vote = by_test (makes_known setup.nodes m vote)
  where
    m : Message
    m = heard (message_at k slot.id) voter vote

    by_test : (makes : Bool) → GoesOn k input (if makes then on_known setup k slot.id (heard (message_at k slot.id) voter vote) vote.chain
        else leaves (with_message k slot.id (heard (message_at k slot.id) voter vote)))
    by_test true = known_goes setup k slot.id (heard (message_at k slot.id) voter vote) vote.chain input
    by_test false = quietly k input _ (message_lasts k slot.id (heard (message_at k slot.id) voter vote)) refl

-- ---- what is told to a question

told_held : (held : List Held) (new h : Held) → IsAsked held (id_of new) → In h (with_held held new) → IsAsked held (id_of h)
told_held held new h asked among =
    let it = in_mapped (λ (old : Held). if ticket_of old == ticket_of new then new else old) held h among in
    by_ticket it.from it.among (ticket_of it.from == ticket_of new) it.is
  where
    by_ticket : (old : Held) → In old held → (same : Bool) → h ≡ (if same then new else old) → IsAsked held (id_of h)
    by_ticket old among true is = record { request = asked.request; among = asked.among; about = asked.about ∙ sym (ap id_of is) }
    by_ticket old among false is = record { request = old; among = among; about = sym (ap id_of is) }

module _ (setup : Setup) (k : Kept) (told new : Held) (known : Option (List Decree)) (asked : IsAsked k.held (id_of new)) where
  abbrev noted : Kept
  noted = record k { held = with_held k.held new }

  abbrev asked_on : Kept
  asked_on = (started setup noted (id_of new) (start_told setup noted known told new)).kept

  tell_lasts : Lasts noted asked_on
  tell_lasts = start_lasts setup noted (id_of new) (start_told setup noted known told new)

  told_before : (h : Held) → In h asked_on.held → IsAsked k.held (id_of h)
  told_before h among = told_held k.held new h asked (subst (In h) tell_lasts.held among)

  abbrev others : Held → Bool
  others other = not (ticket_of other == ticket_of new)

  told_goes : (input : Input) → GoesOn k input (settled_told setup k known told new)
  told_goes input = by_answer (answer_to setup.nodes known new)
    where
      by_answer : (answer : Option Answer) →
          GoesOn k input (answer_told (started setup noted (id_of new) (start_told setup noted known told new)) new answer)
      by_answer None = record {
        up = tell_lasts.up;
        serial = no_less noted asked_on tell_lasts.serial;
        held = λ h among. inl (told_before h among);
        replies = λ reply among. absurd among;
      }
      by_answer (Some answer) = record {
        up = tell_lasts.up;
        serial = no_less noted asked_on tell_lasts.serial;
        held = λ h among. inl (told_before h (in_filter others asked_on.held h among));
        replies = λ reply among. elim among [ inl same ↦ subst (λ (r : Reply). IsAsked k.held r.id) (sym same) asked | inr none ↦ absurd none ];
      }

tell_goes : (setup : Setup) (k : Kept) (input : Input) (teller : ℕ) (name : Name) (told : Option TopVote) → GoesOn k input (on_tell setup k teller name told)
tell_goes setup k input teller name told = by_name (is_own_name setup k name)
  where
    to_held : (h : Held) → In h k.held → GoesOn k input (told_to setup k (message_at k (id_of h)).known (told_by h teller told))
    to_held h among =
        let known = (message_at k (id_of h)).known in
        let same : id_of (settled_by setup.nodes known (told_by h teller told)) ≡ id_of h = same_id setup.nodes known (told_by h teller told) in
        told_goes setup k (told_by h teller told) (settled_by setup.nodes known (told_by h teller told)) known
        (record { request = h; among = among; about = sym same }) input

    by_about : (h : Held) → In h k.held → (about : Bool) →
        GoesOn k input (if about then told_to setup k (message_at k (id_of h)).known (told_by h teller told) else leaves k)
    by_about h among true = to_held h among
    by_about h among false = quietly k input (leaves k) (lasts_still k) refl

    by_held : (found : Option Held) → held_at k.held name.ticket ≡ found → GoesOn k input (tell_held setup k teller told found)
    by_held None is = quietly k input (leaves k) (lasts_still k) refl
    by_held (Some h) is = by_about h (found_at k.held name.ticket h is).among (tells_about told (id_of h))

    by_name : (own : Bool) → GoesOn k input (if own then tell_held setup k teller told (held_at k.held name.ticket) else leaves k)
    by_name true = by_held (held_at k.held name.ticket) refl
    by_name false = quietly k input (leaves k) (lasts_still k) refl

-- ---- packets, requests and ticks

packet_goes : (setup : Setup) (k : Kept) (packet : Packet) → GoesOn k (Delivery packet) (on_packet setup k packet)
packet_goes setup k packet = by_packet packet
  where
    input : Input
    input = Delivery packet

    if_so : (sender : ℕ) (step : Stepped) → GoesOn k input step → GoesOn k input (if_member setup k sender step)
    if_so sender step goes = by_test (is_member setup sender)
      where
        by_test : (member : Bool) → GoesOn k input (if member then step else leaves k)
        by_test true = goes
        by_test false = quietly k input (leaves k) (lasts_still k) refl

    voted : (voter : ℕ) (slot : Slot) (vote : Vote) (concerns : Bool) → GoesOn k input (if concerns then on_voted setup k voter slot vote else leaves k)
    voted voter slot vote true = vote_goes setup k input voter slot vote
    voted voter slot vote false = quietly k input (leaves k) (lasts_still k) refl

    by_packet : (p : Packet) → GoesOn k input (on_packet setup k p)
    by_packet (Prepare sender slot ballot) =
        if_so sender _ (quietly k input _ (record { up = refl; serial = refl; held = refl }) refl)
    by_packet (Promise sender slot ballot report) = if_so sender _ (promise_goes setup k input sender slot ballot report)
    by_packet (Propose sender slot vote) =
        if_so sender _ (quietly k input _ (record { up = refl; serial = refl; held = refl }) refl)
    by_packet (Voted sender slot vote) = if_so sender _ (voted sender slot vote (vote_concerns setup k slot vote))
    by_packet (Refused sender slot ballot promised) = if_so sender _ (refusal_goes setup k input slot ballot promised)
    by_packet (Ask sender id name) = if_so sender _ (quietly k input _ (lasts_still k) refl)
    by_packet (Tell sender name told) = if_so sender _ (tell_goes setup k input sender name told)

arrival_goes : (setup : Setup) (k : Kept) (request : Request) → GoesOn k (Arrival request) (stepped_up setup k (Arrival request))
arrival_goes setup k request =
    let new = begun k.ticket k.clock request in
    let lasts = start_lasts setup (waits_too k request new) (id_in request) (take_for setup (waits_too k request new) new request) in
    record {
      up = lasts.up;
      serial = let least = serials request k.serial in let same = lasts.serial in omega (arith, least, same);
      held = λ h among. elim (in_either h k.held (new ∷ []) (subst (In h) lasts.held among)) [
        | inl old ↦ inl (asked_by k.held h old)
        | inr came ↦ elim came [ inl same ↦ inr (sym (ap id_of same)) | inr none ↦ absurd none ]
      ];
      replies = λ reply among. absurd among;
    }

tick_goes : (setup : Setup) (k : Kept) (moment : ℕ) (reach : Reach) → GoesOn k (Tick moment reach) (stepped_up setup k (Tick moment reach))
tick_goes setup k moment reach =
    let clock = max k.clock moment in
    let risen = ticked k clock in
    let lasts = rules_last setup reach (ids_of risen) risen in
    record {
      up = lasts.up;
      serial = no_less risen (ruled_each setup reach (ids_of risen) risen).kept lasts.serial;
      held = λ h among. inl (asked_by k.held h (in_filter (λ (other : Held). not (is_late clock other)) k.held h (subst (In h) lasts.held among)));
      replies = λ reply among.
          let it = in_mapped late_reply (filter (is_late clock) k.held) reply among in
          record { request = it.from; among = in_filter (is_late clock) k.held it.from it.among; about = sym (ap (λ (r : Reply). r.id) it.is) };
    }

-- ---- attempts

grant_goes : (k : Kept) (slot : Slot) → GoesOn k (Grant slot) (on_grant k slot)
grant_goes k slot = quietly k (Grant slot) (on_grant k slot) (message_lasts k slot.id _) refl

response_goes : (setup : Setup) (k : Kept) (slot : Slot) (outcome : Outcome) → GoesOn k (Response slot outcome) (on_response setup k slot outcome)
response_goes setup k slot outcome =
    let closed = closed_by k slot outcome in
    let start = concluded setup k slot outcome (message_at k slot.id).known in
    quietly k (Response slot outcome) (on_response setup k slot outcome)
    (lasts_then k closed (started setup closed slot.id start).kept (message_lasts k slot.id _) (start_lasts setup closed slot.id start)) refl

-- ---- what comes

-- it comes to a node that is up
pub up_for : (k : Kept) (input : Input) → IsPlain input → IsUpFor k input ↔ (k.up ≡ true)
up_for k (Delivery packet) plain = (λ up. up, λ up. up)
up_for k (Arrival request) plain = (λ up. up, λ up. up)
up_for k (Refusal status) plain = (λ up. up, λ up. up)
up_for k (Tick moment tests) plain = (λ up. up, λ up. up)
up_for k (Grant slot) plain = (λ up. up, λ up. up)
up_for k (Response slot outcome) plain = (λ up. up, λ up. up)
up_for k (Crash packet after) plain = absurd plain
up_for k (Restart lost) plain = absurd plain

pub goes_on : (setup : Setup) (k : Kept) (input : Input) → k.up ≡ true → IsPlain input → GoesOn k input (stepped setup k input)
goes_on setup k input up plain =
    subst (λ (test : Bool). GoesOn k input (if test then stepped_up setup k input else stepped_down setup k input)) (sym up) (by_input input plain)
  where
    by_input : (i : Input) → IsPlain i → GoesOn k i (stepped_up setup k i)
    by_input (Delivery packet) plain = packet_goes setup k packet
    by_input (Arrival request) plain = arrival_goes setup k request
    by_input (Refusal status) plain = quietly k (Refusal status) _ (lasts_still k) refl
    by_input (Tick moment reach) plain = tick_goes setup k moment reach
    by_input (Grant slot) plain = grant_goes k slot
    by_input (Response slot outcome) plain = response_goes setup k slot outcome
    by_input (Crash packet after) plain = absurd plain
    by_input (Restart lost) plain = absurd plain
