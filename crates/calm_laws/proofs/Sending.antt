-- What a step of a node sends has that node as its sender.
use Rattle.std.specs.Prelude.{filter, if◌then◌else◌, nat_le, nat_lt}
use Rattle.std.proofs.Common.{◌≡◌, ℕ, suc, pred, max, Bool, true, false, cond, List, [], ◌∷◌, ◌++◌, map, Option, Some, None, refl, ap, ◌∙◌, inl, inr}
use Rattle.mc_model.specs.message.Decree.{Decree}
use Rattle.mc_model.specs.synod.Acceptor.{SlotRecord, after_promise, after_vote}
use Rattle.mc_model.specs.synod.Lists.{In}
use Rattle.mc_model.specs.synod.OneSlot.{Vote}
use Rattle.mc_model.specs.synod.Packet.{Ask, Name, Packet, Prepare, Promise, Propose, Refused, Slot, Tell, TopVote, Voted, slot_at}
use Rattle.mc_model.specs.node.Actor.{Request, id_in}
use Rattle.mc_model.specs.node.Input.{Arrival, Crash, Delivery, Grant, Input, Refusal, Response, Restart, Tick}
use Rattle.mc_model.specs.node.Replies.{Answer}
use Rattle.mc_model.specs.node.Reach.{Reach}
use Rattle.mc_model.specs.node.Setup.{Setup}
use Rattle.mc_parts.proofs.Membership.{in_either}
use Rattle.node_model.specs.Acceptor.{Judgement, prepare_judged, propose_judged}
use Rattle.node_model.specs.Answers.{answer_to}
use Rattle.node_model.specs.Attempts.{closed_by, concluded}
use Rattle.node_model.specs.Kept.{Held, Kept, message_at, with_message}
use Rattle.node_model.specs.Learner.{heard, makes_known}
use Rattle.node_model.specs.Message.{Message, Round}
use Rattle.node_model.specs.Outputs.{Stepped, leaves, sends}
use Rattle.node_model.specs.Packets.{answer_told, if_member, is_member, is_own_name, known_then, on_known, on_packet, on_promise}
use Rattle.node_model.specs.Packets.{on_refused, on_tell, on_voted, promised_in, proposals, settled_for, settled_told}
use Rattle.node_model.specs.Packets.{start_known, start_told, tell_held, tells_about, told_to, vote_concerns}
use Rattle.node_model.specs.Proposer.{Prepared, Start, completes, highest_round, is_free, is_own_ballot, offered, prepared_at, promised_by}
use Rattle.node_model.specs.Proposer.{refused, runs_at, started}
use Rattle.node_model.specs.Requests.{asks, begun, held_at, id_of, is_untold, settled_by, told_by, with_held}
use Rattle.node_model.specs.Rules.{Fitting, first_rule}
use Rattle.node_model.specs.Starts.{take_for}
use Rattle.node_model.specs.Stepped.{sender_of, stepped, stepped_down, stepped_up}
use Rattle.node_model.specs.Ticks.{asked_again, given_up, ids_of, question, ruled, ruled_each, ticked, waits_too}
use Rattle.node_laws.proofs.invariant.Orders.{in_mapped}

-- each of these packets was sent by a node
abbrev pub AreSentBy : ℕ → List Packet → Type 0
AreSentBy node packets = (packet : Packet) → In packet packets → sender_of packet ≡ node

pub none_sent : (node : ℕ) → AreSentBy node []
none_sent node packet none = absurd none

one_sent : (node : ℕ) (only : Packet) → sender_of only ≡ node → AreSentBy node (only ∷ [])
one_sent node only is packet (inl same) = ap sender_of same ∙ is
one_sent node only is packet (inr none) = absurd none

pub both_sent : (node : ℕ) (first last : List Packet) → AreSentBy node first → AreSentBy node last → AreSentBy node (first ++ last)
both_sent node first last one other packet among = elim (in_either packet first last among) [ inl here ↦ one packet here | inr there ↦ other packet there ]

-- a step sends packets of its node alone
abbrev pub SendsOwn : Setup → Stepped → Type 0
SendsOwn setup step = AreSentBy setup.node step.outputs.packets

module _ (setup : Setup) where
  -- ---- rounds

  start_sent : (k : Kept) (id : ℕ) (start : Option Start) → AreSentBy setup.node (started setup k id start).packets
  start_sent k id None = none_sent setup.node
  start_sent k id (Some start) = by_test (is_free k (slot_at id start.place))
    where
      by_test : (free : Bool) → AreSentBy setup.node (cond {A = Prepared} free
          (prepared_at setup k (slot_at id start.place) (suc (highest_round k.records (message_at k id) (slot_at id start.place))) start.chain)
          (record { kept = k; packets = [] })).packets
      by_test true = one_sent setup.node _ refl
      by_test false = none_sent setup.node

  rules_sent : (reach : Reach) (ids : List ℕ) (k : Kept) → AreSentBy setup.node (ruled_each setup reach ids k).packets
  rules_sent reach [] k = none_sent setup.node
  rules_sent reach (id ∷ others) k =
      let first : Prepared = ruled setup k id (first_rule setup k reach id) in
      both_sent setup.node first.packets (ruled_each setup reach others first.kept).packets (by_rule (first_rule setup k reach id)) (rules_sent reach others first.kept)
    where
      by_rule : (rule : Option Fitting) → AreSentBy setup.node (ruled setup k id rule).packets
      by_rule None = start_sent k id None
      by_rule (Some fit) = start_sent (given_up fit.rule k id (pred fit.start.place)) id (Some fit.start)

  -- ---- packets

  prepare_sent : (slot : Slot) (ballot : ℕ) (r : SlotRecord) → sender_of (prepare_judged setup.node slot ballot r).answer ≡ setup.node
  prepare_sent slot ballot r = by_test (nat_lt r.promised ballot)
    where
      by_test : (above : Bool) → sender_of (cond {A = Judgement} above
          (record { answer = Promise setup.node slot ballot r.vote; after = after_promise r ballot })
          (record { answer = Refused setup.node slot ballot r.promised; after = r })).answer ≡ setup.node
      by_test true = refl
      by_test false = refl

  propose_sent : (slot : Slot) (vote : Vote) (r : SlotRecord) → sender_of (propose_judged setup.node slot vote r).answer ≡ setup.node
  propose_sent slot vote r = by_test (nat_le r.promised vote.ballot)
    where
      by_test : (not_below : Bool) → sender_of (cond {A = Judgement} not_below
          (record { answer = Voted setup.node slot vote; after = after_vote vote })
          (record { answer = Refused setup.node slot vote.ballot r.promised; after = r })).answer ≡ setup.node
      by_test true = refl
      by_test false = refl

  promise_sends : (k : Kept) (sender : ℕ) (slot : Slot) (ballot : ℕ) (report : Option Vote) → SendsOwn setup (on_promise setup k sender slot ballot report)
  promise_sends k sender slot ballot report = by_round (message_at k slot.id).round
    where
      proposal : (r : Round) → AreSentBy setup.node (proposals setup r sender report)
      proposal r = by_test (completes setup.nodes r sender)
        where
          by_test : (completed : Bool) →
              AreSentBy setup.node (if completed then Propose setup.node r.slot (offered (promised_by r sender report)) ∷ [] else [])
          by_test true = one_sent setup.node _ refl
          by_test false = none_sent setup.node

      by_round : (round : Option Round) → SendsOwn setup (promised_in setup k (message_at k slot.id) round sender slot ballot report)
      by_round None = none_sent setup.node
      by_round (Some r) = by_run (runs_at (Some r) slot ballot)
        where
          by_run : (runs : Bool) → SendsOwn setup (if runs
              then sends (with_message k slot.id (record (message_at k slot.id) { round = Some (promised_by r sender report) }))
              (proposals setup r sender report) [] []
              else leaves k)
          by_run true = proposal r
          by_run false = none_sent setup.node

  refusal_sends : (k : Kept) (slot : Slot) (ballot promised : ℕ) → SendsOwn setup (on_refused setup k slot ballot promised)
  refusal_sends k slot ballot promised = by_test (is_own_ballot setup k ballot)
    where
      by_test : (own : Bool) →
          SendsOwn setup (if own then leaves (with_message k slot.id (refused (message_at k slot.id) slot ballot promised)) else leaves k)
      by_test true = none_sent setup.node
      by_test false = none_sent setup.node

  known_sends : (k : Kept) (id : ℕ) (m : Message) (chain : List Decree) → SendsOwn setup (on_known setup k id m chain)
  known_sends k id m chain = start_sent knowing id (start_known setup knowing id m.known chain)
    where
      knowing : Kept
      knowing = record (with_message k id (known_then m chain)) { held = map (settled_for setup.nodes id chain) k.held }

  vote_sends : (k : Kept) (voter : ℕ) (slot : Slot) (vote : Vote) → SendsOwn setup (on_voted setup k voter slot vote)
  vote_sends k voter slot vote = by_test (makes_known setup.nodes (heard (message_at k slot.id) voter vote) vote)
    where
      by_test : (makes : Bool) → SendsOwn setup (if makes then on_known setup k slot.id (heard (message_at k slot.id) voter vote) vote.chain
          else leaves (with_message k slot.id (heard (message_at k slot.id) voter vote)))
      by_test true = known_sends k slot.id (heard (message_at k slot.id) voter vote) vote.chain
      by_test false = none_sent setup.node

  told_sends : (k : Kept) (known : Option (List Decree)) (told new : Held) → SendsOwn setup (settled_told setup k known told new)
  told_sends k known told new = by_answer (answer_to setup.nodes known new)
    where
      noted : Kept
      noted = record k { held = with_held k.held new }

      by_answer : (answer : Option Answer) →
          SendsOwn setup (answer_told (started setup noted (id_of new) (start_told setup noted known told new)) new answer)
      by_answer None = start_sent noted (id_of new) (start_told setup noted known told new)
      by_answer (Some answer) = start_sent noted (id_of new) (start_told setup noted known told new)

  tell_sends : (k : Kept) (teller : ℕ) (name : Name) (told : Option TopVote) → SendsOwn setup (on_tell setup k teller name told)
  tell_sends k teller name told = by_name (is_own_name setup k name)
    where
      by_about : (h : Held) (about : Bool) →
          SendsOwn setup (if about then told_to setup k (message_at k (id_of h)).known (told_by h teller told) else leaves k)
      by_about h true =
          let known = (message_at k (id_of h)).known in
          told_sends k known (told_by h teller told) (settled_by setup.nodes known (told_by h teller told))
      by_about h false = none_sent setup.node

      by_held : (found : Option Held) → SendsOwn setup (tell_held setup k teller told found)
      by_held None = none_sent setup.node
      by_held (Some h) = by_about h (tells_about told (id_of h))

      by_name : (own : Bool) → SendsOwn setup (if own then tell_held setup k teller told (held_at k.held name.ticket) else leaves k)
      by_name true = by_held (held_at k.held name.ticket)
      by_name false = none_sent setup.node

  packet_sends : (k : Kept) (packet : Packet) → SendsOwn setup (on_packet setup k packet)
  packet_sends k packet = by_packet packet
    where
      if_so : (sender : ℕ) (step : Stepped) → SendsOwn setup step → SendsOwn setup (if_member setup k sender step)
      if_so sender step sent = by_test (is_member setup sender)
        where
          by_test : (member : Bool) → SendsOwn setup (if member then step else leaves k)
          by_test true = sent
          by_test false = none_sent setup.node

      voted : (voter : ℕ) (slot : Slot) (vote : Vote) (concerns : Bool) → SendsOwn setup (if concerns then on_voted setup k voter slot vote else leaves k)
      voted voter slot vote true = vote_sends k voter slot vote
      voted voter slot vote false = none_sent setup.node

      by_packet : (p : Packet) → SendsOwn setup (on_packet setup k p)
      by_packet (Prepare sender slot ballot) = if_so sender _ (one_sent setup.node _ (prepare_sent slot ballot (k.records slot)))
      by_packet (Promise sender slot ballot report) = if_so sender _ (promise_sends k sender slot ballot report)
      by_packet (Propose sender slot vote) = if_so sender _ (one_sent setup.node _ (propose_sent slot vote (k.records slot)))
      by_packet (Voted sender slot vote) = if_so sender _ (voted sender slot vote (vote_concerns setup k slot vote))
      by_packet (Refused sender slot ballot promised) = if_so sender _ (refusal_sends k slot ballot promised)
      by_packet (Ask sender id name) = if_so sender _ (one_sent setup.node _ refl)
      by_packet (Tell sender name told) = if_so sender _ (tell_sends k sender name told)

  -- ---- requests, ticks and outcomes

  arrival_sends : (k : Kept) (request : Request) → SendsOwn setup (stepped_up setup k (Arrival request))
  arrival_sends k request =
      both_sent setup.node (if asks request then question setup k new ∷ [] else []) _ (by_test (asks request))
      (start_sent (waits_too k request new) (id_in request) (take_for setup (waits_too k request new) new request))
    where
      new : Held
      new = begun k.ticket k.clock request

      by_test : (asking : Bool) → AreSentBy setup.node (if asking then question setup k new ∷ [] else [])
      by_test true = one_sent setup.node _ refl
      by_test false = none_sent setup.node

  questions_sent : (k : Kept) (held : List Held) → AreSentBy setup.node (map (question setup k) held)
  questions_sent k held packet among = ap sender_of (in_mapped (question setup k) held packet among).is

  tick_sends : (k : Kept) (moment : ℕ) (reach : Reach) → SendsOwn setup (stepped_up setup k (Tick moment reach))
  tick_sends k moment reach =
      let risen : Kept = ticked k (max k.clock moment) in
      both_sent setup.node (asked_again setup risen) (ruled_each setup reach (ids_of risen) risen).packets
      (questions_sent risen (filter (is_untold setup.nodes) risen.held)) (rules_sent reach (ids_of risen) risen)

  step_up_sends : (k : Kept) (input : Input) → SendsOwn setup (stepped_up setup k input)
  step_up_sends k (Delivery packet) = packet_sends k packet
  step_up_sends k (Crash packet after) = none_sent setup.node
  step_up_sends k (Arrival request) = arrival_sends k request
  step_up_sends k (Refusal status) = none_sent setup.node
  step_up_sends k (Tick moment reach) = tick_sends k moment reach
  step_up_sends k (Grant slot) = none_sent setup.node
  step_up_sends k (Response slot outcome) =
      start_sent (closed_by k slot outcome) slot.id (concluded setup k slot outcome (message_at k slot.id).known)
  step_up_sends k (Restart lost) = none_sent setup.node

  step_down_sends : (k : Kept) (input : Input) → SendsOwn setup (stepped_down setup k input)
  step_down_sends k (Restart lost) = none_sent setup.node
  step_down_sends k other = none_sent setup.node

  pub sends_own : (k : Kept) (input : Input) → SendsOwn setup (stepped setup k input)
  sends_own k input = by_test k.up
    where
      by_test : (up : Bool) → SendsOwn setup (if up then stepped_up setup k input else stepped_down setup k input)
      by_test true = step_up_sends k input
      by_test false = step_down_sends k input
