-- No attempt of a message opens, unless it is granted.
use Rattle.std.proofs.Common.{◌≡◌, ℕ, suc, pred, max, Bool, true, false, List, [], ◌∷◌, map, Option, Some, None, is_some, refl, subst, ap, ◌∙◌}
use Rattle.std.specs.Prelude.{◌==◌, ◌&&◌, not, if◌then◌else◌}
use Rattle.std.proofs.lemmas.Bool.{eq-eqb, eqb-true}
use Rattle.mc_model.specs.message.Decree.{Decree}
use Rattle.mc_model.specs.node.Actor.{id_in}
use Rattle.mc_model.specs.node.FirstRule.{Announce, Close, Delete, Expire, Follow, GiveUp, Lose, Rule, Take, Try, Undeliver}
use Rattle.mc_model.specs.node.Input.{Arrival, Crash, Delivery, Grant, Input, Refusal, Response, Restart, Tick}
use Rattle.mc_model.specs.node.Outcome.{Outcome, Unanswered, no_session_error}
use Rattle.mc_model.specs.node.Reach.{Reach}
use Rattle.mc_model.specs.node.Replies.{Answer}
use Rattle.mc_model.specs.node.Setup.{Setup}
use Rattle.mc_model.specs.synod.Acceptor.{SlotRecord}
use Rattle.mc_model.specs.synod.Ballot.{ballot_of}
use Rattle.mc_model.specs.synod.OneSlot.{Vote}
use Rattle.mc_model.specs.synod.Packet.{Ask, Packet, Prepare, Promise, Propose, Refused, Slot, Tell, TopVote, Voted, slot_at}
use Rattle.node_model.specs.Acceptor.{prepare_judged, propose_judged, told_of}
use Rattle.node_model.specs.Answers.{answer_to}
use Rattle.node_model.specs.Attempts.{closed_by, concluded}
use Rattle.node_model.specs.Granted.{is_open_in}
use Rattle.node_model.specs.Kept.{Held, Kept, message_at, saved, with_message}
use Rattle.node_model.specs.Learner.{heard, makes_known}
use Rattle.node_model.specs.Message.{Message, Round}
use Rattle.node_model.specs.Outputs.{Stepped, leaves, sends}
use Rattle.node_model.specs.Packets.{answer_told, is_member, is_own_name, known_then, on_known, on_packet, on_promise, on_refused, on_tell, on_voted, promised_in, settled_for, settled_told, start_known, start_told, tell_held, tells_about, told_to, vote_concerns}
use Rattle.node_model.specs.Proposer.{Prepared, Start, highest_round, is_free, is_own_ballot, prepared_at, promised_by, refused, runs_at, started, started_at}
use Rattle.node_model.specs.Requests.{begun, held_at, id_of, settled_by, told_by, with_held}
use Rattle.node_model.specs.Rules.{Fitting, first_rule}
use Rattle.node_model.specs.Starts.{take_for}
use Rattle.node_model.specs.Stepped.{restarted, saved_by, sender_of, stepped, stepped_down, stepped_up, stopped}
use Rattle.node_model.specs.Ticks.{given_up, ids_of, ruled, ruled_each, ticked, waits_too}
use Rattle.node_model.proofs.Places.{message_elsewhere, message_here}
use Rattle.rest_laws.specs.Cooled.{AreShut, Suits}
use Rattle.rest_laws.proofs.noting.Anew.{restarted_unheard}
use Rattle.rest_laws.proofs.without.Resting.{and_no}
use Rattle.rest_laws.proofs.without.Staying.{message_ticked}

-- one that is closed is not open
closing : (m : Message) (place : ℕ) (outcome : Outcome) (other : ℕ) → is_open_in m other ≡ false →
    is_open_in (record m { closed = λ (at : ℕ). if at == place then Some outcome else m.closed at }) other ≡ false
closing m place outcome other shut = by (other == place)
  where
    by : (b : Bool) → (m.granted other && not (is_some (if b then Some outcome else m.closed other))) ≡ false
    by true = and_no (m.granted other)
    by false = shut

module _ (cold : ℕ → Bool) where
  abbrev P : Kept → Type 0
  P k = AreShut cold k

  -- a message of which nothing else is open
  with_shut : (k : Kept) (id : ℕ) (m : Message) → (cold id ≡ true → (place : ℕ) → is_open_in m place ≡ false) → P k → P (with_message k id m)
  with_shut k id m now shut other is place = by (other == id) refl
    where
      by : (b : Bool) → (other == id) ≡ b → is_open_in (message_at (with_message k id m) other) place ≡ false
      by true same =
          let at : other ≡ id = eqb-true other id same in
          ap (λ (i : ℕ). is_open_in (message_at (with_message k id m) i) place) at
          ∙ (ap (λ (x : Message). is_open_in x place) (message_here k id m) ∙ now (subst (λ (i : ℕ). cold i ≡ true) at is) place)
      by false differs =
          ap (λ (x : Message). is_open_in x place)
          (message_elsewhere k id other m (λ at. let no : (other == id) ≡ true = eq-eqb other id at in absurd (cc))) ∙ shut other is place

  one_of : (b : Bool) (x y : Stepped) → P x.kept → P y.kept → P (if◌then◌else◌ {A = Stepped} b x y).kept
  one_of true x y one other = one
  one_of false x y one other = other

  one_prepared : (b : Bool) (x y : Prepared) → P x.kept → P y.kept → P (if◌then◌else◌ {A = Prepared} b x y).kept
  one_prepared true x y one other = one
  one_prepared false x y one other = other

  started_shut : (setup : Setup) (k : Kept) (id : ℕ) (start : Option Start) → P k → P (started setup k id start).kept
  started_shut setup k id None shut = shut
  started_shut setup k id (Some start) shut =
      let slot : Slot = slot_at id start.place in
      let number : ℕ = suc (highest_round k.records (message_at k id) slot) in
      one_prepared (is_free k slot) (prepared_at setup k slot number start.chain) (record { kept = k; packets = [] })
      (with_shut k id (started_at (message_at k id) slot number (ballot_of number k.incarnation setup.node) start.chain)
      (λ is place. shut id is place) shut) shut

  given_shut : (rule : Rule) (k : Kept) (id place : ℕ) → P k → P (given_up rule k id place)
  given_shut Take k id place shut = shut
  given_shut Follow k id place shut = shut
  given_shut Close k id place shut = shut
  given_shut Lose k id place shut = shut
  given_shut GiveUp k id place shut = with_shut k id _ (λ is at. closing (message_at k id) place (Unanswered no_session_error) at (shut id is at)) shut
  given_shut Delete k id place shut = shut
  given_shut Expire k id place shut = shut
  given_shut Undeliver k id place shut = shut
  given_shut Try k id place shut = shut
  given_shut Announce k id place shut = shut

  ruled_shut : (setup : Setup) (k : Kept) (id : ℕ) (fit : Option Fitting) → P k → P (ruled setup k id fit).kept
  ruled_shut setup k id None shut = shut
  ruled_shut setup k id (Some fit) shut =
      started_shut setup (given_up fit.rule k id (pred fit.start.place)) id (Some fit.start) (given_shut fit.rule k id (pred fit.start.place) shut)

  each_shut : (setup : Setup) (reach : Reach) (ids : List ℕ) (k : Kept) → P k → P (ruled_each setup reach ids k).kept
  each_shut setup reach [] k shut = shut
  each_shut setup reach (id ∷ others) k shut =
      each_shut setup reach others (ruled setup k id (first_rule setup k reach id)).kept (ruled_shut setup k id (first_rule setup k reach id) shut)

  ticked_shut : (k : Kept) (clock : ℕ) → P k → P (ticked k clock)
  ticked_shut k clock shut id is place = ap (λ (x : Message). is_open_in x place) (message_ticked k clock id) ∙ shut id is place

  saved_shut : (k : Kept) (slot : Slot) (new : SlotRecord) → P k → P (saved k slot new)
  saved_shut k slot new shut = with_shut k slot.id (message_at k slot.id) (λ is place. shut slot.id is place) shut

  -- ---- packets

  known_shut : (setup : Setup) (k : Kept) (id : ℕ) (m : Message) (chain : List Decree) → (cold id ≡ true → (place : ℕ) → is_open_in m place ≡ false) → P k →
      P (on_known setup k id m chain).kept
  known_shut setup k id m chain now shut =
      let next : Kept = record (with_message k id (known_then m chain)) { held = map (settled_for setup.nodes id chain) k.held } in
      started_shut setup next id (start_known setup next id m.known chain) (with_shut k id (known_then m chain) now shut)

  promise_shut : (setup : Setup) (k : Kept) (round : Option Round) (sender : ℕ) (slot : Slot) (ballot : ℕ) (report : Option Vote) → P k →
      P (promised_in setup k (message_at k slot.id) round sender slot ballot report).kept
  promise_shut setup k None sender slot ballot report shut = shut
  promise_shut setup k (Some r) sender slot ballot report shut =
      one_of (runs_at (Some r) slot ballot)
      (sends (with_message k slot.id (record (message_at k slot.id) { round = Some (promised_by r sender report) })) _ [] []) (leaves k)
      (with_shut k slot.id (record (message_at k slot.id) { round = Some (promised_by r sender report) }) (λ is place. shut slot.id is place) shut) shut

  voted_shut : (setup : Setup) (k : Kept) (voter : ℕ) (slot : Slot) (vote : Vote) → P k → P (on_voted setup k voter slot vote).kept
  voted_shut setup k voter slot vote shut =
      let m : Message = heard (message_at k slot.id) voter vote in
      one_of (makes_known setup.nodes m vote) (on_known setup k slot.id m vote.chain) (leaves (with_message k slot.id m))
      (known_shut setup k slot.id m vote.chain (λ is place. shut slot.id is place) shut) (with_shut k slot.id m (λ is place. shut slot.id is place) shut)

  answer_shut : (prepared : Prepared) (new : Held) (answer : Option Answer) → P prepared.kept → P (answer_told prepared new answer).kept
  answer_shut prepared new None shut = shut
  answer_shut prepared new (Some answer) shut = shut

  told_shut : (setup : Setup) (k : Kept) (known : Option (List Decree)) (told new : Held) → P k → P (settled_told setup k known told new).kept
  told_shut setup k known told new shut =
      answer_shut (started setup (record k { held = with_held k.held new }) (id_of new) (start_told setup k known told new)) new
      (answer_to setup.nodes known new)
      (started_shut setup (record k { held = with_held k.held new }) (id_of new) (start_told setup k known told new) shut)

  tell_shut : (setup : Setup) (k : Kept) (teller : ℕ) (told : Option TopVote) (found : Option Held) → P k → P (tell_held setup k teller told found).kept
  tell_shut setup k teller told None shut = shut
  tell_shut setup k teller told (Some h) shut =
      let known = (message_at k (id_of h)).known in
      one_of (tells_about told (id_of h)) (told_to setup k known (told_by h teller told)) (leaves k)
      (told_shut setup k known (told_by h teller told) (settled_by setup.nodes known (told_by h teller told)) shut) shut

  packet_shut : (setup : Setup) (k : Kept) (packet : Packet) → P k → P (on_packet setup k packet).kept
  packet_shut setup k (Prepare sender slot ballot) shut =
      one_of (is_member setup sender) _ (leaves k) (saved_shut k slot (prepare_judged setup.node slot ballot (k.records slot)).after shut) shut
  packet_shut setup k (Promise sender slot ballot report) shut =
      one_of (is_member setup sender) (on_promise setup k sender slot ballot report) (leaves k)
      (promise_shut setup k (message_at k slot.id).round sender slot ballot report shut) shut
  packet_shut setup k (Propose sender slot vote) shut =
      one_of (is_member setup sender) _ (leaves k) (saved_shut k slot (propose_judged setup.node slot vote (k.records slot)).after shut) shut
  packet_shut setup k (Voted sender slot vote) shut =
      one_of (is_member setup sender) (if vote_concerns setup k slot vote then on_voted setup k sender slot vote else leaves k) (leaves k)
      (one_of (vote_concerns setup k slot vote) (on_voted setup k sender slot vote) (leaves k) (voted_shut setup k sender slot vote shut) shut) shut
  packet_shut setup k (Refused sender slot ballot promised) shut =
      one_of (is_member setup sender) (on_refused setup k slot ballot promised) (leaves k)
      (one_of (is_own_ballot setup k ballot) (leaves (with_message k slot.id (refused (message_at k slot.id) slot ballot promised))) (leaves k)
      (with_shut k slot.id (refused (message_at k slot.id) slot ballot promised) (λ is place. shut slot.id is place) shut) shut) shut
  packet_shut setup k (Ask sender id name) shut =
      one_of (is_member setup sender) (sends k (Tell setup.node name (told_of k.records id) ∷ []) [] []) (leaves k) shut shut
  packet_shut setup k (Tell sender name told) shut =
      one_of (is_member setup sender) (on_tell setup k sender name told) (leaves k)
      (one_of (is_own_name setup k name) (tell_held setup k sender told (held_at k.held name.ticket)) (leaves k)
      (tell_shut setup k sender told (held_at k.held name.ticket) shut) shut) shut

  -- ---- the others

  saved_by_shut : (setup : Setup) (k : Kept) (packet : Packet) → P k → P (saved_by setup k packet)
  saved_by_shut setup k (Prepare sender slot ballot) shut = saved_shut k slot (prepare_judged setup.node slot ballot (k.records slot)).after shut
  saved_by_shut setup k (Propose sender slot vote) shut = saved_shut k slot (propose_judged setup.node slot vote (k.records slot)).after shut
  saved_by_shut setup k (Promise sender slot ballot report) shut = shut
  saved_by_shut setup k (Voted sender slot vote) shut = shut
  saved_by_shut setup k (Refused sender slot ballot promised) shut = shut
  saved_by_shut setup k (Ask sender id name) shut = shut
  saved_by_shut setup k (Tell sender name told) shut = shut

  stopped_shut : (setup : Setup) (k : Kept) (packet : Packet) (after : Bool) → P k → P (stopped setup k packet after)
  stopped_shut setup k packet false shut = shut
  stopped_shut setup k packet true shut = by (is_member setup (sender_of packet))
    where
      by : (b : Bool) → P (if b then record (saved_by setup k packet) { up = false } else record k { up = false })
      by true = saved_by_shut setup k packet shut
      by false = shut

  restarted_shut : (setup : Setup) (k : Kept) (lost : ℕ) → P (restarted setup k lost)
  restarted_shut setup k lost id is place = ap (λ (x : Message). is_open_in x place) (restarted_unheard setup k lost id)

  up_shut : (setup : Setup) (k : Kept) (input : Input) → ((slot : Slot) → input ≡ Grant slot → cold slot.id ≡ false) → P k → P (stepped_up setup k input).kept
  up_shut setup k (Delivery packet) grants shut = packet_shut setup k packet shut
  up_shut setup k (Crash packet after) grants shut = stopped_shut setup k packet after shut
  up_shut setup k (Arrival request) grants shut =
      started_shut setup (waits_too k request (begun k.ticket k.clock request)) (id_in request) (take_for setup k (begun k.ticket k.clock request) request) shut
  up_shut setup k (Refusal status) grants shut = shut
  up_shut setup k (Tick moment reach) grants shut =
      each_shut setup reach (ids_of (ticked k (max k.clock moment))) (ticked k (max k.clock moment)) (ticked_shut k (max k.clock moment) shut)
  up_shut setup k (Grant slot) grants shut = with_shut k slot.id _ (λ is. let apart = grants slot refl in absurd (cc)) shut
  up_shut setup k (Response slot outcome) grants shut =
      started_shut setup (closed_by k slot outcome) slot.id (concluded setup k slot outcome (message_at k slot.id).known)
      (with_shut k slot.id _ (λ is at. closing (message_at k slot.id) slot.place outcome at (shut slot.id is at)) shut)
  up_shut setup k (Restart lost) grants shut = restarted_shut setup k lost

  down_shut : (setup : Setup) (k : Kept) (input : Input) → P k → P (stepped_down setup k input).kept
  down_shut setup k (Delivery packet) shut = shut
  down_shut setup k (Crash packet after) shut = shut
  down_shut setup k (Arrival request) shut = shut
  down_shut setup k (Refusal status) shut = shut
  down_shut setup k (Tick moment reach) shut = shut
  down_shut setup k (Grant slot) shut = shut
  down_shut setup k (Response slot outcome) shut = shut
  down_shut setup k (Restart lost) shut = restarted_shut setup k lost

pub step_shut : (setup : Setup) (k : Kept) (cold : ℕ → Bool) (input : Input) → AreShut cold k →
    ((slot : Slot) → input ≡ Grant slot → cold slot.id ≡ false) → AreShut cold (stepped setup k input).kept
step_shut setup k cold input shut grants =
    one_of cold k.up (stepped_up setup k input) (stepped_down setup k input) (up_shut cold setup k input grants shut) (down_shut cold setup k input shut)

pub suits_shut : (setup : Setup) (k : Kept) (cold : ℕ → Bool) (input : Input) → AreShut cold k → Suits setup cold k input →
    AreShut cold (stepped setup k input).kept
suits_shut setup k cold input shut suits =
    step_shut setup k cold input shut (λ slot is. subst (Suits setup cold k) is suits)
