-- What a node does about the other messages, that forgot something of some, is what it does that did not.
use Rattle.std.proofs.Common.{◌≡◌, ℕ, Bool, true, false, cond, List, [], ◌∷◌, find, map, Option, Some, None, refl, sym, ap, ◌∙◌, inl, inr}
use Rattle.std.specs.Prelude.{◌==◌, if◌then◌else◌}
use Rattle.std.specs.Option.{option_or}
use Rattle.mc_model.specs.message.Submission.{Submission}
use Rattle.mc_model.specs.message.Decree.{Attempt, Decree, Failed, Fate, Kind, Taken, Told}
use Rattle.mc_model.specs.message.Chain.{taken_in}
use Rattle.mc_model.specs.node.Replies.{Answer}
use Rattle.mc_model.specs.node.Setup.{Setup}
use Rattle.mc_model.specs.synod.Acceptor.{SlotRecord}
use Rattle.mc_model.specs.synod.Lists.{In}
use Rattle.mc_model.specs.synod.OneSlot.{Vote}
use Rattle.mc_model.specs.synod.Packet.{Ask, Name, Packet, Prepare, Promise, Propose, Refused, Slot, Tell, TopVote, Voted}
use Rattle.node_model.specs.Answers.{answer_to, had_fate}
use Rattle.node_model.specs.Acceptor.{prepare_judged, propose_judged, told_of}
use Rattle.node_model.specs.Kept.{Held, Kept, message_at, saved, with_message}
use Rattle.node_model.specs.Learner.{heard, makes_known}
use Rattle.node_model.specs.Message.{Message, Round, most_places}
use Rattle.node_model.specs.Outputs.{leaves, sends}
use Rattle.node_model.specs.Packets.{answer_told, answered_then, heard_in, is_member, judged, is_own_name, known_then, on_known, on_packet, on_promise, on_refused, on_tell, on_voted, promised_in, proposals, settled_for, settled_told, start_known, start_told, started_then, tell_held, tells_about, told_to, vote_concerns}
use Rattle.node_model.specs.Proposer.{Prepared, Start, is_own_ballot, promised_by, refused, runs_at, started}
use Rattle.node_model.specs.Requests.{held_at, id_of, settled_by, settles, ticket_of, told_by, with_held}
use Rattle.node_model.specs.Starts.{announced, delete_for, delete_of, follow_told, tell_for, tell_of}
use Rattle.node_laws.proofs.step.Busy.{same_id}
use Rattle.rest_laws.specs.Without.{SparesPacket}
use Rattle.rest_laws.proofs.forgetting.Kept.{Forgetting, either, less, less_prepared, less_step, message_same, record_same, saved_same, started_same, told_same, with_same}

pub found_in : (test : Held → Bool) (held : List Held) (h : Held) → find test held ≡ Some h → In h held
found_in test [] h is = absurd (cc)
found_in test (first ∷ others) h is = by (test first) refl is (found_in test others h)
  where
    by : (b : Bool) → test first ≡ b → (cond b (Some first) (find test others)) ≡ Some h → (find test others ≡ Some h → In h others) → In h (first ∷ others)
    by true at is rest = let same : first ≡ h = cc in inl (sym same)
    by false at is rest = inr (rest is)

module _ (f : Forgetting) where
  -- ---- the chains for which rounds start

  pub delete_same : (setup : Setup) (k : Kept) (id : ℕ) (held : List Held) (known : Option (List Decree)) →
      delete_for setup (less f k) id held known ≡ delete_for setup k id held known
  delete_same setup k id held None = refl
  delete_same setup k id held (Some []) = refl
  delete_same setup k id held (Some (newest ∷ older)) = by (taken_in (newest ∷ older))
    where
      by : (taken : Option Submission) → delete_of setup (less f k) id held newest older taken ≡ delete_of setup k id held newest older taken
      by None = refl
      by (Some taken) = refl

  pub announced_same : (setup : Setup) (k : Kept) (taken : Submission) (newest : Decree) (older : List Decree) (kind : Kind) →
      announced setup (less f k) taken newest older kind ≡ announced setup k taken newest older kind
  announced_same setup k taken newest older (Taken message) = refl
  announced_same setup k taken newest older (Attempt number) = refl
  announced_same setup k taken newest older (Failed error) = refl
  announced_same setup k taken newest older (Fate final error) = refl
  announced_same setup k taken newest older Told = refl

  tell_same : (setup : Setup) (k : Kept) (before : Option (List Decree)) (chain : List Decree) →
      tell_for setup (less f k) before chain ≡ tell_for setup k before chain
  tell_same setup k before [] = refl
  tell_same setup k before (newest ∷ older) =
      ap (λ (s : Option Start). if had_fate before then None else s) (by (taken_in (newest ∷ older)))
    where
      by : (taken : Option Submission) → tell_of setup (less f k) newest older taken ≡ tell_of setup k newest older taken
      by None = refl
      by (Some taken) = announced_same setup k taken newest older newest.kind

  -- ---- a chain becomes known

  then_same : (setup : Setup) (k : Kept) (id : ℕ) (before : Option (List Decree)) (chain : List Decree) → f.Ordered k.messages → f.some_of id ≡ false →
      started_then setup (less f k) id before chain ≡ less_step f (started_then setup k id before chain)
  then_same setup k id before chain ordered stays =
      let s : start_known setup (less f k) id before chain ≡ start_known setup k id before chain =
      λ i. option_or (delete_same setup k id k.held (Some chain) i) (tell_same setup k before chain i) in
      let p = started_same f setup k id (start_known setup k id before chain) ordered stays in
      (λ i. answered_then setup (less f k) id before chain (started setup (less f k) id (s i)))
      ∙ (λ i. answered_then setup (less f k) id before chain (p i))

  known_same : (setup : Setup) (k : Kept) (id : ℕ) (m : Message) (chain : List Decree) → f.Ordered k.messages →
      f.Ordered (with_message k id (known_then m chain)).messages → f.some_of id ≡ false →
      on_known setup (less f k) id m chain ≡ less_step f (on_known setup k id m chain)
  known_same setup k id m chain ordered also stays =
      (λ i. started_then setup (record (with_same f k id (known_then m chain) ordered stays i) { held = map (settled_for setup.nodes id chain) k.held })
      id m.known chain)
      ∙ then_same setup (record (with_message k id (known_then m chain)) { held = map (settled_for setup.nodes id chain) k.held }) id m.known chain also stays

  heard_same : (setup : Setup) (k : Kept) (id : ℕ) (m : Message) (vote : Vote) → f.Ordered k.messages → f.some_of id ≡ false →
      heard_in setup (less f k) id m vote ≡ less_step f (heard_in setup k id m vote)
  heard_same setup k id m vote ordered stays = by (makes_known setup.nodes m vote)
    where
      by : (b : Bool) →
          (if b then on_known setup (less f k) id m vote.chain else leaves (with_message (less f k) id m))
          ≡ less_step f (if b then on_known setup k id m vote.chain else leaves (with_message k id m))
      by true = known_same setup k id m vote.chain ordered (f.still_ordered k.messages id (known_then m vote.chain) ordered) stays
      by false = λ i. leaves (with_same f k id m ordered stays i)

  -- ---- packets

  pub voted_same : (setup : Setup) (k : Kept) (voter : ℕ) (slot : Slot) (vote : Vote) → f.Ordered k.messages → f.some_of slot.id ≡ false →
      on_voted setup (less f k) voter slot vote ≡ less_step f (on_voted setup k voter slot vote)
  voted_same setup k voter slot vote ordered stays =
      (λ i. heard_in setup (less f k) slot.id (heard (message_same f k slot.id stays i) voter vote) vote)
      ∙ heard_same setup k slot.id (heard (message_at k slot.id) voter vote) vote ordered stays

  pub judged_same : (setup : Setup) (k : Kept) (slot : Slot) (answer : Packet) (after : SlotRecord) → f.Ordered k.messages → f.some_of slot.id ≡ false →
      sends (saved (less f k) slot after) (answer ∷ []) [] [] ≡ less_step f (sends (saved k slot after) (answer ∷ []) [] [])
  judged_same setup k slot answer after ordered stays = λ i. sends (saved_same f k slot after ordered stays i) (answer ∷ []) [] []

  pub promise_same : (setup : Setup) (k : Kept) (sender : ℕ) (slot : Slot) (ballot : ℕ) (report : Option Vote) → f.Ordered k.messages →
      f.some_of slot.id ≡ false →
      on_promise setup (less f k) sender slot ballot report ≡ less_step f (on_promise setup k sender slot ballot report)
  promise_same setup k sender slot ballot report ordered stays =
      (λ i. promised_in setup (less f k) (message_same f k slot.id stays i) (message_same f k slot.id stays i).round sender slot ballot report)
      ∙ by (message_at k slot.id) (message_at k slot.id).round
    where
      by : (m : Message) (round : Option Round) →
          promised_in setup (less f k) m round sender slot ballot report ≡ less_step f (promised_in setup k m round sender slot ballot report)
      by m None = refl
      by m (Some r) =
          (λ i. if runs_at (Some r) slot ballot
          then sends (with_same f k slot.id (record m { round = Some (promised_by r sender report) }) ordered stays i) (proposals setup r sender report) [] []
          else leaves (less f k))
          ∙ either f (runs_at (Some r) slot ballot)
          (sends (with_message k slot.id (record m { round = Some (promised_by r sender report) })) (proposals setup r sender report) [] [])
          (leaves k)

  pub refused_same : (setup : Setup) (k : Kept) (slot : Slot) (ballot promised : ℕ) → f.Ordered k.messages → f.some_of slot.id ≡ false →
      on_refused setup (less f k) slot ballot promised ≡ less_step f (on_refused setup k slot ballot promised)
  refused_same setup k slot ballot promised ordered stays =
      (λ i. if is_own_ballot setup k ballot
      then leaves (with_message (less f k) slot.id (refused (message_same f k slot.id stays i) slot ballot promised))
      else leaves (less f k))
      ∙ ((λ i. if is_own_ballot setup k ballot
      then leaves (with_same f k slot.id (refused (message_at k slot.id) slot ballot promised) ordered stays i)
      else leaves (less f k))
      ∙ either f (is_own_ballot setup k ballot) (leaves (with_message k slot.id (refused (message_at k slot.id) slot ballot promised))) (leaves k))

  -- what is told is told to a request that waits, and so of one of the others

  start_same : (setup : Setup) (k : Kept) (known : Option (List Decree)) (told new : Held) →
      start_told setup (less f k) known told new ≡ start_told setup k known told new
  start_same setup k known told new =
      λ i. if settles setup.nodes known told then delete_same setup k (id_of new) (new ∷ []) known i else follow_told setup.nodes known new

  pub answer_same : (prepared : Prepared) (new : Held) (answer : Option Answer) →
      answer_told (less_prepared f prepared) new answer ≡ less_step f (answer_told prepared new answer)
  answer_same prepared new None = refl
  answer_same prepared new (Some answer) = refl

  told_to_same : (setup : Setup) (k : Kept) (known : Option (List Decree)) (told new : Held) → f.Ordered k.messages → f.some_of (id_of new) ≡ false →
      settled_told setup (less f k) known told new ≡ less_step f (settled_told setup k known told new)
  told_to_same setup k known told new ordered stays =
      (λ i. answer_told
      (started setup (record (less f k) { held = with_held k.held new }) (id_of new) (start_same setup k known told new i))
      new (answer_to setup.nodes known new))
      ∙ ((λ i. answer_told
      (started_same f setup (record k { held = with_held k.held new }) (id_of new) (start_told setup k known told new) ordered stays i)
      new (answer_to setup.nodes known new))
      ∙ answer_same (started setup (record k { held = with_held k.held new }) (id_of new) (start_told setup k known told new)) new
      (answer_to setup.nodes known new))

  pub tell_held_same : (setup : Setup) (k : Kept) (teller : ℕ) (told : Option TopVote) (found : Option Held) → f.Ordered k.messages →
      ((h : Held) → found ≡ Some h → f.some_of (id_of h) ≡ false) →
      tell_held setup (less f k) teller told found ≡ less_step f (tell_held setup k teller told found)
  tell_held_same setup k teller told None ordered asked = refl
  tell_held_same setup k teller told (Some h) ordered asked =
      let stays : f.some_of (id_of h) ≡ false = asked h refl in
      let still : f.some_of (id_of (settled_by setup.nodes (message_at k (id_of h)).known (told_by h teller told))) ≡ false =
      ap f.some_of (same_id setup.nodes (message_at k (id_of h)).known (told_by h teller told)) ∙ stays in
      (λ i. if tells_about told (id_of h)
      then told_to setup (less f k) (message_same f k (id_of h) stays i).known (told_by h teller told)
      else leaves (less f k))
      ∙ ((λ i. if tells_about told (id_of h)
      then told_to_same setup k (message_at k (id_of h)).known (told_by h teller told)
      (settled_by setup.nodes (message_at k (id_of h)).known (told_by h teller told)) ordered still i
      else leaves (less f k))
      ∙ either f (tells_about told (id_of h)) (told_to setup k (message_at k (id_of h)).known (told_by h teller told)) (leaves k))

  tell_packet_same : (setup : Setup) (k : Kept) (teller : ℕ) (name : Name) (told : Option TopVote) → f.Ordered k.messages →
      ((h : Held) → In h k.held → f.some_of (id_of h) ≡ false) →
      on_tell setup (less f k) teller name told ≡ less_step f (on_tell setup k teller name told)
  tell_packet_same setup k teller name told ordered none_asks =
      let asked : (h : Held) → held_at k.held name.ticket ≡ Some h → f.some_of (id_of h) ≡ false =
      λ h is. none_asks h (found_in (λ (x : Held). ticket_of x == name.ticket) k.held h is) in
      (λ i. if is_own_name setup k name then tell_held_same setup k teller told (held_at k.held name.ticket) ordered asked i else leaves (less f k))
      ∙ either f (is_own_name setup k name) (tell_held setup k teller told (held_at k.held name.ticket)) (leaves k)

  pub packet_same : (setup : Setup) (k : Kept) (packet : Packet) → f.Ordered k.messages → ((h : Held) → In h k.held → f.some_of (id_of h) ≡ false) →
      SparesPacket f.some_of packet →
      on_packet setup (less f k) packet ≡ less_step f (on_packet setup k packet)
  packet_same setup k (Prepare sender slot ballot) ordered none_asks stays =
      (λ i. if is_member setup sender
      then judged (less f k) slot (prepare_judged setup.node slot ballot (record_same f k slot stays i)) else leaves (less f k))
      ∙ ((λ i. if is_member setup sender
      then judged_same setup k slot (prepare_judged setup.node slot ballot (k.records slot)).answer
      (prepare_judged setup.node slot ballot (k.records slot)).after ordered stays i
      else leaves (less f k))
      ∙ either f (is_member setup sender) (judged k slot (prepare_judged setup.node slot ballot (k.records slot))) (leaves k))
  packet_same setup k (Promise sender slot ballot report) ordered none_asks stays =
      (λ i. if is_member setup sender then promise_same setup k sender slot ballot report ordered stays i else leaves (less f k))
      ∙ either f (is_member setup sender) (on_promise setup k sender slot ballot report) (leaves k)
  packet_same setup k (Propose sender slot vote) ordered none_asks stays =
      (λ i. if is_member setup sender
      then judged (less f k) slot (propose_judged setup.node slot vote (record_same f k slot stays i)) else leaves (less f k))
      ∙ ((λ i. if is_member setup sender
      then judged_same setup k slot (propose_judged setup.node slot vote (k.records slot)).answer
      (propose_judged setup.node slot vote (k.records slot)).after ordered stays i
      else leaves (less f k))
      ∙ either f (is_member setup sender) (judged k slot (propose_judged setup.node slot vote (k.records slot))) (leaves k))
  packet_same setup k (Voted sender slot vote) ordered none_asks stays =
      (λ i. if is_member setup sender
      then (if vote_concerns setup k slot vote then voted_same setup k sender slot vote ordered stays i else leaves (less f k))
      else leaves (less f k))
      ∙ ((λ i. if is_member setup sender
      then either f (vote_concerns setup k slot vote) (on_voted setup k sender slot vote) (leaves k) i else leaves (less f k))
      ∙ either f (is_member setup sender) (if vote_concerns setup k slot vote then on_voted setup k sender slot vote else leaves k) (leaves k))
  packet_same setup k (Refused sender slot ballot promised) ordered none_asks stays =
      (λ i. if is_member setup sender then refused_same setup k slot ballot promised ordered stays i else leaves (less f k))
      ∙ either f (is_member setup sender) (on_refused setup k slot ballot promised) (leaves k)
  packet_same setup k (Ask sender id name) ordered none_asks stays =
      (λ i. if is_member setup sender
      then sends (less f k) (Tell setup.node name (told_same f k id stays most_places i) ∷ []) [] [] else leaves (less f k))
      ∙ either f (is_member setup sender) (sends k (Tell setup.node name (told_of k.records id) ∷ []) [] []) (leaves k)
  packet_same setup k (Tell sender name told) ordered none_asks stays =
      (λ i. if is_member setup sender then tell_packet_same setup k sender name told ordered none_asks i else leaves (less f k))
      ∙ either f (is_member setup sender) (on_tell setup k sender name told) (leaves k)
