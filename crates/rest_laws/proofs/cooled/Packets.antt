-- What a node does about messages that are cold.
use Rattle.std.proofs.Common.{◌≡◌, ℕ, Bool, true, false, List, [], ◌∷◌, Option, Some, None, refl, sym, subst, ap, ◌∙◌}
use Rattle.std.specs.Prelude.{◌==◌, ◌&&◌, if◌then◌else◌}
use Rattle.mc_model.specs.message.Decree.{Attempt, Decree, Failed, Fate, Kind, Taken, Told}
use Rattle.mc_model.specs.message.Chain.{taken_in}
use Rattle.mc_model.specs.node.Actor.{Cancel, Query, Request, Submit, id_in}
use Rattle.mc_model.specs.node.Setup.{Setup}
use Rattle.mc_model.specs.synod.Lists.{In}
use Rattle.mc_model.specs.synod.OneSlot.{Vote}
use Rattle.mc_model.specs.synod.Packet.{Ask, Packet, Prepare, Promise, Propose, Refused, Slot, Tell, TopVote, Voted}
use Rattle.node_model.specs.Answers.{answer_to}
use Rattle.node_model.specs.Acceptor.{prepare_judged, propose_judged, told_of}
use Rattle.node_model.specs.Kept.{Held, Kept, message_at, with_message}
use Rattle.node_model.specs.Learner.{heard, makes_known}
use Rattle.node_model.specs.Message.{Message}
use Rattle.node_model.specs.Outputs.{Stepped, leaves, sends}
use Rattle.node_model.specs.Packets.{answer_told, heard_in, is_member, judged, is_own_name, on_known, on_packet, on_promise, on_refused, on_tell, on_voted, promised_in, settled_told, start_told, tell_held, tells_about, told_to, vote_concerns}
use Rattle.node_model.specs.Proposer.{Start, is_own_ballot, refused, started}
use Rattle.node_model.specs.Requests.{held_at, id_of, settled_by, settles, ticket_of, told_by, with_held}
use Rattle.node_model.specs.Starts.{delete_for, follow_told}
use Rattle.node_model.specs.Stepped.{saved_by, sender_of, stopped}
use Rattle.node_model.specs.Ticks.{on_arrival}
use Rattle.node_model.specs.Learner.{is_shorter}
use Rattle.node_model.specs.Requests.{asks, higher_top, is_higher}
use Rattle.node_model.specs.Sets.{is_majority}
use Rattle.node_model.specs.Starts.{follow}
use Rattle.node_model.specs.Acceptor.{Judgement}
use Rattle.rest_laws.specs.AtRest.{is_last, is_over}
use Rattle.rest_laws.specs.Cooled.{AreCalm, IsCalm, SuitsPacket, cool, cool_step, cooled, cooled_if}
use Rattle.rest_laws.proofs.cooled.Entries.{cool_twice, cooling, message_cooled, saved_cool, with_any}
use Rattle.rest_laws.proofs.forgetting.Kept.{Forgetting}
use Rattle.rest_laws.proofs.forgetting.Others.{arrival_same}
use Rattle.rest_laws.proofs.forgetting.Packets.{answer_same, found_in, promise_same, refused_same, tell_held_same, voted_same}
use Rattle.rest_laws.proofs.forgetting.Staying.{settled_as}
use Rattle.rest_laws.proofs.without.Resting.{and_no, decree, fate_stays, told_stays}

pub higher_none : (chain : List Decree) (top told : Option TopVote) → follow (Some chain) top ≡ None → follow (Some chain) told ≡ None →
    follow (Some chain) (higher_top top told) ≡ None
higher_none chain None None one other = refl
higher_none chain (Some old) None one other = one
higher_none chain None (Some new) one other = other
higher_none chain (Some old) (Some new) one other = by (is_higher new old)
  where
    by : (b : Bool) → follow (Some chain) (if b then Some new else Some old) ≡ None
    by true = other
    by false = one

module _ (cold : ℕ → Bool) where
  abbrev c : Forgetting
  c = cooling cold

  -- ---- of a message that is cool

  over_delete : (setup : Setup) (k : Kept) (id : ℕ) (held : List Held) (chain : List Decree) → is_over chain ≡ true →
      delete_for setup k id held (Some chain) ≡ None
  over_delete setup k id held [] over = absurd (cc)
  over_delete setup k id held (newest ∷ older) over = by newest.kind over
    where
      by : (kind : Kind) → is_last (taken_in (decree newest.author newest.moment kind ∷ older)) kind ≡ true →
          delete_for setup k id held (Some (decree newest.author newest.moment kind ∷ older)) ≡ None
      by (Taken message) last = absurd (cc)
      by (Attempt number) last = absurd (cc)
      by (Failed error) last = absurd (cc)
      by (Fate final error) last =
          fate_stays setup k id held newest.author newest.moment final error older (taken_in (decree newest.author newest.moment (Fate final error) ∷ older))
      by Told last = told_stays setup k id held newest.author newest.moment older (taken_in (decree newest.author newest.moment Told ∷ older))

  if_none : (b : Bool) (start : Option Start) → start ≡ None → (if b then start else None) ≡ None
  if_none true start none = none
  if_none false start none = refl

  if_both : (b : Bool) (one other : Option Start) → one ≡ None → other ≡ None → (if b then one else other) ≡ None
  if_both true one other first second = first
  if_both false one other first second = second

  pub starts_no : (setup : Setup) (k : Kept) (chain : List Decree) (told new : Held) → is_over chain ≡ true → follow (Some chain) new.top ≡ None →
      start_told setup k (Some chain) told new ≡ None
  starts_no setup k chain told new over reached =
      if_both (settles setup.nodes (Some chain) told) (delete_for setup k (id_of new) (new ∷ []) (Some chain)) (follow_told setup.nodes (Some chain) new)
      (over_delete setup k (id_of new) (new ∷ []) chain over)
      (if_none (is_majority setup.nodes new.tellers) (follow (Some chain) new.top) reached)

  cold_told : (setup : Setup) (k : Kept) (chain : List Decree) (told new : Held) → is_over chain ≡ true → follow (Some chain) new.top ≡ None →
      settled_told setup (cool cold k) (Some chain) told new ≡ cool_step cold (settled_told setup k (Some chain) told new)
  cold_told setup k chain told new over reached =
      let there = starts_no setup (cool cold k) chain told new over reached in
      let here = starts_no setup k chain told new over reached in
      (λ i. answer_told (started setup (record (cool cold k) { held = with_held k.held new }) (id_of new) (there i)) new
      (answer_to setup.nodes (Some chain) new))
      ∙ (answer_same c (record { kept = record k { held = with_held k.held new }; packets = [] }) new (answer_to setup.nodes (Some chain) new)
      ∙ (λ i. cool_step cold
      (answer_told (started setup (record k { held = with_held k.held new }) (id_of new) (sym here i)) new (answer_to setup.nodes (Some chain) new))))

  tell_cold : (setup : Setup) (k : Kept) (teller : ℕ) (told : Option TopVote) (h : Held) → cold (id_of h) ≡ true → IsCalm k (id_of h) → In h k.held →
      (tells_about told (id_of h) ≡ true → follow (message_at k (id_of h)).known told ≡ None) →
      tell_held setup (cool cold k) teller told (Some h) ≡ cool_step cold (tell_held setup k teller told (Some h))
  tell_cold setup k teller told h is calm among suits = by (tells_about told (id_of h)) refl
    where
      by : (b : Bool) → tells_about told (id_of h) ≡ b →
          (if b then told_to setup (cool cold k) (message_at (cool cold k) (id_of h)).known (told_by h teller told) else leaves (cool cold k))
          ≡ cool_step cold (if b then told_to setup k (message_at k (id_of h)).known (told_by h teller told) else leaves k)
      by false other = refl
      by true about =
          let there : (message_at (cool cold k) (id_of h)).known ≡ Some calm.chain =
          ap (λ (m : Message). m.known) (message_cooled cold k (id_of h) is) ∙ calm.known in
          let next : follow (Some calm.chain) told ≡ None = ap (λ (o : Option (List Decree)). follow o told) (sym calm.known) ∙ suits about in
          let top : follow (Some calm.chain) (settled_by setup.nodes (Some calm.chain) (told_by h teller told)).top ≡ None =
          ap (follow (Some calm.chain)) (settled_as setup.nodes (Some calm.chain) (told_by h teller told)).top
          ∙ higher_none calm.chain h.top told (calm.told h among refl) next in
          (λ i. told_to setup (cool cold k) (there i) (told_by h teller told))
          ∙ (cold_told setup k calm.chain (told_by h teller told) (settled_by setup.nodes (Some calm.chain) (told_by h teller told)) calm.over top
          ∙ (λ i. cool_step cold (told_to setup k (sym calm.known i) (told_by h teller told))))

  tell_any : (setup : Setup) (k : Kept) (teller : ℕ) (told : Option TopVote) (found : Option Held) → AreCalm cold k →
      ((h : Held) → found ≡ Some h → In h k.held) →
      ((h : Held) → found ≡ Some h → cold (id_of h) ≡ true → tells_about told (id_of h) ≡ true → follow (message_at k (id_of h)).known told ≡ None) →
      tell_held setup (cool cold k) teller told found ≡ cool_step cold (tell_held setup k teller told found)
  tell_any setup k teller told None calm among suits = refl
  tell_any setup k teller told (Some h) calm among suits = by (cold (id_of h)) refl
    where
      by : (b : Bool) → cold (id_of h) ≡ b → tell_held setup (cool cold k) teller told (Some h) ≡ cool_step cold (tell_held setup k teller told (Some h))
      by true is = tell_cold setup k teller told h is (calm (id_of h) is) (among h refl) (suits h refl is)
      by false is =
          tell_held_same c setup k teller told (Some h) tt
          (λ other same. let one : h ≡ other = cc in subst (λ (x : Held). cold (id_of x) ≡ false) one is)

  -- ---- but for what is cool

  pub step_twice : (s : Stepped) → cool_step cold (cool_step cold s) ≡ cool_step cold s
  step_twice s = λ i. record { kept = cool_twice cold s.kept i; outputs = s.outputs }

  pub alike : (x y : Stepped) → x ≡ cool_step cold y → cool_step cold x ≡ cool_step cold y
  alike x y same = ap (cool_step cold) same ∙ step_twice y

  alike_if : (b : Bool) (x y one other : Stepped) → cool_step cold x ≡ cool_step cold one → cool_step cold y ≡ cool_step cold other →
      cool_step cold (if b then x else y) ≡ cool_step cold (if b then one else other)
  alike_if true x y one other first second = first
  alike_if false x y one other first second = second

  left : (k : Kept) → cool_step cold (leaves (cool cold k)) ≡ cool_step cold (leaves k)
  left k = step_twice (leaves k)

  cooled_same : (id : ℕ) (m n : Message) → cold id ≡ true → cooled m ≡ cooled n → cooled_if (cold id) m ≡ cooled_if (cold id) n
  cooled_same id m n is same = (λ i. if is i then cooled m else m) ∙ (same ∙ (λ i. if sym is i then cooled n else n))

  promise_any : (setup : Setup) (k : Kept) (sender : ℕ) (slot : Slot) (ballot : ℕ) (report : Option Vote) → AreCalm cold k →
      on_promise setup (cool cold k) sender slot ballot report ≡ cool_step cold (on_promise setup k sender slot ballot report)
  promise_any setup k sender slot ballot report calm = by (cold slot.id) refl
    where
      by : (b : Bool) → cold slot.id ≡ b →
          on_promise setup (cool cold k) sender slot ballot report ≡ cool_step cold (on_promise setup k sender slot ballot report)
      by false is = promise_same c setup k sender slot ballot report tt is
      by true is =
          let here = (calm slot.id is).round in
          let there : (message_at (cool cold k) slot.id).round ≡ None = ap (λ (m : Message). m.round) (message_cooled cold k slot.id is) ∙ here in
          (λ i. promised_in setup (cool cold k) (message_at (cool cold k) slot.id) (there i) sender slot ballot report)
          ∙ (λ i. cool_step cold (promised_in setup k (message_at k slot.id) (sym here i) sender slot ballot report))

  refused_any : (setup : Setup) (k : Kept) (slot : Slot) (ballot promised : ℕ) →
      cool_step cold (on_refused setup (cool cold k) slot ballot promised) ≡ cool_step cold (on_refused setup k slot ballot promised)
  refused_any setup k slot ballot promised = by (cold slot.id) refl
    where
      by : (b : Bool) → cold slot.id ≡ b →
          cool_step cold (on_refused setup (cool cold k) slot ballot promised) ≡ cool_step cold (on_refused setup k slot ballot promised)
      by false is = alike (on_refused setup (cool cold k) slot ballot promised) (on_refused setup k slot ballot promised)
          (refused_same c setup k slot ballot promised tt is)
      by true is =
          let same : cooled (refused (message_at (cool cold k) slot.id) slot ballot promised) ≡ cooled (refused (message_at k slot.id) slot ballot promised) =
          ap (λ (m : Message). cooled (refused m slot ballot promised)) (message_cooled cold k slot.id is) in
          alike_if (is_own_ballot setup k ballot)
          (leaves (with_message (cool cold k) slot.id (refused (message_at (cool cold k) slot.id) slot ballot promised))) (leaves (cool cold k))
          (leaves (with_message k slot.id (refused (message_at k slot.id) slot ballot promised))) (leaves k)
          (λ i. leaves (with_any cold k slot.id (refused (message_at (cool cold k) slot.id) slot ballot promised)
          (refused (message_at k slot.id) slot ballot promised)
          (cooled_same slot.id _ _ is same) i))
          (left k)

  pub unheard : (setup : Setup) (k : Kept) (id : ℕ) (m : Message) (vote : Vote) → is_shorter m.known vote.chain ≡ false →
      heard_in setup k id m vote ≡ leaves (with_message k id m)
  unheard setup k id m vote short =
      let no : makes_known setup.nodes m vote ≡ false =
      ap (λ (b : Bool). is_majority setup.nodes (m.votes vote) && b) short ∙ and_no (is_majority setup.nodes (m.votes vote)) in
      λ i. if no i then on_known setup k id m vote.chain else leaves (with_message k id m)

  voted_any : (setup : Setup) (k : Kept) (voter : ℕ) (slot : Slot) (vote : Vote) →
      (cold slot.id ≡ true → is_shorter (message_at k slot.id).known vote.chain ≡ false) →
      cool_step cold (on_voted setup (cool cold k) voter slot vote) ≡ cool_step cold (on_voted setup k voter slot vote)
  voted_any setup k voter slot vote suits = by (cold slot.id) refl
    where
      by : (b : Bool) → cold slot.id ≡ b → cool_step cold (on_voted setup (cool cold k) voter slot vote) ≡ cool_step cold (on_voted setup k voter slot vote)
      by false is = alike (on_voted setup (cool cold k) voter slot vote) (on_voted setup k voter slot vote) (voted_same c setup k voter slot vote tt is)
      by true is =
          let one : Message = heard (message_at (cool cold k) slot.id) voter vote in
          let other : Message = heard (message_at k slot.id) voter vote in
          let here = suits is in
          let there : is_shorter (message_at (cool cold k) slot.id).known vote.chain ≡ false =
          ap (λ (m : Message). is_shorter m.known vote.chain) (message_cooled cold k slot.id is) ∙ here in
          let same : cooled one ≡ cooled other = ap (λ (m : Message). cooled (heard m voter vote)) (message_cooled cold k slot.id is) in
          ap (cool_step cold) (unheard setup (cool cold k) slot.id one vote there)
          ∙ ((λ i. leaves (with_any cold k slot.id one other (cooled_same slot.id one other is same) i))
          ∙ ap (cool_step cold) (sym (unheard setup k slot.id other vote here)))

  -- a record is saved, of any message
  saved_same : (k : Kept) (slot : Slot) (judgement : Judgement) → judged (cool cold k) slot judgement ≡ cool_step cold (judged k slot judgement)
  saved_same k slot judgement = λ i. sends (saved_cool cold k slot judgement.after i) (judgement.answer ∷ []) [] []

  pub packet_any : (setup : Setup) (k : Kept) (packet : Packet) → AreCalm cold k → SuitsPacket setup cold k packet →
      cool_step cold (on_packet setup (cool cold k) packet) ≡ cool_step cold (on_packet setup k packet)
  packet_any setup k (Prepare sender slot ballot) calm suits =
      alike_if (is_member setup sender) (judged (cool cold k) slot (prepare_judged setup.node slot ballot (k.records slot))) (leaves (cool cold k))
      (judged k slot (prepare_judged setup.node slot ballot (k.records slot))) (leaves k)
      (alike _ _ (saved_same k slot (prepare_judged setup.node slot ballot (k.records slot))))
      (left k)
  packet_any setup k (Propose sender slot vote) calm suits =
      alike_if (is_member setup sender) (judged (cool cold k) slot (propose_judged setup.node slot vote (k.records slot))) (leaves (cool cold k))
      (judged k slot (propose_judged setup.node slot vote (k.records slot))) (leaves k)
      (alike _ _ (saved_same k slot (propose_judged setup.node slot vote (k.records slot))))
      (left k)
  packet_any setup k (Promise sender slot ballot report) calm suits =
      alike_if (is_member setup sender) (on_promise setup (cool cold k) sender slot ballot report) (leaves (cool cold k))
      (on_promise setup k sender slot ballot report) (leaves k) (alike _ _ (promise_any setup k sender slot ballot report calm)) (left k)
  packet_any setup k (Voted sender slot vote) calm suits =
      alike_if (is_member setup sender) (if vote_concerns setup k slot vote then on_voted setup (cool cold k) sender slot vote else leaves (cool cold k))
      (leaves (cool cold k)) (if vote_concerns setup k slot vote then on_voted setup k sender slot vote else leaves k) (leaves k)
      (alike_if (vote_concerns setup k slot vote) (on_voted setup (cool cold k) sender slot vote) (leaves (cool cold k))
      (on_voted setup k sender slot vote) (leaves k) (voted_any setup k sender slot vote suits) (left k))
      (left k)
  packet_any setup k (Refused sender slot ballot promised) calm suits =
      alike_if (is_member setup sender) (on_refused setup (cool cold k) slot ballot promised) (leaves (cool cold k))
      (on_refused setup k slot ballot promised) (leaves k) (refused_any setup k slot ballot promised) (left k)
  packet_any setup k (Ask sender id name) calm suits =
      alike_if (is_member setup sender) (sends (cool cold k) (Tell setup.node name (told_of k.records id) ∷ []) [] []) (leaves (cool cold k))
      (sends k (Tell setup.node name (told_of k.records id) ∷ []) [] []) (leaves k)
      (step_twice (sends k (Tell setup.node name (told_of k.records id) ∷ []) [] [])) (left k)
  packet_any setup k (Tell sender name told) calm suits =
      alike_if (is_member setup sender) (on_tell setup (cool cold k) sender name told) (leaves (cool cold k)) (on_tell setup k sender name told) (leaves k)
      (by (is_own_name setup k name) refl) (left k)
    where
      by : (b : Bool) → is_own_name setup k name ≡ b →
          cool_step cold (if b then tell_held setup (cool cold k) sender told (held_at k.held name.ticket) else leaves (cool cold k))
          ≡ cool_step cold (if b then tell_held setup k sender told (held_at k.held name.ticket) else leaves k)
      by false is = left k
      by true is = alike _ _ (tell_any setup k sender told (held_at k.held name.ticket) calm
          (λ h at. found_in (λ (x : Held). ticket_of x == name.ticket) k.held h at) (suits is))

  pub arrival_any : (setup : Setup) (k : Kept) (request : Request) → (asks request ≡ false → cold (id_in request) ≡ false) →
      on_arrival setup (cool cold k) request ≡ cool_step cold (on_arrival setup k request)
  arrival_any setup k (Submit id message) suits = arrival_same c setup k (Submit id message) tt (suits refl)
  arrival_any setup k (Query id account source) suits = refl
  arrival_any setup k (Cancel id account source destination) suits = refl

  -- ---- stops

  saved_by_any : (setup : Setup) (k : Kept) (packet : Packet) → saved_by setup (cool cold k) packet ≡ cool cold (saved_by setup k packet)
  saved_by_any setup k (Prepare sender slot ballot) = saved_cool cold k slot (prepare_judged setup.node slot ballot (k.records slot)).after
  saved_by_any setup k (Propose sender slot vote) = saved_cool cold k slot (propose_judged setup.node slot vote (k.records slot)).after
  saved_by_any setup k (Promise sender slot ballot report) = refl
  saved_by_any setup k (Voted sender slot vote) = refl
  saved_by_any setup k (Refused sender slot ballot promised) = refl
  saved_by_any setup k (Ask sender id name) = refl
  saved_by_any setup k (Tell sender name told) = refl

  pub stopped_any : (setup : Setup) (k : Kept) (packet : Packet) (after : Bool) →
      stopped setup (cool cold k) packet after ≡ cool cold (stopped setup k packet after)
  stopped_any setup k packet false = refl
  stopped_any setup k packet true =
      (λ i. if is_member setup (sender_of packet) then record (saved_by_any setup k packet i) { up = false }
      else record (cool cold k) { up = false })
      ∙ by (is_member setup (sender_of packet))
    where
      by : (b : Bool) → (if b then record (cool cold (saved_by setup k packet)) { up = false } else record (cool cold k) { up = false })
          ≡ cool cold (if b then record (saved_by setup k packet) { up = false } else record k { up = false })
      by true = refl
      by false = refl
