-- What is calm stays calm.
use Rattle.std.proofs.Common.{◌≡◌, ◌⊎◌, ℕ, zero, suc, max, Bool, true, false, List, [], ◌∷◌, Option, Some, None, refl, sym, subst, ap, ◌∙◌, inl, inr}
use Rattle.std.specs.Prelude.{◌==◌, ◌&&◌, nat_lt, nat_le, if◌then◌else◌}
use Rattle.std.proofs.lemmas.Bool.{eq-eqb, eqb-true}
use Rattle.mc_model.specs.message.Decree.{Decree}
use Rattle.mc_model.specs.node.Actor.{Cancel, Query, Request, Submit, id_in}
use Rattle.mc_model.specs.node.Input.{Arrival, Crash, Delivery, Grant, Input, Refusal, Response, Restart, Tick}
use Rattle.mc_model.specs.node.Setup.{Setup}
use Rattle.mc_model.specs.synod.Acceptor.{Records, SlotRecord, after_promise, after_vote, with_record}
use Rattle.mc_model.specs.synod.Lists.{In}
use Rattle.mc_model.specs.synod.OneSlot.{Vote}
use Rattle.mc_model.specs.synod.Packet.{Ask, Packet, Prepare, Promise, Propose, Refused, Slot, Tell, TopVote, Voted, same_slot, slot_at, top_at}
use Rattle.mc_parts.proofs.Membership.{in_either, in_map, slots_same}
use Rattle.node_laws.proofs.step.Busy.{same_id}
use Rattle.rest_laws.proofs.without.Staying.{told_elsewhere}
use Rattle.node_model.specs.Acceptor.{Judgement, prepare_judged, propose_judged, told_below, told_of, told_with}
use Rattle.node_model.specs.Answers.{answer_to}
use Rattle.node_model.specs.Kept.{Held, Kept, message_at, saved, with_message}
use Rattle.node_model.specs.Learner.{heard, is_shorter}
use Rattle.node_model.specs.Message.{Message, Round, most_places}
use Rattle.node_model.specs.Outputs.{Stepped, leaves, sends}
use Rattle.node_model.specs.Packets.{is_member, is_own_name, on_packet, on_promise, on_refused, on_tell, on_voted, promised_in, start_told, tell_held, tells_about, told_to, vote_concerns}
use Rattle.node_model.specs.Proposer.{Start, is_own_ballot, refused, runs_at, started}
use Rattle.node_model.specs.Requests.{asks, begun, held_at, id_of, settled_by, ticket_of, told_by, with_held}
use Rattle.node_model.specs.Starts.{follow, is_ahead}
use Rattle.node_model.specs.Stepped.{saved_by, sender_of, stepped, stepped_down, stepped_up, stopped}
use Rattle.node_model.specs.Ticks.{ids_of, on_arrival, ticked, waits_too}
use Rattle.node_model.proofs.Places.{message_elsewhere, message_here}
use Rattle.rest_laws.specs.Cooled.{AreCalm, IsCalm, KeepsCalm, KeepsCalmPacket, Suits, SuitsPacket}
use Rattle.rest_laws.proofs.cooled.Packets.{higher_none, starts_no, unheard}
use Rattle.rest_laws.proofs.cooled.Stepping.{calm_staying, each_cool, ticked_calm}
use Rattle.rest_laws.proofs.forgetting.Packets.{found_in}
use Rattle.rest_laws.proofs.forgetting.Staying.{Staying, answer_stays, arrival_stays, grant_stays, heard_stays, lowered_stays, one_of, promise_stays, response_stays, settled_as, told_stays}

-- ---- one message, with the same known and no round

-- by its records, what is kept of it, and its requests
calm_by : (k now : Kept) (id : ℕ) → (calm : IsCalm k id) → (message_at now id).known ≡ (message_at k id).known → (message_at now id).round ≡ None →
    follow (Some calm.chain) (told_of now.records id) ≡ None → ((h : Held) → In h now.held → id_of h ≡ id → asks h.waiting.request ≡ true) →
    ((h : Held) → In h now.held → id_of h ≡ id → follow (Some calm.chain) h.top ≡ None) → IsCalm now id
calm_by k now id calm known round reached asking told = record {
  chain = calm.chain;
  known = known ∙ calm.known;
  over = calm.over;
  round = round;
  reached = reached;
  asking = asking;
  told = told;
}

-- ---- a record of it

-- the vote that it has, or another one that is not beyond a chain
abbrev IsWithin : List Decree → Records → Slot → SlotRecord → Type 0
IsWithin chain records slot new =
    (new.vote ≡ (records slot).vote) ⊎ ((vote : Vote) × (new.vote ≡ Some vote) × (is_ahead (Some chain) slot.place ≡ false))

not_ahead : (chain : List Decree) (top : TopVote) → is_ahead (Some chain) top.place ≡ false → follow (Some chain) (Some top) ≡ None
not_ahead chain top below = ap (λ (b : Bool). if b then Some (record { place = top.place; chain = top.vote.chain }) else None) below

lower_still : (chain : List Decree) (id place : ℕ) (vote : Option Vote) (lower now : Option TopVote) →
    (follow (Some chain) lower ≡ None → follow (Some chain) now ≡ None) → follow (Some chain) (told_with (slot_at id place) vote lower) ≡ None →
    follow (Some chain) (told_with (slot_at id place) vote now) ≡ None
lower_still chain id place None lower now later before = later before
lower_still chain id place (Some vote) lower now later before = before

record_still : (chain : List Decree) (records : Records) (slot : Slot) (new : SlotRecord) → IsWithin chain records slot new → (id bound : ℕ) →
    follow (Some chain) (told_below records id bound) ≡ None → follow (Some chain) (told_below (with_record records slot new) id bound) ≡ None
record_still chain records slot new fits id zero before = before
record_still chain records slot new fits id (suc place) before =
    by (same_slot (slot_at id place) slot) refl (record_still chain records slot new fits id place)
  where
    by : (b : Bool) → same_slot (slot_at id place) slot ≡ b →
        (follow (Some chain) (told_below records id place) ≡ None → follow (Some chain) (told_below (with_record records slot new) id place) ≡ None) →
        follow (Some chain) (told_with (slot_at id place) (if b then new else records (slot_at id place)).vote
        (told_below (with_record records slot new) id place)) ≡ None
    by false differs later =
        lower_still chain id place (records (slot_at id place)).vote (told_below records id place) (told_below (with_record records slot new) id place) later
        before
    by true is later = elim fits [
      | inl same ↦
          ap (λ (o : Option Vote). follow (Some chain) (told_with (slot_at id place) o (told_below (with_record records slot new) id place)))
          (same ∙ ap (λ (s : Slot). (records s).vote) (sym (slots_same (slot_at id place) slot is)))
          ∙ lower_still chain id place (records (slot_at id place)).vote (told_below records id place) (told_below (with_record records slot new) id place)
          later before
      | inr voted ↦
          ap (λ (o : Option Vote). follow (Some chain) (told_with (slot_at id place) o (told_below (with_record records slot new) id place))) voted.1
          ∙ not_ahead chain (top_at (slot_at id place) voted.0)
          (ap (λ (s : Slot). is_ahead (Some chain) s.place) (slots_same (slot_at id place) slot is) ∙ voted.2)
    ]

-- what an acceptor saves
promised_within : (node : ℕ) (slot : Slot) (ballot : ℕ) (r : SlotRecord) → (prepare_judged node slot ballot r).after.vote ≡ r.vote
promised_within node slot ballot r = by (nat_lt r.promised ballot)
  where
    by : (b : Bool) → (if◌then◌else◌ {A = Judgement} b (record { answer = Promise node slot ballot r.vote; after = after_promise r ballot })
        (record { answer = Refused node slot ballot r.promised; after = r })).after.vote ≡ r.vote
    by true = refl
    by false = refl

voted_within : (chain : List Decree) (node : ℕ) (slot : Slot) (vote : Vote) (records : Records) → is_ahead (Some chain) slot.place ≡ false →
    IsWithin chain records slot (propose_judged node slot vote (records slot)).after
voted_within chain node slot vote records below = by (nat_le (records slot).promised vote.ballot)
  where
    by : (b : Bool) → IsWithin chain records slot (if◌then◌else◌ {A = Judgement} b (record { answer = Voted node slot vote; after = after_vote vote })
        (record { answer = Refused node slot vote.ballot (records slot).promised; after = records slot })).after
    by true = inr (vote, refl, below)
    by false = inl refl

module _ (cold : ℕ → Bool) where
  abbrev P : Kept → Type 0
  P k = AreCalm cold k

  abbrev s : Staying cold P
  s = calm_staying cold

  -- with the same known and no round
  with_calm : (k : Kept) (id : ℕ) (m : Message) → m.known ≡ (message_at k id).known → (cold id ≡ true → m.round ≡ None) → P k → P (with_message k id m)
  with_calm k id m known round calm other is = by (other == id) refl
    where
      by : (b : Bool) → (other == id) ≡ b → IsCalm (with_message k id m) other
      by true same =
          let at : other ≡ id = eqb-true other id same in
          let now : message_at (with_message k id m) other ≡ m =
          subst (λ (i : ℕ). message_at (with_message k id m) i ≡ m) (sym at) (message_here k id m) in
          let old = calm other is in
          calm_by k (with_message k id m) other old
          (ap (λ (x : Message). x.known) now ∙ (known ∙ ap (λ (i : ℕ). (message_at k i).known) (sym at)))
          (ap (λ (x : Message). x.round) now ∙ round (subst (λ (i : ℕ). cold i ≡ true) at is)) old.reached old.asking old.told
      by false differs =
          let old = calm other is in
          let same = message_elsewhere k id other m (λ at. let no : (other == id) ≡ true = eq-eqb other id at in absurd (cc)) in
          calm_by k (with_message k id m) other old (ap (λ (x : Message). x.known) same) (ap (λ (x : Message). x.round) same ∙ old.round)
          old.reached old.asking old.told

  saved_calm : (k : Kept) (slot : Slot) (new : SlotRecord) →
      (cold slot.id ≡ true → (chain : List Decree) → (message_at k slot.id).known ≡ Some chain → IsWithin chain k.records slot new) → P k → P (saved k slot new)
  saved_calm k slot new within calm = by (cold slot.id) refl
    where
      listed : P (with_message k slot.id (message_at k slot.id))
      listed = with_calm k slot.id (message_at k slot.id) refl (λ is. (calm slot.id is).round) calm

      by : (b : Bool) → cold slot.id ≡ b → P (saved k slot new)
      by false stays = s.record_of k slot new stays calm
      by true is = λ other also.
          let old = listed other also in
          record {
            chain = old.chain;
            known = old.known;
            over = old.over;
            round = old.round;
            reached = reached other also;
            asking = old.asking;
            told = old.told;
          }
        where
          reached : (other : ℕ) (also : cold other ≡ true) →
              follow (Some (listed other also).chain) (told_of (with_record k.records slot new) other) ≡ None
          reached other also = at (other == slot.id) refl
            where
              at : (b : Bool) → (other == slot.id) ≡ b → follow (Some (listed other also).chain) (told_of (with_record k.records slot new) other) ≡ None
              at true same =
                  let here : other ≡ slot.id = eqb-true other slot.id same in
                  let known : (message_at k slot.id).known ≡ Some (listed other also).chain =
                  ap (λ (m : Message). m.known) (sym (message_here k slot.id (message_at k slot.id)))
                  ∙ subst (λ (i : ℕ). (message_at (with_message k slot.id (message_at k slot.id)) i).known ≡ Some (listed other also).chain) here
                  (listed other also).known in
                  record_still (listed other also).chain k.records slot new (within is (listed other also).chain known) other most_places
                  (listed other also).reached
              at false differs =
                  ap (follow (Some (listed other also).chain))
                  (told_elsewhere k.records slot new other (λ same. let no : (other == slot.id) ≡ true = eq-eqb other slot.id same in absurd (cc)))
                  ∙ (listed other also).reached

  -- ---- packets

  promise_calm : (setup : Setup) (k : Kept) (sender : ℕ) (slot : Slot) (ballot : ℕ) (report : Option Vote) → P k →
      P (on_promise setup k sender slot ballot report).kept
  promise_calm setup k sender slot ballot report calm = by (cold slot.id) refl
    where
      by : (b : Bool) → cold slot.id ≡ b → P (on_promise setup k sender slot ballot report).kept
      by false stays = promise_stays cold P s setup k (message_at k slot.id) (message_at k slot.id).round sender slot ballot report stays calm
      by true is =
          subst (λ (round : Option Round). P (promised_in setup k (message_at k slot.id) round sender slot ballot report).kept)
          (sym (calm slot.id is).round) calm

  refused_calm : (setup : Setup) (k : Kept) (slot : Slot) (ballot promised : ℕ) → P k → P (on_refused setup k slot ballot promised).kept
  refused_calm setup k slot ballot promised calm =
      one_of cold P s (is_own_ballot setup k ballot) (leaves (with_message k slot.id (refused (message_at k slot.id) slot ballot promised))) (leaves k)
      (with_calm k slot.id (refused (message_at k slot.id) slot ballot promised) refl (λ is. ends (message_at k slot.id).round (calm slot.id is).round)
      calm) calm
    where
      ends : (round : Option Round) → round ≡ None → (if runs_at round slot ballot && nat_lt ballot promised then None else round) ≡ None
      ends None none = refl
      ends (Some r) none = absurd (cc)

  voted_calm : (setup : Setup) (k : Kept) (voter : ℕ) (slot : Slot) (vote : Vote) →
      (cold slot.id ≡ true → is_shorter (message_at k slot.id).known vote.chain ≡ false) → P k → P (on_voted setup k voter slot vote).kept
  voted_calm setup k voter slot vote suits calm = by (cold slot.id) refl
    where
      by : (b : Bool) → cold slot.id ≡ b → P (on_voted setup k voter slot vote).kept
      by false stays = heard_stays cold P s setup k slot.id (heard (message_at k slot.id) voter vote) vote stays calm
      by true is =
          let m : Message = heard (message_at k slot.id) voter vote in
          subst (λ (x : Stepped). P x.kept) (sym (unheard cold setup k slot.id m vote (suits is)))
          (with_calm k slot.id m refl (λ also. (calm slot.id also).round) calm)

  -- what is told to a question about it
  told_calm : (setup : Setup) (k : Kept) (teller : ℕ) (told : Option TopVote) (h : Held) → cold (id_of h) ≡ true → In h k.held →
      follow (message_at k (id_of h)).known told ≡ None → P k → P (told_to setup k (message_at k (id_of h)).known (told_by h teller told)).kept
  told_calm setup k teller told h is among next calm =
      let it = calm (id_of h) is in
      let new : Held = settled_by setup.nodes (message_at k (id_of h)).known (told_by h teller told) in
      let settled = settled_as setup.nodes (message_at k (id_of h)).known (told_by h teller told) in
      let below : follow (Some it.chain) told ≡ None = ap (λ (o : Option (List Decree)). follow o told) (sym it.known) ∙ next in
      let top : follow (Some it.chain) new.top ≡ None =
      ap (follow (Some it.chain)) settled.top ∙ higher_none it.chain h.top told (it.told h among refl) below in
      let starts : start_told setup k (message_at k (id_of h)).known (told_by h teller told) new ≡ None =
      ap (λ (o : Option (List Decree)). start_told setup k o (told_by h teller told) new) it.known
      ∙ starts_no cold setup k it.chain (told_by h teller told) new it.over top in
      answer_stays cold P s (started setup (record k { held = with_held k.held new }) (id_of new)
      (start_told setup k (message_at k (id_of h)).known (told_by h teller told) new)) new
      (answer_to setup.nodes (message_at k (id_of h)).known new)
      (subst (λ (o : Option Start). P (started setup (record k { held = with_held k.held new }) (id_of new) o).kept) (sym starts)
      (waits_calm new settled.id (settled.asking ∙ it.asking h among refl)
      (λ chain known. subst (λ (c : List Decree). follow (Some c) new.top ≡ None) (same_chain it.chain chain it.known known) top)))
    where
      same_chain : (one other : List Decree) → (message_at k (id_of h)).known ≡ Some one → (message_at k (id_of h)).known ≡ Some other → one ≡ other
      same_chain one other first second = let both : Some one ≡ Some other = sym first ∙ second in cc

      waits_calm : (new : Held) → id_of new ≡ id_of h → asks new.waiting.request ≡ true →
          ((chain : List Decree) → (message_at k (id_of h)).known ≡ Some chain → follow (Some chain) new.top ≡ None) →
          P (record k { held = with_held k.held new })
      waits_calm new about asking top other also =
          let old = calm other also in
          record {
            chain = old.chain;
            known = old.known;
            over = old.over;
            round = old.round;
            reached = old.reached;
            asking = λ g in_it same.
                let from = in_map (λ x. if ticket_of x == ticket_of new then new else x) k.held g in_it in
                ap (λ (x : Held). asks x.waiting.request) from.made
                ∙ asking_if (ticket_of from.from == ticket_of new) from.from from.member (ap id_of (sym from.made) ∙ same);
            told = λ g in_it same.
                let from = in_map (λ x. if ticket_of x == ticket_of new then new else x) k.held g in_it in
                ap (λ (x : Held). follow (Some old.chain) x.top) from.made
                ∙ told_if (ticket_of from.from == ticket_of new) from.from from.member (ap id_of (sym from.made) ∙ same);
          }
        where
          asking_if : (b : Bool) (x : Held) → In x k.held → id_of (if b then new else x) ≡ other → asks (if b then new else x).waiting.request ≡ true
          asking_if true x in_it same = asking
          asking_if false x in_it same = (calm other also).asking x in_it same

          told_if : (b : Bool) (x : Held) → In x k.held → id_of (if b then new else x) ≡ other →
              follow (Some (calm other also).chain) (if b then new else x).top ≡ None
          told_if true x in_it same =
              top (calm other also).chain (ap (λ (i : ℕ). (message_at k i).known) (sym about ∙ same) ∙ (calm other also).known)
          told_if false x in_it same = (calm other also).told x in_it same

  tell_calm : (setup : Setup) (k : Kept) (teller : ℕ) (told : Option TopVote) (found : Option Held) → ((h : Held) → found ≡ Some h → In h k.held) →
      ((h : Held) → found ≡ Some h → cold (id_of h) ≡ true → tells_about told (id_of h) ≡ true → follow (message_at k (id_of h)).known told ≡ None) →
      P k → P (tell_held setup k teller told found).kept
  tell_calm setup k teller told None among suits calm = calm
  tell_calm setup k teller told (Some h) among suits calm = by (tells_about told (id_of h)) refl
    where
      at : (b : Bool) → cold (id_of h) ≡ b → tells_about told (id_of h) ≡ true → P (told_to setup k (message_at k (id_of h)).known (told_by h teller told)).kept
      at true is about = told_calm setup k teller told h is (among h refl) (suits h refl is about) calm
      at false stays about =
          let known = (message_at k (id_of h)).known in
          told_stays cold P s setup k known (told_by h teller told) (settled_by setup.nodes known (told_by h teller told))
          (ap cold (same_id setup.nodes known (told_by h teller told)) ∙ stays) calm

      by : (b : Bool) → tells_about told (id_of h) ≡ b →
          P (if◌then◌else◌ {A = Stepped} b (told_to setup k (message_at k (id_of h)).known (told_by h teller told)) (leaves k)).kept
      by true about = at (cold (id_of h)) refl about
      by false other = calm

  packet_calm : (setup : Setup) (k : Kept) (packet : Packet) → SuitsPacket setup cold k packet → KeepsCalmPacket cold k packet → P k →
      P (on_packet setup k packet).kept
  packet_calm setup k (Prepare sender slot ballot) suits keeps calm =
      one_of cold P s (is_member setup sender) _ (leaves k)
      (saved_calm k slot (prepare_judged setup.node slot ballot (k.records slot)).after
      (λ is chain known. inl (promised_within setup.node slot ballot (k.records slot))) calm) calm
  packet_calm setup k (Promise sender slot ballot report) suits keeps calm =
      one_of cold P s (is_member setup sender) (on_promise setup k sender slot ballot report) (leaves k)
      (promise_calm setup k sender slot ballot report calm) calm
  packet_calm setup k (Propose sender slot vote) suits keeps calm =
      one_of cold P s (is_member setup sender) _ (leaves k)
      (saved_calm k slot (propose_judged setup.node slot vote (k.records slot)).after
      (λ is chain known. voted_within chain setup.node slot vote k.records
      (ap (λ (o : Option (List Decree)). is_ahead o slot.place) (sym known) ∙ keeps is)) calm) calm
  packet_calm setup k (Voted sender slot vote) suits keeps calm =
      one_of cold P s (is_member setup sender) (if vote_concerns setup k slot vote then on_voted setup k sender slot vote else leaves k) (leaves k)
      (one_of cold P s (vote_concerns setup k slot vote) (on_voted setup k sender slot vote) (leaves k)
      (voted_calm setup k sender slot vote suits calm) calm) calm
  packet_calm setup k (Refused sender slot ballot promised) suits keeps calm =
      one_of cold P s (is_member setup sender) (on_refused setup k slot ballot promised) (leaves k) (refused_calm setup k slot ballot promised calm) calm
  packet_calm setup k (Ask sender id name) suits keeps calm =
      one_of cold P s (is_member setup sender) (sends k (Tell setup.node name (told_of k.records id) ∷ []) [] []) (leaves k) calm calm
  packet_calm setup k (Tell sender name told) suits keeps calm =
      one_of cold P s (is_member setup sender) (on_tell setup k sender name told) (leaves k) (by (is_own_name setup k name) refl) calm
    where
      by : (b : Bool) → is_own_name setup k name ≡ b →
          P (if◌then◌else◌ {A = Stepped} b (tell_held setup k sender told (held_at k.held name.ticket)) (leaves k)).kept
      by true is = tell_calm setup k sender told (held_at k.held name.ticket)
          (λ h at. found_in (λ (x : Held). ticket_of x == name.ticket) k.held h at) (suits is) calm
      by false is = calm

  -- ---- the others

  asked_calm : (k : Kept) (request : Request) (new : Held) → id_of new ≡ id_in request → asks new.waiting.request ≡ true → new.top ≡ None → P k →
      P (waits_too k request new)
  asked_calm k request new about asking top calm id is =
      let old = calm id is in
      record {
        chain = old.chain;
        known = old.known;
        over = old.over;
        round = old.round;
        reached = old.reached;
        asking = λ h among same. elim (in_either h k.held (new ∷ []) among) [
          | inl before ↦ old.asking h before same
          | inr (inl here) ↦ ap (λ (x : Held). asks x.waiting.request) here ∙ asking
          | inr (inr none) ↦ absurd none
        ];
        told = λ h among same. elim (in_either h k.held (new ∷ []) among) [
          | inl before ↦ old.told h before same
          | inr (inl here) ↦ ap (λ (x : Held). follow (Some old.chain) x.top) here ∙ ap (follow (Some old.chain)) top
          | inr (inr none) ↦ absurd none
        ];
      }

  arrival_calm : (setup : Setup) (k : Kept) (request : Request) → (asks request ≡ false → cold (id_in request) ≡ false) → P k →
      P (on_arrival setup k request).kept
  arrival_calm setup k (Submit id message) suits calm = arrival_stays cold P s setup k (Submit id message) (suits refl) calm
  arrival_calm setup k (Query id account source) suits calm =
      asked_calm k (Query id account source) (begun k.ticket k.clock (Query id account source)) refl refl refl calm
  arrival_calm setup k (Cancel id account source destination) suits calm =
      asked_calm k (Cancel id account source destination) (begun k.ticket k.clock (Cancel id account source destination)) refl refl refl calm

  saved_by_calm : (setup : Setup) (k : Kept) (packet : Packet) → KeepsCalmPacket cold k packet → P k → P (saved_by setup k packet)
  saved_by_calm setup k (Prepare sender slot ballot) keeps calm =
      saved_calm k slot (prepare_judged setup.node slot ballot (k.records slot)).after
      (λ is chain known. inl (promised_within setup.node slot ballot (k.records slot))) calm
  saved_by_calm setup k (Propose sender slot vote) keeps calm =
      saved_calm k slot (propose_judged setup.node slot vote (k.records slot)).after
      (λ is chain known. voted_within chain setup.node slot vote k.records
      (ap (λ (o : Option (List Decree)). is_ahead o slot.place) (sym known) ∙ keeps is)) calm
  saved_by_calm setup k (Promise sender slot ballot report) keeps calm = calm
  saved_by_calm setup k (Voted sender slot vote) keeps calm = calm
  saved_by_calm setup k (Refused sender slot ballot promised) keeps calm = calm
  saved_by_calm setup k (Ask sender id name) keeps calm = calm
  saved_by_calm setup k (Tell sender name told) keeps calm = calm

  stopped_calm : (setup : Setup) (k : Kept) (packet : Packet) (after : Bool) → KeepsCalmPacket cold k packet → P k → P (stopped setup k packet after)
  stopped_calm setup k packet false keeps calm = lowered_stays cold P s k calm
  stopped_calm setup k packet true keeps calm = by (is_member setup (sender_of packet))
    where
      by : (b : Bool) → P (if b then record (saved_by setup k packet) { up = false } else record k { up = false })
      by true = lowered_stays cold P s (saved_by setup k packet) (saved_by_calm setup k packet keeps calm)
      by false = lowered_stays cold P s k calm

  up_calm : (setup : Setup) (k : Kept) (input : Input) → Suits setup cold k input → KeepsCalm cold k input → P k → P (stepped_up setup k input).kept
  up_calm setup k (Delivery packet) suits keeps calm = packet_calm setup k packet suits keeps calm
  up_calm setup k (Crash packet after) suits keeps calm = stopped_calm setup k packet after keeps calm
  up_calm setup k (Arrival request) suits keeps calm = arrival_calm setup k request suits calm
  up_calm setup k (Refusal status) suits keeps calm = calm
  up_calm setup k (Tick moment reach) suits keeps calm =
      (each_cool cold setup reach (ids_of (ticked k (max k.clock moment))) (ticked k (max k.clock moment)) (ticked_calm cold k (max k.clock moment) calm)).1
  up_calm setup k (Grant slot) suits keeps calm = grant_stays cold P s k slot suits calm
  up_calm setup k (Response slot outcome) suits keeps calm = response_stays cold P s setup k slot outcome suits calm
  up_calm setup k (Restart lost) suits keeps calm = absurd keeps

  down_calm : (setup : Setup) (k : Kept) (input : Input) → KeepsCalm cold k input → P k → P (stepped_down setup k input).kept
  down_calm setup k (Delivery packet) keeps calm = calm
  down_calm setup k (Crash packet after) keeps calm = calm
  down_calm setup k (Arrival request) keeps calm = calm
  down_calm setup k (Refusal status) keeps calm = calm
  down_calm setup k (Tick moment reach) keeps calm = calm
  down_calm setup k (Grant slot) keeps calm = calm
  down_calm setup k (Response slot outcome) keeps calm = calm
  down_calm setup k (Restart lost) keeps calm = absurd keeps

pub step_calm : (setup : Setup) (k : Kept) (cold : ℕ → Bool) (input : Input) → AreCalm cold k → Suits setup cold k input → KeepsCalm cold k input →
    AreCalm cold (stepped setup k input).kept
step_calm setup k cold input calm suits keeps =
    one_of cold (AreCalm cold) (calm_staying cold) k.up (stepped_up setup k input) (stepped_down setup k input)
    (up_calm cold setup k input suits keeps calm) (down_calm cold setup k input keeps calm)
