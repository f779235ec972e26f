-- What is gone stays at rest, whatever comes that is not about it.
use Rattle.std.proofs.Common.{◌≡◌, ℕ, zero, suc, Bool, true, false, List, [], ◌∷◌, map, option_map, cond, Option, Some, None, refl, sym, subst, ap, ◌∙◌, inl, inr}
use Rattle.std.specs.Prelude.{◌==◌, ◌&&◌, not, if◌then◌else◌}
use Rattle.std.specs.List.Sorted.{IsStrictlySortedBy}
use Rattle.std.specs.Map.{keys_of, lookup}
use Rattle.std.specs.Ordering.{nat_cmp}
use Rattle.std.specs.BTreeMap.{is_at}
use Rattle.std.specs.Option.{unwrap_or}
use Rattle.std.proofs.lemmas.Bool.{eqb-true}
use Rattle.mc_model.specs.node.Input.{Arrival, Crash, Delivery, Grant, Input, Refusal, Response, Restart, Tick}
use Rattle.mc_model.specs.node.Reach.{Reach}
use Rattle.mc_model.specs.node.Setup.{Setup}
use Rattle.mc_model.specs.synod.Acceptor.{Records, SlotRecord, with_record}
use Rattle.mc_model.specs.synod.Lists.{In}
use Rattle.mc_model.specs.synod.Packet.{Ask, Packet, Prepare, Promise, Propose, Refused, Slot, Tell, TopVote, Voted, same_slot, slot_at}
use Rattle.mc_parts.proofs.Membership.{in_filter}
use Rattle.node_model.specs.Acceptor.{prepare_judged, propose_judged, told_below, told_of, told_with}
use Rattle.node_model.specs.Granted.{is_open_in}
use Rattle.node_model.specs.Kept.{Held, Kept, message_at, saved, with_message}
use Rattle.node_model.specs.Learner.{heard}
use Rattle.node_model.specs.Message.{Message, most_places, unseen}
use Rattle.node_model.specs.Outputs.{leaves, sends}
use Rattle.node_model.specs.Packets.{is_member, is_own_name, on_packet, on_promise, on_refused, on_tell, on_voted, tell_held, tells_about, told_to, vote_concerns}
use Rattle.node_model.specs.Requests.{held_at, id_of, settled_by, ticket_of, told_by}
use Rattle.node_model.specs.Starts.{follow}
use Rattle.node_model.specs.Stepped.{saved_by, sender_of, stepped_down, stepped_up, stopped}
use Rattle.node_model.specs.Ticks.{is_late, ticked, without_round}
use Rattle.node_model.proofs.Places.{message_elsewhere}
use Rattle.shelf.proofs.Entries.{still_ascends}
use Rattle.node_laws.proofs.invariant.Ticked.{keys_unrounded}
use Rattle.node_laws.proofs.step.Busy.{same_id}
use Rattle.rest_laws.specs.AtRest.{AreAtRest, IsAtRest}
use Rattle.rest_laws.specs.Without.{Spares, SparesPacket}
use Rattle.rest_laws.proofs.forgetting.Packets.{found_in}
use Rattle.rest_laws.proofs.forgetting.Staying.{Staying, arrival_stays, grant_stays, heard_stays, lowered_stays, one_of, promise_stays, refused_stays, response_stays, told_stays}

-- ---- one message

-- by what is kept of it, its records and its requests
rest_same : (k now : Kept) (id : ℕ) → told_of now.records id ≡ told_of k.records id → message_at now id ≡ message_at k id →
    ((h : Held) → In h now.held → id_of h ≡ id → ⊥) → IsAtRest k id → IsAtRest now id
rest_same k now id records message unasked old = record {
  chain = old.chain;
  known = ap (λ (m : Message). m.known) message ∙ old.known;
  over = old.over;
  round = ap (λ (m : Message). m.round) message ∙ old.round;
  reached = ap (follow (Some old.chain)) records ∙ old.reached;
  shut = λ place. ap (λ (m : Message). is_open_in m place) message ∙ old.shut place;
  unasked = unasked;
}

-- a record of another message
told_still : (records : Records) (slot : Slot) (new : SlotRecord) (id : ℕ) → ((place : ℕ) → same_slot (slot_at id place) slot ≡ false) → (bound : ℕ) →
    told_below (with_record records slot new) id bound ≡ told_below records id bound
told_still records slot new id apart zero = refl
told_still records slot new id apart (suc place) =
    λ i. told_with (slot_at id place) (if apart place i then new else records (slot_at id place)).vote (told_still records slot new id apart place i)

pub told_elsewhere : (records : Records) (slot : Slot) (new : SlotRecord) (id : ℕ) → (id ≡ slot.id → ⊥) →
    told_of (with_record records slot new) id ≡ told_of records id
told_elsewhere records slot new id apart =
    told_still records slot new id (λ place. ap (λ (b : Bool). b && (place == slot.place)) (by (id == slot.id) refl)) most_places
  where
    by : (b : Bool) → (id == slot.id) ≡ b → b ≡ false
    by true same = absurd (apart (eqb-true id slot.id same))
    by false differs = refl

pub apart_from : (some_of : ℕ → Bool) (id other : ℕ) → some_of id ≡ true → some_of other ≡ false → id ≡ other → ⊥
apart_from some_of id other is stays same = let no : some_of id ≡ false = subst (λ (i : ℕ). some_of i ≡ false) (sym same) stays in absurd (cc)

-- a request asks of no message that is gone
pub not_asked : (gone : ℕ → Bool) (k : Kept) → AreAtRest gone k → (h : Held) → In h k.held → gone (id_of h) ≡ false
not_asked gone k rests h among = by (gone (id_of h)) refl
  where
    by : (b : Bool) → gone (id_of h) ≡ b → b ≡ false
    by true is = absurd ((rests.rest (id_of h) is).unasked h among refl)
    by false is = refl

pub rests_staying : (gone : ℕ → Bool) → Staying gone (AreAtRest gone)
rests_staying gone = record {
  other = λ k id m stays rests. record {
    ascend = still_ascends k.messages id m rests.ascend;
    rest = λ other is.
        rest_same k (with_message k id m) other refl (message_elsewhere k id other m (apart_from gone other id is stays)) (rests.rest other is).unasked
        (rests.rest other is);
  };
  record_of = λ k slot new stays rests. record {
    ascend = still_ascends k.messages slot.id (message_at k slot.id) rests.ascend;
    rest = λ other is.
        let apart = apart_from gone other slot.id is stays in
        rest_same k (saved k slot new) other (told_elsewhere k.records slot new other apart)
        (message_elsewhere k slot.id other (message_at k slot.id) apart) (rests.rest other is).unasked (rests.rest other is);
  };
  requests = λ k held comes rests. record {
    ascend = rests.ascend;
    rest = λ id is. rest_same k (record k { held = held }) id refl refl
        (λ h among same. elim (comes h among) [
          | inl from ↦ (rests.rest id is).unasked from.0 from.1 (sym from.2.id ∙ same)
          | inr apart ↦ apart_from gone id (id_of h) is apart (sym same)
        ]) (rests.rest id is);
  };
  same = λ k now records messages held rests. record {
    ascend = subst (λ (es : List (ℕ × Message)). IsStrictlySortedBy nat_cmp (keys_of es)) messages rests.ascend;
    rest = λ id is. rest_same k now id (ap (λ (r : Records). told_of r id) (sym records))
        (ap (λ (es : List (ℕ × Message)). unwrap_or (lookup (is_at (nat_cmp id)) es) unseen) (sym messages))
        (λ h among. (rests.rest id is).unasked h (subst (λ (hs : List Held). In h hs) (sym held) among)) (rests.rest id is);
  };
}

-- ---- the clock rises, and no round runs

abbrev pub no_round : Message → Message
no_round m = record m { round = None }

lookup_ticked : (test : ℕ → Bool) (es : List (ℕ × Message)) → lookup test (map without_round es) ≡ option_map no_round (lookup test es)
lookup_ticked test [] = refl
lookup_ticked test (e ∷ es) = by (test e.0) (lookup_ticked test es)
  where
    by : (b : Bool) → lookup test (map without_round es) ≡ option_map no_round (lookup test es) →
        cond b (Some (no_round e.1)) (lookup test (map without_round es)) ≡ option_map no_round (cond b (Some e.1) (lookup test es))
    by true rest = refl
    by false rest = rest

unwrap_ticked : (o : Option Message) → unwrap_or (option_map no_round o) unseen ≡ no_round (unwrap_or o unseen)
unwrap_ticked None = refl
unwrap_ticked (Some m) = refl

pub message_ticked : (k : Kept) (clock id : ℕ) → message_at (ticked k clock) id ≡ no_round (message_at k id)
message_ticked k clock id =
    ap (λ (o : Option Message). unwrap_or o unseen) (lookup_ticked (is_at (nat_cmp id)) k.messages)
    ∙ unwrap_ticked (lookup (is_at (nat_cmp id)) k.messages)

pub ticked_rests : (gone : ℕ → Bool) (k : Kept) (clock : ℕ) → AreAtRest gone k → AreAtRest gone (ticked k clock)
ticked_rests gone k clock rests = record {
  ascend = subst (IsStrictlySortedBy nat_cmp) (sym (keys_unrounded k.messages)) rests.ascend;
  rest = λ id is.
      let old = rests.rest id is in
      let same = message_ticked k clock id in
      record {
        chain = old.chain;
        known = ap (λ (m : Message). m.known) same ∙ old.known;
        over = old.over;
        round = ap (λ (m : Message). m.round) same;
        reached = old.reached;
        shut = λ place. ap (λ (m : Message). is_open_in m place) same ∙ old.shut place;
        unasked = λ h among. old.unasked h (in_filter (λ (x : Held). not (is_late clock x)) k.held h among);
      };
}

module _ (gone : ℕ → Bool) where
  abbrev P : Kept → Type 0
  P k = AreAtRest gone k

  abbrev s : Staying gone P
  s = rests_staying gone

  -- ---- packets

  tell_stays : (setup : Setup) (k : Kept) (teller : ℕ) (told : Option TopVote) (found : Option Held) → ((h : Held) → found ≡ Some h → gone (id_of h) ≡ false) →
      P k → P (tell_held setup k teller told found).kept
  tell_stays setup k teller told None asked rests = rests
  tell_stays setup k teller told (Some h) asked rests =
      let known = (message_at k (id_of h)).known in
      let new : Held = settled_by setup.nodes known (told_by h teller told) in
      let stays : gone (id_of new) ≡ false = ap gone (same_id setup.nodes known (told_by h teller told)) ∙ asked h refl in
      one_of gone P s (tells_about told (id_of h)) (told_to setup k known (told_by h teller told)) (leaves k)
      (told_stays gone P s setup k known (told_by h teller told) new stays rests) rests

  packet_stays : (setup : Setup) (k : Kept) (packet : Packet) → SparesPacket gone packet → P k → P (on_packet setup k packet).kept
  packet_stays setup k (Prepare sender slot ballot) stays rests =
      one_of gone P s (is_member setup sender) _ (leaves k)
      (s.record_of k slot (prepare_judged setup.node slot ballot (k.records slot)).after stays rests) rests
  packet_stays setup k (Promise sender slot ballot report) stays rests =
      one_of gone P s (is_member setup sender) (on_promise setup k sender slot ballot report) (leaves k)
      (promise_stays gone P s setup k (message_at k slot.id) (message_at k slot.id).round sender slot ballot report stays rests) rests
  packet_stays setup k (Propose sender slot vote) stays rests =
      one_of gone P s (is_member setup sender) _ (leaves k) (s.record_of k slot (propose_judged setup.node slot vote (k.records slot)).after stays rests) rests
  packet_stays setup k (Voted sender slot vote) stays rests =
      one_of gone P s (is_member setup sender) (if vote_concerns setup k slot vote then on_voted setup k sender slot vote else leaves k) (leaves k)
      (one_of gone P s (vote_concerns setup k slot vote) (on_voted setup k sender slot vote) (leaves k)
      (heard_stays gone P s setup k slot.id (heard (message_at k slot.id) sender vote) vote stays rests) rests) rests
  packet_stays setup k (Refused sender slot ballot promised) stays rests =
      one_of gone P s (is_member setup sender) (on_refused setup k slot ballot promised) (leaves k)
      (refused_stays gone P s setup k slot ballot promised stays rests) rests
  packet_stays setup k (Ask sender id name) stays rests =
      one_of gone P s (is_member setup sender) (sends k (Tell setup.node name (told_of k.records id) ∷ []) [] []) (leaves k) rests rests
  packet_stays setup k (Tell sender name told) stays rests =
      one_of gone P s (is_member setup sender) (on_tell setup k sender name told) (leaves k)
      (one_of gone P s (is_own_name setup k name) (tell_held setup k sender told (held_at k.held name.ticket)) (leaves k)
      (tell_stays setup k sender told (held_at k.held name.ticket)
      (λ h is. not_asked gone k rests h (found_in (λ (x : Held). ticket_of x == name.ticket) k.held h is)) rests) rests) rests

  -- ---- stops

  saved_stays : (setup : Setup) (k : Kept) (packet : Packet) → SparesPacket gone packet → P k → P (saved_by setup k packet)
  saved_stays setup k (Prepare sender slot ballot) stays rests = s.record_of k slot (prepare_judged setup.node slot ballot (k.records slot)).after stays rests
  saved_stays setup k (Propose sender slot vote) stays rests = s.record_of k slot (propose_judged setup.node slot vote (k.records slot)).after stays rests
  saved_stays setup k (Promise sender slot ballot report) stays rests = rests
  saved_stays setup k (Voted sender slot vote) stays rests = rests
  saved_stays setup k (Refused sender slot ballot promised) stays rests = rests
  saved_stays setup k (Ask sender id name) stays rests = rests
  saved_stays setup k (Tell sender name told) stays rests = rests

  stopped_stays : (setup : Setup) (k : Kept) (packet : Packet) (after : Bool) → SparesPacket gone packet → P k → P (stopped setup k packet after)
  stopped_stays setup k packet false stays rests = lowered_stays gone P s k rests
  stopped_stays setup k packet true stays rests = by (is_member setup (sender_of packet))
    where
      by : (b : Bool) → P (if b then record (saved_by setup k packet) { up = false } else record k { up = false })
      by true = lowered_stays gone P s (saved_by setup k packet) (saved_stays setup k packet stays rests)
      by false = lowered_stays gone P s k rests

  -- ---- whatever comes, but for a tick

  pub up_stays : (setup : Setup) (k : Kept) (input : Input) →
      ((moment : ℕ) (reach : Reach) → P (stepped_up setup k (Tick moment reach)).kept) → Spares gone input → P k →
      P (stepped_up setup k input).kept
  up_stays setup k (Delivery packet) ticks spares rests = packet_stays setup k packet spares rests
  up_stays setup k (Crash packet after) ticks spares rests = stopped_stays setup k packet after spares rests
  up_stays setup k (Arrival request) ticks spares rests = arrival_stays gone P s setup k request spares rests
  up_stays setup k (Refusal status) ticks spares rests = rests
  up_stays setup k (Tick moment reach) ticks spares rests = ticks moment reach
  up_stays setup k (Grant slot) ticks spares rests = grant_stays gone P s k slot spares rests
  up_stays setup k (Response slot outcome) ticks spares rests = response_stays gone P s setup k slot outcome spares rests
  up_stays setup k (Restart lost) ticks spares rests = absurd spares

  pub down_stays : (setup : Setup) (k : Kept) (input : Input) → Spares gone input → P k → P (stepped_down setup k input).kept
  down_stays setup k (Delivery packet) spares rests = rests
  down_stays setup k (Crash packet after) spares rests = rests
  down_stays setup k (Arrival request) spares rests = rests
  down_stays setup k (Refusal status) spares rests = rests
  down_stays setup k (Tick moment reach) spares rests = rests
  down_stays setup k (Grant slot) spares rests = rests
  down_stays setup k (Response slot outcome) spares rests = rests
  down_stays setup k (Restart lost) spares rests = absurd spares
