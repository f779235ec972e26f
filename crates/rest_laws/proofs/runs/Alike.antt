-- What remains at a node, and what would if it had forgotten nothing of what is cold: what they have in common.
use Rattle.std.proofs.Common.{◌≡◌, ℕ, ◌+◌, ◌<◌, Bool, true, false, List, [], ◌∷◌, Option, Some, None, length, refl, sym, subst, ap, ◌∙◌}
use Rattle.std.specs.Prelude.{◌==◌, ◌&&◌, not, if◌then◌else◌}
use Rattle.mc_model.specs.message.Decree.{Attempt, Decree, Failed, Fate, Kind, Taken, Told}
use Rattle.mc_model.specs.node.Actor.{Cancel, Query, Request, Submit}
use Rattle.mc_model.specs.node.Grant.{NotMine, OlderIncarnation}
use Rattle.mc_model.specs.node.Input.{Arrival, Crash, Delivery, Grant, Input, Refusal, Response, Restart, Tick}
use Rattle.mc_model.specs.message.Ids.{most_serial}
use Rattle.mc_model.specs.node.Outcome.{Outcome}
use Rattle.mc_model.specs.node.Room.{is_busy, queue_full, throttled}
use Rattle.mc_model.specs.node.Setup.{Setup}
use Rattle.mc_model.specs.synod.Acceptor.{Records}
use Rattle.mc_model.specs.synod.Lists.{In}
use Rattle.mc_model.specs.synod.Packet.{Ask, Packet, Prepare, Promise, Propose, Refused, Slot, Tell, Voted}
use Rattle.node_laws.specs.Runs.{IsFitToCome, IsUpFor, MayCome}
use Rattle.node_model.specs.Acceptor.{told_of}
use Rattle.node_model.specs.Attempts.{known_refusal, newest_refusal, own_refusal}
use Rattle.node_model.specs.Granted.{is_open_in}
use Rattle.node_model.specs.Kept.{Held, Kept, message_at}
use Rattle.node_model.specs.Learner.{is_shorter}
use Rattle.node_model.specs.Message.{Message}
use Rattle.node_model.specs.Requests.{held_at, id_of}
use Rattle.node_model.specs.Starts.{follow, is_ahead}
use Rattle.rest_laws.specs.AtRest.{IsAtRest}
use Rattle.rest_laws.specs.Cooled.{AreCalm, KeepsCalm, KeepsCalmPacket, Suits, SuitsPacket, cool, cooled_if}
use Rattle.rest_laws.proofs.cooled.Entries.{cooling, message_cool}
use Rattle.rest_laws.proofs.forgetting.Kept.{message_same}

known_cool : (b : Bool) (m : Message) → (cooled_if b m).known ≡ m.known
known_cool true m = refl
known_cool false m = refl

round_cool : (b : Bool) (m : Message) → (cooled_if b m).round ≡ m.round
round_cool true m = refl
round_cool false m = refl

-- a grant is refused by what is kept of the message, and by the incarnation
refusal_by : (setup : Setup) (k now : Kept) (m : Message) (known : Option (List Decree)) → k.incarnation ≡ now.incarnation →
    known_refusal setup k m known ≡ known_refusal setup now m known
refusal_by setup k now m None same = refl
refusal_by setup k now m (Some []) same = refl
refusal_by setup k now m (Some (newest ∷ older)) same = by newest.kind
  where
    by : (kind : Kind) → newest_refusal setup k m newest (length older) kind ≡ newest_refusal setup now m newest (length older) kind
    by (Taken message) = refl
    by (Attempt number) = λ i. if not (newest.author.node == setup.node) then Some NotMine
        else (if not (newest.author.incarnation == same i) then Some OlderIncarnation else own_refusal m (length older))
    by (Failed error) = refl
    by (Fate final error) = refl
    by Told = refl

module _ (cold : ℕ → Bool) (k now : Kept) (same : cool cold k ≡ cool cold now) where
  pub up_is : k.up ≡ now.up
  up_is = ap (λ (x : Kept). x.up) same

  pub held_is : k.held ≡ now.held
  held_is = ap (λ (x : Kept). x.held) same

  pub records_are : k.records ≡ now.records
  records_are = ap (λ (x : Kept). x.records) same

  pub incarnation_is : k.incarnation ≡ now.incarnation
  incarnation_is = ap (λ (x : Kept). x.incarnation) same

  pub known_is : (id : ℕ) → (message_at k id).known ≡ (message_at now id).known
  known_is id =
      sym (known_cool (cold id) (message_at k id))
      ∙ (ap (λ (m : Message). m.known) (sym (message_cool cold k id) ∙ (ap (λ (x : Kept). message_at x id) same ∙ message_cool cold now id))
      ∙ known_cool (cold id) (message_at now id))

  pub round_is : (id : ℕ) → (message_at k id).round ≡ (message_at now id).round
  round_is id =
      sym (round_cool (cold id) (message_at k id))
      ∙ (ap (λ (m : Message). m.round) (sym (message_cool cold k id) ∙ (ap (λ (x : Kept). message_at x id) same ∙ message_cool cold now id))
      ∙ round_cool (cold id) (message_at now id))

  -- of what is not cold nothing was forgotten
  pub message_is : (id : ℕ) → cold id ≡ false → message_at k id ≡ message_at now id
  message_is id stays =
      sym (message_same (cooling cold) k id stays) ∙ (ap (λ (x : Kept). message_at x id) same ∙ message_same (cooling cold) now id stays)

  pub calm_too : AreCalm cold k → AreCalm cold now
  calm_too calm id is =
      let old = calm id is in
      record {
        chain = old.chain;
        known = sym (known_is id) ∙ old.known;
        over = old.over;
        round = sym (round_is id) ∙ old.round;
        reached = ap (λ (r : Records). follow (Some old.chain) (told_of r id)) (sym records_are) ∙ old.reached;
        asking = λ h among. old.asking h (subst (λ (hs : List Held). In h hs) (sym held_is) among);
        told = λ h among. old.told h (subst (λ (hs : List Held). In h hs) (sym held_is) among);
      }

  pub rests_too : (id : ℕ) → ((place : ℕ) → is_open_in (message_at now id) place ≡ false) → IsAtRest k id → IsAtRest now id
  rests_too id shut old = record {
    chain = old.chain;
    known = sym (known_is id) ∙ old.known;
    over = old.over;
    round = sym (round_is id) ∙ old.round;
    reached = ap (λ (r : Records). follow (Some old.chain) (told_of r id)) (sym records_are) ∙ old.reached;
    shut = shut;
    unasked = λ h among. old.unasked h (subst (λ (hs : List Held). In h hs) (sym held_is) among);
  }

  -- ---- what suits one suits the other

  packet_suits : (setup : Setup) (packet : Packet) → SuitsPacket setup cold k packet → SuitsPacket setup cold now packet
  packet_suits setup (Voted sender slot vote) suits = λ is.
      ap (λ (o : Option (List Decree)). is_shorter o vote.chain) (sym (known_is slot.id)) ∙ suits is
  packet_suits setup (Tell sender name told) suits = λ own h at is about.
      ap (λ (o : Option (List Decree)). follow o told) (sym (known_is (id_of h)))
      ∙ suits (ap (λ (n : ℕ). (name.node == setup.node) && (name.incarnation == n)) incarnation_is ∙ own) h
      (ap (λ (hs : List Held). held_at hs name.ticket) held_is ∙ at) is about
  packet_suits setup (Prepare sender slot ballot) suits = tt
  packet_suits setup (Promise sender slot ballot report) suits = tt
  packet_suits setup (Propose sender slot vote) suits = tt
  packet_suits setup (Refused sender slot ballot promised) suits = tt
  packet_suits setup (Ask sender id name) suits = tt

  pub suits_too : (setup : Setup) (input : Input) → Suits setup cold k input → Suits setup cold now input
  suits_too setup (Delivery packet) suits = packet_suits setup packet suits
  suits_too setup (Crash packet after) suits = tt
  suits_too setup (Arrival request) suits = suits
  suits_too setup (Refusal status) suits = tt
  suits_too setup (Tick moment reach) suits = tt
  suits_too setup (Grant slot) suits = suits
  suits_too setup (Response slot outcome) suits = suits
  suits_too setup (Restart lost) suits = tt

  packet_keeps : (packet : Packet) → KeepsCalmPacket cold k packet → KeepsCalmPacket cold now packet
  packet_keeps (Propose sender slot vote) keeps = λ is.
      ap (λ (o : Option (List Decree)). is_ahead o slot.place) (sym (known_is slot.id)) ∙ keeps is
  packet_keeps (Voted sender slot vote) keeps = tt
  packet_keeps (Tell sender name told) keeps = tt
  packet_keeps (Prepare sender slot ballot) keeps = tt
  packet_keeps (Promise sender slot ballot report) keeps = tt
  packet_keeps (Refused sender slot ballot promised) keeps = tt
  packet_keeps (Ask sender id name) keeps = tt

  pub keeps_too : (input : Input) → KeepsCalm cold k input → KeepsCalm cold now input
  keeps_too (Delivery packet) keeps = packet_keeps packet keeps
  keeps_too (Crash packet after) keeps = packet_keeps packet keeps
  keeps_too (Arrival request) keeps = tt
  keeps_too (Refusal status) keeps = tt
  keeps_too (Tick moment reach) keeps = tt
  keeps_too (Grant slot) keeps = tt
  keeps_too (Response slot outcome) keeps = tt
  keeps_too (Restart lost) keeps = absurd keeps

  -- ---- what may come to one may come to the other

  pub up_too : (input : Input) → IsUpFor k input → IsUpFor now input
  up_too (Delivery packet) up = sym up_is ∙ up
  up_too (Crash packet after) up = sym up_is ∙ up
  up_too (Arrival request) up = sym up_is ∙ up
  up_too (Refusal status) up = sym up_is ∙ up
  up_too (Tick moment reach) up = sym up_is ∙ up
  up_too (Grant slot) up = sym up_is ∙ up
  up_too (Response slot outcome) up = sym up_is ∙ up
  up_too (Restart lost) up = tt

  fit_cool : (setup : Setup) (x : Kept) (request : Request) → IsFitToCome setup x request → IsFitToCome setup (cool cold x) request
  fit_cool setup x (Submit id message) next = record { serial = next.serial; id_is = next.id_is; takes = next.takes }
  fit_cool setup x (Query id account source) next = tt
  fit_cool setup x (Cancel id account source destination) next = tt

  fit_warm : (setup : Setup) (x : Kept) (request : Request) → IsFitToCome setup (cool cold x) request → IsFitToCome setup x request
  fit_warm setup x (Submit id message) next = record { serial = next.serial; id_is = next.id_is; takes = next.takes }
  fit_warm setup x (Query id account source) next = tt
  fit_warm setup x (Cancel id account source destination) next = tt

  -- no attempt of what is cold is granted or answered
  pub comes_too : (setup : Setup) (input : Input) → ((slot : Slot) → input ≡ Grant slot → cold slot.id ≡ false) →
      ((slot : Slot) (outcome : Outcome) → input ≡ Response slot outcome → cold slot.id ≡ false) →
      MayCome setup k input → MayCome setup now input
  comes_too setup (Delivery packet) grants answers may = may
  comes_too setup (Crash packet after) grants answers may = may
  comes_too setup (Arrival request) grants answers may = (
    subst (λ (x : Kept). is_busy (length x.held) x.ticket ≡ false) same may.0,
    fit_warm setup now request (subst (λ (x : Kept). IsFitToCome setup x request) same (fit_cool setup k request may.1)),
  )
  comes_too setup (Refusal status) grants answers may =
      subst (λ (x : Kept). (status ≡ throttled → is_busy (length x.held) x.ticket ≡ true)
      × (status ≡ queue_full → most_serial < x.serial)) same may
  comes_too setup (Tick moment reach) grants answers may = tt
  comes_too setup (Grant slot) grants answers may =
      let message = message_is slot.id (grants slot refl) in
      record {
        chain = may.chain;
        known = sym (known_is slot.id) ∙ may.known;
        place = may.place;
        allowed =
            sym (refusal_by setup k now (message_at now slot.id) (message_at now slot.id).known incarnation_is)
            ∙ (ap (λ (m : Message). known_refusal setup k m m.known) (sym message) ∙ may.allowed);
      }
  comes_too setup (Response slot outcome) grants answers may =
      let message = message_is slot.id (answers slot outcome refl) in
      record {
        granted = ap (λ (m : Message). m.granted slot.place) (sym message) ∙ may.granted;
        closed = ap (λ (m : Message). m.closed slot.place) (sym message) ∙ may.closed;
        possible = may.possible;
      }
  comes_too setup (Restart lost) grants answers may = subst (λ (x : Kept). x.incarnation + lost < 9999) same may
