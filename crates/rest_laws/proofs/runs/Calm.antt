-- What comes to a node of a cluster suits what is calm there.
use Rattle.std.proofs.Common.{◌≡◌, ℕ, Bool, true, false, List, Option, Some, None, is_some, refl, ap, ◌∙◌, inl, inr, arith}
use Rattle.std.specs.Prelude.{◌&&◌, not}
use Rattle.std.proofs.lemmas.Bool.{eqb-true}
use Rattle.mc_model.specs.message.Decree.{Decree}
use Rattle.mc_model.specs.message.Ids.{node_of}
use Rattle.mc_model.specs.message.Submission.{Submission}
use Rattle.mc_model.specs.node.Actor.{Cancel, Query, Request, Submit, id_in}
use Rattle.mc_model.specs.node.Grant.{NotChosen}
use Rattle.mc_model.specs.node.Input.{Arrival, Crash, Delivery, Grant, Input, Refusal, Response, Restart, Tick}
use Rattle.mc_model.specs.node.Outcome.{Outcome}
use Rattle.mc_model.specs.node.Setup.{Setup}
use Rattle.mc_model.specs.cluster.Steps.{Cluster, setup_of}
use Rattle.mc_model.specs.synod.Lists.{In}
use Rattle.mc_model.specs.synod.OneSlot.{vote_at}
use Rattle.mc_model.specs.synod.Packet.{Ask, Name, Packet, Prepare, Promise, Propose, Refused, Slot, Tell, TopVote, Voted, slot_of}
use Rattle.mc_parts.proofs.Majorities.{both}
use Rattle.node_model.specs.Attempts.{grant_refusal, known_refusal}
use Rattle.node_model.specs.Granted.{is_open_in}
use Rattle.node_model.specs.Kept.{Kept, message_at}
use Rattle.node_model.specs.Learner.{is_shorter}
use Rattle.node_model.specs.Message.{Message}
use Rattle.node_model.specs.Packets.{tells_about}
use Rattle.node_model.specs.Requests.{asks, id_of as asked_id}
use Rattle.node_model.specs.Starts.{follow, is_ahead}
use Rattle.node_laws.specs.Clusters.{MayHappen, NodeInput, WasSentBefore, kept_reached}
use Rattle.node_laws.specs.Runs.{IsFitToCome, IsNextMessage, MayCome}
use Rattle.rest_laws.specs.Cooled.{AreCalm, AreShut, IsCalm, KeepsCalm, KeepsCalmPacket, Suits, SuitsPacket}
use Rattle.rest_laws.proofs.runs.Over.{knows, proposal_within, told_within, vote_within}
use Rattle.rest_laws.proofs.runs.Worlds.{node_stands}
use Rattle.rest_laws.proofs.without.Resting.{no_attempt}

-- ---- at whatever node: no attempt of it is granted or answered

not_cold : (cold : ℕ → Bool) (id : ℕ) → (cold id ≡ true → ⊥) → cold id ≡ false
not_cold cold id never = by (cold id) refl
  where
    by : (b : Bool) → cold id ≡ b → b ≡ false
    by true is = absurd (never is)
    by false is = refl

pub calm_refusal : (setup : Setup) (k : Kept) (id : ℕ) → IsCalm k id → grant_refusal setup k id ≡ Some NotChosen
calm_refusal setup k id calm = ap (known_refusal setup k (message_at k id)) calm.known ∙ no_attempt setup k id calm.chain calm.over

pub granted_not_cold : (setup : Setup) (k : Kept) (cold : ℕ → Bool) (slot : Slot) → AreCalm cold k → MayCome setup k (Grant slot) → cold slot.id ≡ false
granted_not_cold setup k cold slot calm may =
    not_cold cold slot.id (λ is.
    let refused = calm_refusal setup k slot.id (calm slot.id is) in
    let allowed = may.allowed in
    absurd (cc))

open_so : (m : Message) (place : ℕ) → m.granted place ≡ true → m.closed place ≡ None → is_open_in m place ≡ true
open_so m place granted closed = λ i. granted i && not (is_some (closed i))

pub answered_not_cold : (setup : Setup) (k : Kept) (cold : ℕ → Bool) (slot : Slot) (outcome : Outcome) → AreShut cold k →
    MayCome setup k (Response slot outcome) → cold slot.id ≡ false
answered_not_cold setup k cold slot outcome shut may =
    not_cold cold slot.id (λ is.
    let opened = open_so (message_at k slot.id) slot.place may.granted may.closed in
    let closed = shut slot.id is slot.place in
    absurd (cc))

-- ---- in a cluster

module _ (cluster : Cluster) (inputs : List NodeInput) (may : MayHappen cluster inputs) (node : ℕ) (cold : ℕ → Bool) where
  abbrev k : Kept
  k = (kept_reached cluster inputs).kept node

  abbrev setup : Setup
  setup = setup_of cluster node

  -- a submit_sm has the next id, and a message of which something is known has an earlier one
  taken_before : (id : ℕ) (message : Submission) → IsCalm k id → IsNextMessage setup k id message → ⊥
  taken_before id message calm next =
      let stands = node_stands cluster inputs may node in
      let known = knows cluster inputs may node id calm.chain calm.known calm.over in
      let some = both cluster.nodes _ _ known.learned known.learned in
      let fit = stands.agrees.coherent.fits (Voted some.node (slot_of id calm.chain) (vote_at known.ballot calm.chain)) some.one in
      let life = stands.agrees.coherent.life in
      let incarnation = stands.agrees.incarnation in
      let serial = stands.agrees.serial in
      let is = next.id_is in
      let most = next.serial.most in
      let lived = life.most in
      let own : node_of id ≡ node = omega (arith, is, most, lived, incarnation) in
      elim (fit.1 own) [
        | inl before ↦ omega (arith, is, most, lived, incarnation, before)
        | inr now ↦ let same = now.1 in omega (arith, is, most, lived, incarnation, serial, same)
      ]

  asked_suits : AreCalm cold k → (request : Request) → IsFitToCome setup k request → asks request ≡ false → cold (id_in request) ≡ false
  asked_suits calm (Submit id message) fit silent = not_cold cold id (λ is. taken_before id message (calm id is) fit)
  asked_suits calm (Query id account source) fit silent = absurd (cc)
  asked_suits calm (Cancel id account source destination) fit silent = absurd (cc)

  told_suits : AreCalm cold k → (sender : ℕ) (name : Name) (told : Option TopVote) → In (Tell sender name told) (kept_reached cluster inputs).packets →
      (id : ℕ) → cold id ≡ true → tells_about told id ≡ true → follow (message_at k id).known told ≡ None
  told_suits calm sender name None sent id is about = refl
  told_suits calm sender name (Some top) sent id is about =
      let it = calm id is in
      ap (λ (o : Option (List Decree)). follow o (Some top)) it.known
      ∙ told_within cluster inputs may node id it.chain it.known it.over sender name top sent (eqb-true top.id id about)

  packet_suits : AreCalm cold k → (packet : Packet) → In packet (kept_reached cluster inputs).packets → SuitsPacket setup cold k packet
  packet_suits calm (Voted sender slot vote) sent = λ is.
      let it = calm slot.id is in
      ap (λ (o : Option (List Decree)). is_shorter o vote.chain) it.known
      ∙ vote_within cluster inputs may node slot.id it.chain it.known it.over sender slot vote sent refl
  packet_suits calm (Tell sender name told) sent = λ own h at is about. told_suits calm sender name told sent (asked_id h) is about
  packet_suits calm (Prepare sender slot ballot) sent = tt
  packet_suits calm (Promise sender slot ballot report) sent = tt
  packet_suits calm (Propose sender slot vote) sent = tt
  packet_suits calm (Refused sender slot ballot promised) sent = tt
  packet_suits calm (Ask sender id name) sent = tt

  packet_keeps : AreCalm cold k → (packet : Packet) → In packet (kept_reached cluster inputs).packets → KeepsCalmPacket cold k packet
  packet_keeps calm (Propose sender slot vote) sent = λ is.
      let it = calm slot.id is in
      ap (λ (o : Option (List Decree)). is_ahead o slot.place) it.known
      ∙ proposal_within cluster inputs may node slot.id it.chain it.known it.over sender slot vote sent refl
  packet_keeps calm (Voted sender slot vote) sent = tt
  packet_keeps calm (Tell sender name told) sent = tt
  packet_keeps calm (Prepare sender slot ballot) sent = tt
  packet_keeps calm (Promise sender slot ballot report) sent = tt
  packet_keeps calm (Refused sender slot ballot promised) sent = tt
  packet_keeps calm (Ask sender id name) sent = tt

  pub all_suits : AreCalm cold k → AreShut cold k → (input : Input) → MayCome setup k input → WasSentBefore (kept_reached cluster inputs).packets input →
      Suits setup cold k input
  all_suits calm shut (Delivery packet) comes sent = packet_suits calm packet sent
  all_suits calm shut (Crash packet after) comes sent = tt
  all_suits calm shut (Arrival request) comes sent = asked_suits calm request comes.1
  all_suits calm shut (Refusal status) comes sent = tt
  all_suits calm shut (Tick moment reach) comes sent = tt
  all_suits calm shut (Grant slot) comes sent = granted_not_cold setup k cold slot calm comes
  all_suits calm shut (Response slot outcome) comes sent = answered_not_cold setup k cold slot outcome shut comes
  all_suits calm shut (Restart lost) comes sent = tt

  pub all_keep : AreCalm cold k → (input : Input) → WasSentBefore (kept_reached cluster inputs).packets input →
      ((lost : ℕ) → input ≡ Restart lost → ⊥) → KeepsCalm cold k input
  all_keep calm (Delivery packet) sent other = packet_keeps calm packet sent
  all_keep calm (Crash packet after) sent other = packet_keeps calm packet sent
  all_keep calm (Arrival request) sent other = tt
  all_keep calm (Refusal status) sent other = tt
  all_keep calm (Tick moment reach) sent other = tt
  all_keep calm (Grant slot) sent other = tt
  all_keep calm (Response slot outcome) sent other = tt
  all_keep calm (Restart lost) sent other = other lost refl
