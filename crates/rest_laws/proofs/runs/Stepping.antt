-- A step of a node that forgot messages: what stands behind it then.
use Rattle.std.proofs.Common.{◌≡◌, ℕ, Bool, true, false, List, [], ◌∷◌, ◌++◌, Option, Some, None, refl, sym, subst, ap, ◌∙◌}
use Rattle.std.specs.Prelude.{◌==◌, reverse, if◌then◌else◌}
use Rattle.std.proofs.lemmas.Bool.{eqb-true}
use Rattle.mc_model.specs.cluster.Steps.{Cluster, setup_of}
use Rattle.mc_model.specs.message.Decree.{Attempt, Decree, Failed, Fate, Kind, Taken, Told}
use Rattle.mc_model.specs.node.Actor.{Cancel, Query, Request, Submit}
use Rattle.mc_model.specs.node.Input.{Arrival, Crash, Delivery, Grant, Input, Refusal, Response, Restart, Tick}
use Rattle.mc_model.specs.node.Setup.{Setup}
use Rattle.mc_model.specs.synod.Lists.{In}
use Rattle.mc_model.specs.synod.Packet.{Packet, Slot}
use Rattle.node_laws.specs.Clusters.{NodeInput, WasSentBefore, comes_to, kept_reached, outputs_at}
use Rattle.node_laws.specs.Runs.{IsFitToCome, IsGrantable, IsOneOf, IsUpFor, MayCome}
use Rattle.node_model.specs.Attempts.{known_refusal, newest_refusal}
use Rattle.node_model.specs.Kept.{Kept, message_at}
use Rattle.node_model.specs.Message.{Message, most_places}
use Rattle.node_model.specs.Outputs.{Stepped}
use Rattle.node_model.specs.Starts.{follow}
use Rattle.node_model.specs.Stepped.{stepped}
use Rattle.rest_laws.specs.AtRest.{AreAtRest}
use Rattle.rest_laws.specs.Behind.{StandsBehind}
use Rattle.mc_model.specs.synod.Packet.{Ask, Prepare, Promise, Propose, Refused, Tell, Voted}
use Rattle.node_model.specs.Learner.{is_shorter}
use Rattle.node_model.specs.Message.{most_places}
use Rattle.node_model.specs.Requests.{id_of}
use Rattle.node_model.specs.Starts.{follow, is_ahead}
use Rattle.rest_laws.specs.Cooled.{AreCalm, AreShut, KeepsCalm, KeepsCalmPacket, Suits, SuitsPacket, cool, cool_step}
use Rattle.rest_laws.proofs.cooled.Shut.{suits_shut}
use Rattle.rest_laws.proofs.cooled.Staying.{step_calm}
use Rattle.rest_laws.proofs.cooled.Stepping.{step_cool}
use Rattle.rest_laws.proofs.runs.Alike.{calm_too, comes_too, keeps_too, suits_too, up_too}
use Rattle.rest_laws.proofs.runs.Calm.{all_keep, all_suits, answered_not_cold, granted_not_cold}
use Rattle.rest_laws.specs.Remains.{Remains, Takes, remains_then}
use Rattle.rest_laws.specs.Without.{Spares, step_without, without}
use Rattle.rest_laws.proofs.forgetting.Kept.{message_same, told_same}
use Rattle.rest_laws.proofs.without.Entries.{dropping, message_gone}
use Rattle.rest_laws.proofs.without.Stepping.{step_rests, step_same}

-- ---- what may come to what remains may come to the whole

module _ (gone : ℕ → Bool) where
  up_still : (k : Kept) (input : Input) → IsUpFor (without gone k) input → IsUpFor k input
  up_still k (Delivery packet) up = up
  up_still k (Crash packet after) up = up
  up_still k (Arrival request) up = up
  up_still k (Refusal status) up = up
  up_still k (Tick moment reach) up = up
  up_still k (Grant slot) up = up
  up_still k (Response slot outcome) up = up
  up_still k (Restart lost) up = up

  fit_still : (setup : Setup) (k : Kept) (request : Request) → IsFitToCome setup (without gone k) request → IsFitToCome setup k request
  fit_still setup k (Submit id message) next = record { serial = next.serial; id_is = next.id_is; takes = next.takes }
  fit_still setup k (Query id account source) next = tt
  fit_still setup k (Cancel id account source destination) next = tt

  newest_still : (setup : Setup) (k : Kept) (m : Message) (newest : Decree) (place : ℕ) (kind : Kind) →
      newest_refusal setup (without gone k) m newest place kind ≡ newest_refusal setup k m newest place kind
  newest_still setup k m newest place (Taken message) = refl
  newest_still setup k m newest place (Attempt number) = refl
  newest_still setup k m newest place (Failed error) = refl
  newest_still setup k m newest place (Fate final error) = refl
  newest_still setup k m newest place Told = refl

  refusal_still : (setup : Setup) (k : Kept) (m : Message) (known : Option (List Decree)) →
      known_refusal setup (without gone k) m known ≡ known_refusal setup k m known
  refusal_still setup k m None = refl
  refusal_still setup k m (Some []) = refl
  refusal_still setup k m (Some (newest ∷ older)) = newest_still setup k m newest _ newest.kind

  grantable_still : (setup : Setup) (k : Kept) (slot : Slot) → gone slot.id ≡ false → IsGrantable setup (without gone k) slot → IsGrantable setup k slot
  grantable_still setup k slot stays may =
      let same = message_same (dropping gone) k slot.id stays in
      record {
        chain = may.chain;
        known = ap (λ (m : Message). m.known) (sym same) ∙ may.known;
        place = may.place;
        allowed =
            sym (refusal_still setup k (message_at k slot.id) (message_at k slot.id).known)
            ∙ (ap (λ (m : Message). known_refusal setup (without gone k) m m.known) (sym same) ∙ may.allowed);
      }

  come_still : (setup : Setup) (k : Kept) (input : Input) → Spares gone input → MayCome setup (without gone k) input → MayCome setup k input
  come_still setup k (Delivery packet) spares may = may
  come_still setup k (Crash packet after) spares may = may
  come_still setup k (Arrival request) spares may = (may.0, fit_still setup k request may.1)
  come_still setup k (Refusal status) spares may = may
  come_still setup k (Tick moment reach) spares may = tt
  come_still setup k (Grant slot) spares may = grantable_still setup k slot spares may
  come_still setup k (Response slot outcome) spares may =
      let same = message_same (dropping gone) k slot.id spares in
      record {
        granted = ap (λ (m : Message). m.granted slot.place) (sym same) ∙ may.granted;
        closed = ap (λ (m : Message). m.closed slot.place) (sym same) ∙ may.closed;
        possible = may.possible;
      }
  come_still setup k (Restart lost) spares may = absurd spares

-- ---- what is cold is not gone

module _ (gone cold : ℕ → Bool) (k : Kept) (calm : AreCalm cold (without gone k)) where
  not_gone : (id : ℕ) → cold id ≡ true → gone id ≡ false
  not_gone id is = by (gone id) refl
    where
      by : (b : Bool) → gone id ≡ b → b ≡ false
      by true was =
          let none : (message_at (without gone k) id).known ≡ None = ap (λ (m : Message). m.known) (message_gone gone k id was) in
          let known = (calm id is).known in
          absurd (cc)
      by false was = refl

  pub same_there : (id : ℕ) → cold id ≡ true → message_at (without gone k) id ≡ message_at k id
  same_there id is = message_same (dropping gone) k id (not_gone id is)

  pub calm_with : AreCalm cold k
  calm_with id is =
      let old = calm id is in
      let same = same_there id is in
      record {
        chain = old.chain;
        known = ap (λ (m : Message). m.known) (sym same) ∙ old.known;
        over = old.over;
        round = ap (λ (m : Message). m.round) (sym same) ∙ old.round;
        reached = ap (follow (Some old.chain)) (sym (told_same (dropping gone) k id (not_gone id is) most_places)) ∙ old.reached;
        asking = old.asking;
        told = old.told;
      }

  packet_suits : (setup : Setup) (packet : Packet) → SuitsPacket setup cold k packet → SuitsPacket setup cold (without gone k) packet
  packet_suits setup (Voted sender slot vote) suits = λ is. ap (λ (m : Message). is_shorter m.known vote.chain) (same_there slot.id is) ∙ suits is
  packet_suits setup (Tell sender name told) suits = λ own h at is about.
      ap (λ (m : Message). follow m.known told) (same_there (id_of h) is) ∙ suits own h at is about
  packet_suits setup (Prepare sender slot ballot) suits = tt
  packet_suits setup (Promise sender slot ballot report) suits = tt
  packet_suits setup (Propose sender slot vote) suits = tt
  packet_suits setup (Refused sender slot ballot promised) suits = tt
  packet_suits setup (Ask sender id name) suits = tt

  packet_keeps : (packet : Packet) → KeepsCalmPacket cold k packet → KeepsCalmPacket cold (without gone k) packet
  packet_keeps (Propose sender slot vote) keeps = λ is. ap (λ (m : Message). is_ahead m.known slot.place) (same_there slot.id is) ∙ keeps is
  packet_keeps (Voted sender slot vote) keeps = tt
  packet_keeps (Tell sender name told) keeps = tt
  packet_keeps (Prepare sender slot ballot) keeps = tt
  packet_keeps (Promise sender slot ballot report) keeps = tt
  packet_keeps (Refused sender slot ballot promised) keeps = tt
  packet_keeps (Ask sender id name) keeps = tt

  suits_of : (setup : Setup) (input : Input) → Suits setup cold k input → Suits setup cold (without gone k) input
  suits_of setup (Delivery packet) suits = packet_suits setup packet suits
  suits_of setup (Crash packet after) suits = tt
  suits_of setup (Arrival request) suits = suits
  suits_of setup (Refusal status) suits = tt
  suits_of setup (Tick moment reach) suits = tt
  suits_of setup (Grant slot) suits = suits
  suits_of setup (Response slot outcome) suits = suits
  suits_of setup (Restart lost) suits = tt

  keeps_of : (input : Input) → KeepsCalm cold k input → KeepsCalm cold (without gone k) input
  keeps_of (Delivery packet) keeps = packet_keeps packet keeps
  keeps_of (Crash packet after) keeps = packet_keeps packet keeps
  keeps_of (Arrival request) keeps = tt
  keeps_of (Refusal status) keeps = tt
  keeps_of (Tick moment reach) keeps = tt
  keeps_of (Grant slot) keeps = tt
  keeps_of (Response slot outcome) keeps = tt
  keeps_of (Restart lost) keeps = absurd keeps

sent_still : (packets others : List Packet) (input : Input) → packets ≡ others → WasSentBefore packets input → WasSentBefore others input
sent_still packets others (Delivery packet) same sent = subst (In packet) same sent
sent_still packets others (Crash packet after) same sent = subst (In packet) same sent
sent_still packets others (Arrival request) same sent = tt
sent_still packets others (Refusal status) same sent = tt
sent_still packets others (Tick moment reach) same sent = tt
sent_still packets others (Grant slot) same sent = tt
sent_still packets others (Response slot outcome) same sent = tt
sent_still packets others (Restart lost) same sent = tt

-- ---- a step

module _ (cluster : Cluster) (inputs : List NodeInput) (r : Remains) (node : ℕ) (input : Input) (behind : StandsBehind cluster inputs r)
    (is : IsOneOf (setup_of cluster node)) (up : IsUpFor (r.kept node) input) (may : MayCome (setup_of cluster node) (r.kept node) input)
    (sent : WasSentBefore r.packets input) (spares : Spares (r.gone node) input) where
  abbrev k : Kept
  k = (kept_reached cluster inputs).kept node

  -- what would remain if nothing had been forgotten of what is cold
  abbrev whole : Kept
  whole = without (r.gone node) k

  abbrev setup : Setup
  setup = setup_of cluster node

  abbrev cold : ℕ → Bool
  cold = r.cold node

  whole_may : MayCome setup whole input
  whole_may =
      comes_too cold (r.kept node) whole (behind.kept_is node) setup input
      (λ slot is_grant. granted_not_cold setup (r.kept node) cold slot (behind.calm node) (subst (MayCome setup (r.kept node)) is_grant may))
      (λ slot outcome is_answer. answered_not_cold setup (r.kept node) cold slot outcome (behind.shut node).0
      (subst (MayCome setup (r.kept node)) is_answer may)) may

  k_may : MayCome setup k input
  k_may = come_still (r.gone node) setup k input spares whole_may

  k_sent : WasSentBefore (kept_reached cluster inputs).packets input
  k_sent = sent_still r.packets (kept_reached cluster inputs).packets input behind.packets_are sent

  whole_calm : AreCalm cold whole
  whole_calm = calm_too cold (r.kept node) whole (behind.kept_is node) (behind.calm node)

  k_calm : AreCalm cold k
  k_calm = calm_with (r.gone node) cold k whole_calm

  k_suits : Suits setup cold k input
  k_suits = all_suits cluster inputs behind.may node cold k_calm (behind.shut node).1 input k_may k_sent

  whole_suits : Suits setup cold whole input
  whole_suits = suits_of (r.gone node) cold k whole_calm setup input k_suits

  r_suits : Suits setup cold (r.kept node) input
  r_suits = suits_too cold whole (r.kept node) (sym (behind.kept_is node)) setup input whole_suits

  no_start : (lost : ℕ) → input ≡ Restart lost → ⊥
  no_start lost same = subst (Spares (r.gone node)) same spares

  r_keeps : KeepsCalm cold (r.kept node) input
  r_keeps =
      keeps_too cold whole (r.kept node) (sym (behind.kept_is node)) input
      (keeps_of (r.gone node) cold k whole_calm input (all_keep cluster inputs behind.may node cold k_calm input k_sent no_start))

  one : cool_step cold (stepped setup (r.kept node) input) ≡ cool_step cold (step_without (r.gone node) (stepped setup k input))
  one =
      sym (step_cool setup (r.kept node) cold input (behind.calm node) r_suits)
      ∙ (ap (λ (x : Kept). cool_step cold (stepped setup x input)) (behind.kept_is node)
      ∙ (step_cool setup whole cold input whole_calm whole_suits
      ∙ ap (cool_step cold) (step_same setup k (r.gone node) input (behind.rest node) spares)))

  pub gives : (stepped setup (r.kept node) input).outputs ≡ outputs_at cluster inputs (comes_to node input)
  gives = ap (λ (s : Stepped). s.outputs) one

  -- at this node, and at the others
  at_each : (P : ℕ → Kept → Kept → Type 0) → P node (stepped setup (r.kept node) input).kept (stepped setup k input).kept →
      ((other : ℕ) → P other (r.kept other) ((kept_reached cluster inputs).kept other)) → (other : ℕ) →
      P other ((remains_then cluster r (Takes node input)).kept other) ((kept_reached cluster (comes_to node input ∷ inputs)).kept other)
  at_each P here others other = by (other == node) refl
    where
      by : (b : Bool) → (other == node) ≡ b →
          P other (if b then (stepped setup (r.kept node) input).kept else r.kept other)
          (if b then (stepped setup k input).kept else (kept_reached cluster inputs).kept other)
      by true at = subst (λ (n : ℕ). P n (stepped setup (r.kept node) input).kept (stepped setup k input).kept) (sym (eqb-true other node at)) here
      by false at = others other

  pub goes : StandsBehind cluster (comes_to node input ∷ inputs) (remains_then cluster r (Takes node input))
  goes = record {
    may = (is, up_still (r.gone node) k input (up_too cold (r.kept node) whole (behind.kept_is node) input up), k_may, k_sent, behind.may);
    kept_is = at_each (λ n one other. cool (r.cold n) one ≡ cool (r.cold n) (without (r.gone n) other)) (ap (λ (s : Stepped). s.kept) one) behind.kept_is;
    packets_are = λ i. reverse (gives i).packets ++ behind.packets_are i;
    rest = at_each (λ n one other. AreAtRest (r.gone n) other) (step_rests setup k (r.gone node) input (behind.rest node) spares) behind.rest;
    calm = at_each (λ n one other. AreCalm (r.cold n) one) (step_calm setup (r.kept node) cold input (behind.calm node) r_suits r_keeps) behind.calm;
    shut = at_each (λ n one other. AreShut (r.cold n) one × AreShut (r.cold n) other) (
      suits_shut setup (r.kept node) cold input (behind.shut node).0 r_suits,
      suits_shut setup k cold input (behind.shut node).1 k_suits,
    ) behind.shut;
  }
