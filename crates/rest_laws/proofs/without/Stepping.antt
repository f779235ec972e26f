-- A step of a node that did without what is at rest is that of one that did not; and what is gone stays at rest.
use Rattle.std.proofs.Common.{◌≡◌, ℕ, max, Bool, true, false, cond, List, [], ◌∷◌, filter, map, refl, sym, subst, ap, ◌∙◌, None, inl, inr}
use Rattle.std.specs.Prelude.{not, if◌then◌else◌}
use Rattle.std.specs.Map.{keys_of}
use Rattle.std.specs.Ordering.{nat_cmp}
use Rattle.std.specs.BTreeSet.{insert_key}
use Rattle.mc_model.specs.node.Input.{Arrival, Crash, Delivery, Grant, Input, Refusal, Response, Restart, Tick}
use Rattle.mc_model.specs.node.Reach.{Reach}
use Rattle.mc_model.specs.node.Setup.{Setup}
use Rattle.mc_model.specs.synod.Lists.{In}
use Rattle.node_model.specs.Kept.{Held, Kept}
use Rattle.node_model.specs.Message.{Message}
use Rattle.node_model.specs.Outputs.{Stepped, leaves}
use Rattle.node_model.specs.Proposer.{Prepared}
use Rattle.node_model.specs.Requests.{id_of}
use Rattle.node_model.specs.Rules.{first_rule}
use Rattle.node_model.specs.Stepped.{stepped, stepped_down, stepped_up}
use Rattle.node_model.specs.Ticks.{and_then, ids_of, ids_with, is_late, late_reply, on_tick, ruled, ruled_each, rules_then, tick_then, ticked, without_round}
use Rattle.node_laws.specs.Runs.{kept_after}
use Rattle.rest_laws.specs.AtRest.{AreAtRest}
use Rattle.rest_laws.specs.Without.{AllSpare, DoesWithout, Spares, step_without, without}
use Rattle.rest_laws.proofs.forgetting.Kept.{less_prepared}
use Rattle.rest_laws.proofs.forgetting.Others.{arrival_same, grant_same, response_same, stopped_same}
use Rattle.rest_laws.proofs.forgetting.Packets.{packet_same}
use Rattle.rest_laws.proofs.forgetting.Rules.{first_same, ruled_same}
use Rattle.rest_laws.proofs.forgetting.Staying.{one_of, ruled_stays}
use Rattle.rest_laws.proofs.without.Entries.{Ascend, dropping, key_left, keys_ascend, left, left_ids, left_keys}
use Rattle.rest_laws.proofs.without.Resting.{no_rule}
use Rattle.rest_laws.proofs.without.Staying.{down_stays, not_asked, rests_staying, ticked_rests, up_stays}

ids_ascend : (held : List Held) (ids : List ℕ) → Ascend ids → Ascend (ids_with held ids)
ids_ascend [] ids ascend = ascend
ids_ascend (h ∷ others) ids ascend = keys_ascend (ids_with others ids) (id_of h) (ids_ascend others ids ascend)

module _ (gone : ℕ → Bool) where
  -- ---- a tick goes by what is gone

  with_left : (held : List Held) (ids : List ℕ) → Ascend ids → ((h : Held) → In h held → gone (id_of h) ≡ false) →
      ids_with held (left_ids gone ids) ≡ left_ids gone (ids_with held ids)
  with_left [] ids ascend asked = refl
  with_left (h ∷ others) ids ascend asked =
      ap (λ (l : List ℕ). insert_key nat_cmp l (id_of h)) (with_left others ids ascend (λ other among. asked other (inr among)))
      ∙ sym (key_left gone (ids_with others ids) (id_of h) (ids_ascend others ids ascend) (asked h (inl refl)))

  ids_left : (k : Kept) → AreAtRest gone k → ids_of (without gone k) ≡ left_ids gone (ids_of k)
  ids_left k rests = ap (ids_with k.held) (left_keys gone k.messages) ∙ with_left k.held (keys_of k.messages) rests.ascend (not_asked gone k rests)

  abbrev prepared_without : Prepared → Prepared
  prepared_without p = less_prepared (dropping gone) p

  each_same : (setup : Setup) (reach : Reach) (ids : List ℕ) (k : Kept) → AreAtRest gone k →
      (ruled_each setup reach (left_ids gone ids) (without gone k) ≡ prepared_without (ruled_each setup reach ids k))
      × AreAtRest gone (ruled_each setup reach ids k).kept
  each_same setup reach [] k rests = (refl, rests)
  each_same setup reach (id ∷ others) k rests =
      by (gone id) refl (each_same setup reach others (ruled setup k id (first_rule setup k reach id)).kept) (each_same setup reach others k rests)
    where
      by : (b : Bool) → gone id ≡ b →
          (AreAtRest gone (ruled setup k id (first_rule setup k reach id)).kept →
          (ruled_each setup reach (left_ids gone others) (without gone (ruled setup k id (first_rule setup k reach id)).kept)
          ≡ prepared_without (ruled_each setup reach others (ruled setup k id (first_rule setup k reach id)).kept))
          × AreAtRest gone (ruled_each setup reach others (ruled setup k id (first_rule setup k reach id)).kept).kept) →
          ((ruled_each setup reach (left_ids gone others) (without gone k) ≡ prepared_without (ruled_each setup reach others k))
          × AreAtRest gone (ruled_each setup reach others k).kept) →
          (ruled_each setup reach (cond (not b) (id ∷ left_ids gone others) (left_ids gone others)) (without gone k)
          ≡ prepared_without (ruled_each setup reach (id ∷ others) k))
          × AreAtRest gone (ruled_each setup reach (id ∷ others) k).kept
      by true is later now =
          let none : first_rule setup k reach id ≡ None = no_rule setup k reach id (rests.rest id is) in
          let passes : ruled_each setup reach others k ≡ ruled_each setup reach (id ∷ others) k =
          λ i. and_then (ruled setup k id (sym none i)) (ruled_each setup reach others (ruled setup k id (sym none i)).kept) in
          (now.0 ∙ ap prepared_without passes, subst (λ (p : Prepared). AreAtRest gone p.kept) passes now.1)
      by false is later now =
          let first : ruled setup (without gone k) id (first_rule setup (without gone k) reach id)
          ≡ prepared_without (ruled setup k id (first_rule setup k reach id)) =
          ap (ruled setup (without gone k) id) (first_same (dropping gone) setup k reach id is)
          ∙ ruled_same (dropping gone) setup k id (first_rule setup k reach id) rests.ascend is in
          let rest = later (ruled_stays gone (AreAtRest gone) (rests_staying gone) setup k id (first_rule setup k reach id) is rests) in (
            (λ i. and_then (first i) (ruled_each setup reach (left_ids gone others) (first i).kept))
                ∙ (λ i. and_then (prepared_without (ruled setup k id (first_rule setup k reach id))) (rest.0 i)),
            rest.1,
          )

  ticked_left : (es : List (ℕ × Message)) → map without_round (left gone es) ≡ left gone (map without_round es)
  ticked_left [] = refl
  ticked_left (e ∷ es) = by (not (gone e.0)) (ticked_left es)
    where
      by : (b : Bool) → map without_round (left gone es) ≡ left gone (map without_round es) →
          map without_round (cond b (e ∷ left gone es) (left gone es))
          ≡ cond b (without_round e ∷ left gone (map without_round es)) (left gone (map without_round es))
      by true rest = ap (λ (l : List (ℕ × Message)). without_round e ∷ l) rest
      by false rest = rest

  ticked_same : (k : Kept) (clock : ℕ) → ticked (without gone k) clock ≡ without gone (ticked k clock)
  ticked_same k clock = λ i. record (without gone (ticked k clock)) { messages = ticked_left k.messages i }

  tick_same : (setup : Setup) (k : Kept) (moment : ℕ) (reach : Reach) → AreAtRest gone k →
      on_tick setup (without gone k) moment reach ≡ step_without gone (on_tick setup k moment reach)
  tick_same setup k moment reach rests =
      let clock : ℕ = max k.clock moment in
      let late = map late_reply (filter (is_late clock) k.held) in
      let still = ticked_rests gone k clock rests in
      let each = each_same setup reach (ids_of (ticked k clock)) (ticked k clock) still in
      (λ i. tick_then setup (ticked_same k clock i) reach late)
      ∙ ((λ i. rules_then setup (without gone (ticked k clock)) late
      (ruled_each setup reach (ids_left (ticked k clock) still i) (without gone (ticked k clock))))
      ∙ (λ i. rules_then setup (without gone (ticked k clock)) late (each.0 i)))

  -- ---- whatever comes that is not about it

  up_same : (setup : Setup) (k : Kept) (input : Input) → AreAtRest gone k → Spares gone input →
      stepped_up setup (without gone k) input ≡ step_without gone (stepped_up setup k input)
  up_same setup k (Delivery packet) rests spares = packet_same (dropping gone) setup k packet rests.ascend (not_asked gone k rests) spares
  up_same setup k (Crash packet after) rests spares = λ i. leaves (stopped_same (dropping gone) setup k packet after rests.ascend spares i)
  up_same setup k (Arrival request) rests spares = arrival_same (dropping gone) setup k request rests.ascend spares
  up_same setup k (Refusal status) rests spares = refl
  up_same setup k (Tick moment reach) rests spares = tick_same setup k moment reach rests
  up_same setup k (Grant slot) rests spares = grant_same (dropping gone) k slot rests.ascend spares
  up_same setup k (Response slot outcome) rests spares = response_same (dropping gone) setup k slot outcome rests.ascend spares
  up_same setup k (Restart lost) rests spares = absurd spares

  down_same : (setup : Setup) (k : Kept) (input : Input) → Spares gone input →
      stepped_down setup (without gone k) input ≡ step_without gone (stepped_down setup k input)
  down_same setup k (Delivery packet) spares = refl
  down_same setup k (Crash packet after) spares = refl
  down_same setup k (Arrival request) spares = refl
  down_same setup k (Refusal status) spares = refl
  down_same setup k (Tick moment reach) spares = refl
  down_same setup k (Grant slot) spares = refl
  down_same setup k (Response slot outcome) spares = refl
  down_same setup k (Restart lost) spares = absurd spares

pub step_same : (setup : Setup) (k : Kept) (gone : ℕ → Bool) (input : Input) → AreAtRest gone k → Spares gone input →
    stepped setup (without gone k) input ≡ step_without gone (stepped setup k input)
step_same setup k gone input rests spares = by k.up
  where
    by : (b : Bool) →
        (if b then stepped_up setup (without gone k) input else stepped_down setup (without gone k) input)
        ≡ step_without gone (if b then stepped_up setup k input else stepped_down setup k input)
    by true = up_same gone setup k input rests spares
    by false = down_same gone setup k input spares

pub step_rests : (setup : Setup) (k : Kept) (gone : ℕ → Bool) (input : Input) → AreAtRest gone k → Spares gone input →
    AreAtRest gone (stepped setup k input).kept
step_rests setup k gone input rests spares =
    one_of gone (AreAtRest gone) (rests_staying gone) k.up (stepped_up setup k input) (stepped_down setup k input)
    (up_stays gone setup k input
    (λ moment reach. (each_same gone setup reach (ids_of (ticked k (max k.clock moment))) (ticked k (max k.clock moment))
    (ticked_rests gone k (max k.clock moment) rests)).1) spares rests)
    (down_stays gone setup k input spares rests)

-- ---- a run

pub run_same : (setup : Setup) (gone : ℕ → Bool) (k : Kept) (inputs : List Input) → AreAtRest gone k → AllSpare gone inputs → DoesWithout setup gone k inputs
run_same setup gone k [] rests spare = record { kept = refl; given = refl; rest = rests }
run_same setup gone k (newest ∷ older) rests spare =
    let before = run_same setup gone k older rests spare.1 in
    let one : stepped setup (kept_after setup (without gone k) older) newest ≡ step_without gone (stepped setup (kept_after setup k older) newest) =
    ap (λ (x : Kept). stepped setup x newest) before.kept ∙ step_same setup (kept_after setup k older) gone newest before.rest spare.0 in
    record {
      kept = ap (λ (s : Stepped). s.kept) one;
      given = λ i. (one i).outputs ∷ before.given i;
      rest = step_rests setup (kept_after setup k older) gone newest before.rest spare.0;
    }
