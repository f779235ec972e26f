-- A node drops a message that is at rest: what stands behind it then.
use Rattle.std.proofs.Common.{◌≡◌, ℕ, Bool, true, false, cond, List, [], ◌∷◌, Some, refl, sym, subst, ap, ◌∙◌}
use Rattle.std.specs.Prelude.{◌==◌, ◌&&◌, ◌||◌, not, if◌then◌else◌}
use Rattle.std.proofs.lemmas.Bool.{eqb-true}
use Rattle.mc_model.specs.cluster.Steps.{Cluster}
use Rattle.mc_model.specs.synod.Acceptor.{blank}
use Rattle.mc_model.specs.synod.Packet.{Slot}
use Rattle.node_laws.specs.Clusters.{NodeInput, kept_reached}
use Rattle.node_model.specs.Granted.{is_open_in}
use Rattle.node_model.specs.Kept.{Kept, message_at}
use Rattle.node_model.specs.Message.{Message, most_places}
use Rattle.node_model.specs.Starts.{follow}
use Rattle.rest_laws.specs.AtRest.{AreAtRest, IsAtRest}
use Rattle.rest_laws.specs.Behind.{StandsBehind}
use Rattle.rest_laws.specs.Cooled.{AreCalm, AreShut, cool, cooled_if}
use Rattle.rest_laws.specs.Remains.{Drops, Remains, and_also, but_for, remains_then}
use Rattle.rest_laws.specs.Without.{without}
use Rattle.rest_laws.proofs.cooled.Entries.{cool_all, cool_entry}
use Rattle.rest_laws.proofs.forgetting.Kept.{message_same, told_same}
use Rattle.rest_laws.proofs.runs.Alike.{message_is, rests_too}
use Rattle.rest_laws.proofs.without.Entries.{dropping, left}

module _ (gone : ℕ → Bool) (id : ℕ) where
  abbrev only : ℕ → Bool
  only other = other == id

  left_more : (es : List (ℕ × Message)) → left only (left gone es) ≡ left (and_also gone id) es
  left_more [] = refl
  left_more (e ∷ es) = by (gone e.0) (left_more es)
    where
      by : (b : Bool) → left only (left gone es) ≡ left (and_also gone id) es →
          left only (cond (not b) (e ∷ left gone es) (left gone es))
          ≡ cond (not (b || (e.0 == id))) (e ∷ left (and_also gone id) es) (left (and_also gone id) es)
      by true rest = rest
      by false rest = λ i. cond (not (e.0 == id)) (e ∷ rest i) (rest i)

  records_more : (k : Kept) → (without only (without gone k)).records ≡ (without (and_also gone id) k).records
  records_more k = λ i slot. each slot i
    where
      each : (slot : Slot) → (without only (without gone k)).records slot ≡ (without (and_also gone id) k).records slot
      each slot = by (gone slot.id) (slot.id == id)
        where
          by : (b c : Bool) → (if c then blank else (if b then blank else k.records slot)) ≡ (if b || c then blank else k.records slot)
          by true true = refl
          by true false = refl
          by false true = refl
          by false false = refl

  without_more : (k : Kept) → without only (without gone k) ≡ without (and_also gone id) k
  without_more k = λ i. record k { records = records_more k i; messages = left_more k.messages i }

  rest_of : (k : Kept) → gone id ≡ false → IsAtRest (without gone k) id → IsAtRest k id
  rest_of k stays old =
      let same = message_same (dropping gone) k id stays in
      record {
        chain = old.chain;
        known = ap (λ (m : Message). m.known) (sym same) ∙ old.known;
        over = old.over;
        round = ap (λ (m : Message). m.round) (sym same) ∙ old.round;
        reached = ap (follow (Some old.chain)) (sym (told_same (dropping gone) k id stays most_places)) ∙ old.reached;
        shut = λ place. ap (λ (m : Message). is_open_in m place) (sym same) ∙ old.shut place;
        unasked = old.unasked;
      }

  -- whether it was gone before or not
  rest_more : (k : Kept) → AreAtRest gone k → IsAtRest (without gone k) id → AreAtRest (and_also gone id) k
  rest_more k old rests = record {
    ascend = old.ascend;
    rest = λ other is. by other (gone other) refl is;
  }
    where
      by : (other : ℕ) (b : Bool) → gone other ≡ b → (b || (other == id)) ≡ true → IsAtRest k other
      by other true was is = old.rest other was
      by other false was is =
          let same : other ≡ id = eqb-true other id is in
          subst (IsAtRest k) (sym same) (rest_of k (subst (λ (i : ℕ). gone i ≡ false) same was) rests)

-- ---- what is cold, and not dropped

module _ (cold : ℕ → Bool) (id : ℕ) where
  abbrev one : ℕ → Bool
  one other = other == id

  cool_left : (es : List (ℕ × Message)) → cool_all (but_for cold id) (left one es) ≡ left one (cool_all cold es)
  cool_left [] = refl
  cool_left (e ∷ es) = by (e.0 == id) refl (cool_left es)
    where
      also : (b : Bool) → (b && true) ≡ b
      also true = refl
      also false = refl

      by : (b : Bool) → (e.0 == id) ≡ b → cool_all (but_for cold id) (left one es) ≡ left one (cool_all cold es) →
          cool_all (but_for cold id) (cond (not b) (e ∷ left one es) (left one es))
          ≡ cond (not b) (cool_entry cold e ∷ left one (cool_all cold es)) (left one (cool_all cold es))
      by true same rest = rest
      by false differs rest =
          λ i. (e.0, cooled_if (((λ j. cold e.0 && not (differs j)) ∙ also (cold e.0)) i) e.1) ∷ rest i

  cool_without : (k : Kept) → cool (but_for cold id) (without one k) ≡ without one (cool cold k)
  cool_without k = λ i. record (without one k) { messages = cool_left k.messages i }

  was_cold : (other : ℕ) → but_for cold id other ≡ true → cold other ≡ true
  was_cold other is = by (cold other) refl is
    where
      by : (b : Bool) → cold other ≡ b → (b && not (other == id)) ≡ true → b ≡ true
      by true same both = refl
      by false same both = absurd (cc)

  not_it : (other : ℕ) → but_for cold id other ≡ true → (other == id) ≡ false
  not_it other is = by (cold other) (other == id) is
    where
      by : (b c : Bool) → (b && not c) ≡ true → c ≡ false
      by b false both = refl
      by true true both = absurd (cc)
      by false true both = absurd (cc)

  calm_left : (k : Kept) → AreCalm cold k → AreCalm (but_for cold id) (without one k)
  calm_left k calm other is =
      let old = calm other (was_cold other is) in
      let same = message_same (dropping one) k other (not_it other is) in
      record {
        chain = old.chain;
        known = ap (λ (m : Message). m.known) same ∙ old.known;
        over = old.over;
        round = ap (λ (m : Message). m.round) same ∙ old.round;
        reached = ap (follow (Some old.chain)) (told_same (dropping one) k other (not_it other is) most_places) ∙ old.reached;
        asking = old.asking;
        told = old.told;
      }

  shut_left : (k : Kept) → AreShut cold k → AreShut (but_for cold id) (without one k)
  shut_left k shut other is place =
      ap (λ (m : Message). is_open_in m place) (message_same (dropping one) k other (not_it other is)) ∙ shut other (was_cold other is) place

-- ---- all together

module _ (cluster : Cluster) (inputs : List NodeInput) (r : Remains) (node id : ℕ) (behind : StandsBehind cluster inputs r)
    (rests : IsAtRest (r.kept node) id) where
  abbrev k : Kept
  k = (kept_reached cluster inputs).kept node

  abbrev whole : Kept
  whole = without (r.gone node) k

  abbrev cold : ℕ → Bool
  cold = r.cold node

  -- no attempt of it is open in the run: it is cold and shut, or it was not forgotten, or it is gone
  rests_there : AreAtRest (and_also (r.gone node) id) k
  rests_there = by (r.gone node id) refl
    where
      shut_there : r.gone node id ≡ false → (place : ℕ) → is_open_in (message_at whole id) place ≡ false
      shut_there stays place = at (cold id) refl
        where
          at : (b : Bool) → cold id ≡ b → is_open_in (message_at whole id) place ≡ false
          at true is = ap (λ (m : Message). is_open_in m place) (message_same (dropping (r.gone node)) k id stays) ∙ (behind.shut node).1 id is place
          at false warm =
              ap (λ (m : Message). is_open_in m place) (sym (message_is cold (r.kept node) whole (behind.kept_is node) id warm)) ∙ rests.shut place

      by : (b : Bool) → r.gone node id ≡ b → AreAtRest (and_also (r.gone node) id) k
      by true was = record {
        ascend = (behind.rest node).ascend;
        rest = λ other is. among other (r.gone node other) refl is;
      }
        where
          among : (other : ℕ) (b : Bool) → r.gone node other ≡ b → (b || (other == id)) ≡ true → IsAtRest k other
          among other true gone is = (behind.rest node).rest other gone
          among other false stays is =
              let same : other ≡ id = eqb-true other id is in
              (behind.rest node).rest other (subst (λ (i : ℕ). r.gone node i ≡ true) (sym same) was)
      by false stays =
          rest_more (r.gone node) id k (behind.rest node) (rests_too cold (r.kept node) whole (behind.kept_is node) id (shut_there stays) rests)

  kept_there : cool (but_for cold id) (without (λ other. other == id) (r.kept node)) ≡ cool (but_for cold id) (without (and_also (r.gone node) id) k)
  kept_there =
      cool_without cold id (r.kept node)
      ∙ (ap (without (λ other. other == id)) (behind.kept_is node)
      ∙ (sym (cool_without cold id whole) ∙ ap (cool (but_for cold id)) (without_more (r.gone node) id k)))

  pub drops : StandsBehind cluster inputs (remains_then cluster r (Drops node id))
  drops = record {
    may = behind.may;
    kept_is = λ other. kept_of other (other == node) refl;
    packets_are = behind.packets_are;
    rest = λ other. rest_at other (other == node) refl;
    calm = λ other. calm_at other (other == node) refl;
    shut = λ other. shut_at other (other == node) refl;
  }
    where
      kept_of : (other : ℕ) (b : Bool) → (other == node) ≡ b →
          cool (if b then but_for cold id else r.cold other) (if b then without (λ i. i == id) (r.kept node) else r.kept other)
          ≡ cool (if b then but_for cold id else r.cold other)
          (without (if b then and_also (r.gone node) id else r.gone other) ((kept_reached cluster inputs).kept other))
      kept_of other true at =
          subst (λ (n : ℕ). cool (but_for cold id) (without (λ i. i == id) (r.kept node))
          ≡ cool (but_for cold id) (without (and_also (r.gone node) id) ((kept_reached cluster inputs).kept n))) (sym (eqb-true other node at)) kept_there
      kept_of other false at = behind.kept_is other

      rest_at : (other : ℕ) (b : Bool) → (other == node) ≡ b →
          AreAtRest (if b then and_also (r.gone node) id else r.gone other) ((kept_reached cluster inputs).kept other)
      rest_at other true at =
          subst (λ (n : ℕ). AreAtRest (and_also (r.gone node) id) ((kept_reached cluster inputs).kept n)) (sym (eqb-true other node at)) rests_there
      rest_at other false at = behind.rest other

      calm_at : (other : ℕ) (b : Bool) → (other == node) ≡ b →
          AreCalm (if b then but_for cold id else r.cold other) (if b then without (λ i. i == id) (r.kept node) else r.kept other)
      calm_at other true at = calm_left cold id (r.kept node) (behind.calm node)
      calm_at other false at = behind.calm other

      shut_at : (other : ℕ) (b : Bool) → (other == node) ≡ b →
          AreShut (if b then but_for cold id else r.cold other) (if b then without (λ i. i == id) (r.kept node) else r.kept other)
          × AreShut (if b then but_for cold id else r.cold other) ((kept_reached cluster inputs).kept other)
      shut_at other true at = (
        shut_left cold id (r.kept node) (behind.shut node).0,
        subst (λ (n : ℕ). AreShut (but_for cold id) ((kept_reached cluster inputs).kept n)) (sym (eqb-true other node at))
            (λ i is place. (behind.shut node).1 i (was_cold cold id i is) place),
      )
      shut_at other false at = behind.shut other
