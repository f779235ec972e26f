-- A node forgets what it heard of a message that is calm: what stands behind it then.
use Rattle.std.proofs.Common.{◌≡◌, ℕ, Bool, true, false, List, refl, sym, subst, ap, ◌∙◌}
use Rattle.std.specs.Prelude.{◌==◌, ◌||◌, if◌then◌else◌}
use Rattle.std.proofs.lemmas.Bool.{eq-eqb, eqb-true}
use Rattle.mc_model.specs.cluster.Steps.{Cluster}
use Rattle.node_laws.specs.Clusters.{NodeInput, kept_reached}
use Rattle.node_model.specs.Granted.{is_open_in}
use Rattle.node_model.specs.Kept.{Kept, message_at}
use Rattle.node_model.specs.Message.{Message}
use Rattle.rest_laws.specs.Behind.{StandsBehind}
use Rattle.rest_laws.specs.Cooled.{AreCalm, AreShut, IsCalm, cool, cooled_if}
use Rattle.rest_laws.specs.Remains.{Cools, Remains, and_also, remains_then}
use Rattle.rest_laws.specs.Without.{without}
use Rattle.rest_laws.proofs.cooled.Entries.{cool_more, message_cool}
use Rattle.rest_laws.proofs.runs.Alike.{calm_too, message_is}
use Rattle.rest_laws.proofs.runs.Stepping.{same_there}

covers_some : (some : ℕ → Bool) (id other : ℕ) → some other ≡ true → and_also some id other ≡ true
covers_some some id other is = ap (λ (b : Bool). b || (other == id)) is

covers_one : (some : ℕ → Bool) (id other : ℕ) → (other == id) ≡ true → and_also some id other ≡ true
covers_one some id other is = by (some other)
  where
    by : (b : Bool) → (b || (other == id)) ≡ true
    by true = refl
    by false = is

-- ---- it is as calm and as shut

calm_cooled : (cold : ℕ → Bool) (id : ℕ) (k : Kept) → AreCalm cold k → IsCalm k id → AreCalm (and_also cold id) k
calm_cooled cold id k calm it other is = by (cold other) refl is
  where
    by : (b : Bool) → cold other ≡ b → (b || (other == id)) ≡ true → IsCalm k other
    by true was also = calm other was
    by false was also = subst (IsCalm k) (sym (eqb-true other id also)) it

shut_also : (cold : ℕ → Bool) (id : ℕ) (k : Kept) → AreShut cold k → ((place : ℕ) → is_open_in (message_at k id) place ≡ false) → AreShut (and_also cold id) k
shut_also cold id k shut it other is place = by (cold other) refl is
  where
    by : (b : Bool) → cold other ≡ b → (b || (other == id)) ≡ true → is_open_in (message_at k other) place ≡ false
    by true was also = shut other was place
    by false was also = subst (λ (i : ℕ). is_open_in (message_at k i) place ≡ false) (sym (eqb-true other id also)) (it place)

-- whatever was forgotten
shut_cooled : (low cold : ℕ → Bool) (k : Kept) → AreShut cold k → AreShut cold (cool low k)
shut_cooled low cold k shut other is place =
    ap (λ (m : Message). is_open_in m place) (message_cool low k other) ∙ by (low other)
  where
    by : (b : Bool) → is_open_in (cooled_if b (message_at k other)) place ≡ false
    by true = refl
    by false = shut other is place

module _ (cluster : Cluster) (inputs : List NodeInput) (r : Remains) (node id : ℕ) (behind : StandsBehind cluster inputs r)
    (it : IsCalm (r.kept node) id) (closed : (place : ℕ) → is_open_in (message_at (r.kept node) id) place ≡ false) where
  abbrev k : Kept
  k = (kept_reached cluster inputs).kept node

  abbrev whole : Kept
  whole = without (r.gone node) k

  abbrev cold : ℕ → Bool
  cold = r.cold node

  abbrev one : ℕ → Bool
  one other = other == id

  abbrev now : Kept
  now = cool one (r.kept node)

  kept_there : cool (and_also cold id) now ≡ cool (and_also cold id) whole
  kept_there =
      cool_more one (and_also cold id) (covers_one cold id) (r.kept node)
      ∙ (sym (cool_more cold (and_also cold id) (covers_some cold id) (r.kept node))
      ∙ (ap (cool (and_also cold id)) (behind.kept_is node) ∙ cool_more cold (and_also cold id) (covers_some cold id) whole))

  calm_now : AreCalm (and_also cold id) now
  calm_now =
      calm_too (and_also cold id) (r.kept node) now (sym (cool_more one (and_also cold id) (covers_one cold id) (r.kept node)))
      (calm_cooled cold id (r.kept node) (behind.calm node) it)

  shut_now : AreShut (and_also cold id) now
  shut_now = shut_cooled one (and_also cold id) (r.kept node) (shut_also cold id (r.kept node) (behind.shut node).0 closed)

  -- in the run it is shut too
  shut_there : AreShut (and_also cold id) k
  shut_there = shut_also cold id k (behind.shut node).1 (λ place. by (cold id) refl place)
    where
      by : (b : Bool) → cold id ≡ b → (place : ℕ) → is_open_in (message_at k id) place ≡ false
      by true is place = (behind.shut node).1 id is place
      by false warm place =
          let calm = calm_too (and_also cold id) now whole kept_there calm_now in
          ap (λ (m : Message). is_open_in m place)
          (sym (same_there (r.gone node) (and_also cold id) k calm id (covers_one cold id id self))
          ∙ sym (message_is cold (r.kept node) whole (behind.kept_is node) id warm)) ∙ closed place
        where
          self : (id == id) ≡ true
          self = eq-eqb id id refl

  pub cools : StandsBehind cluster inputs (remains_then cluster r (Cools node id))
  cools = record {
    may = behind.may;
    kept_is = λ other. kept_of other (other == node) refl;
    packets_are = behind.packets_are;
    rest = behind.rest;
    calm = λ other. calm_at other (other == node) refl;
    shut = λ other. shut_at other (other == node) refl;
  }
    where
      kept_of : (other : ℕ) (b : Bool) → (other == node) ≡ b →
          cool (if b then and_also cold id else r.cold other) (if b then now else r.kept other)
          ≡ cool (if b then and_also cold id else r.cold other) (without (r.gone other) ((kept_reached cluster inputs).kept other))
      kept_of other true at =
          subst (λ (n : ℕ). cool (and_also cold id) now ≡ cool (and_also cold id) (without (r.gone n) ((kept_reached cluster inputs).kept n)))
          (sym (eqb-true other node at)) kept_there
      kept_of other false at = behind.kept_is other

      calm_at : (other : ℕ) (b : Bool) → (other == node) ≡ b → AreCalm (if b then and_also cold id else r.cold other) (if b then now else r.kept other)
      calm_at other true at = calm_now
      calm_at other false at = behind.calm other

      shut_at : (other : ℕ) (b : Bool) → (other == node) ≡ b →
          AreShut (if b then and_also cold id else r.cold other) (if b then now else r.kept other)
          × AreShut (if b then and_also cold id else r.cold other) ((kept_reached cluster inputs).kept other)
      shut_at other true at = (
        shut_now,
        subst (λ (n : ℕ). AreShut (and_also cold id) ((kept_reached cluster inputs).kept n)) (sym (eqb-true other node at)) shut_there,
      )
      shut_at other false at = behind.shut other
