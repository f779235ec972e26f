-- Which packets came to which nodes: a packet comes to one more.
use Rattle.std.proofs.Common.{◌≡◌, ℕ, zero, suc, ◌+◌, ◌-◌, ◌<◌, ◌≤◌, Bool, true, false, List, [], ◌∷◌, ◌++◌, length, Option, Some}
use Rattle.std.proofs.Common.{None, refl, sym, ap, ◌∙◌, arith, length-append}
use Rattle.std.proofs.lemmas.Bool.{eq-eqb, eqb-false, eqb-true, ne_eqb, or_right}
use Rattle.std.specs.Prelude.{pred, ◌==◌, ◌&&◌, ◌||◌, slice_get, slice_index_or, slice_set}
use Rattle.mc_types.specs.Nodes.{has}
use Rattle.sim_net.specs.Network.{numbered}
use Rattle.script_runner.specs.Arrivals.{AreMarked, Came, is_among}
use Rattle.script_runner.specs.Arrivals.{came_in as came_by}

abbrev came_in : List ℕ → ℕ → ℕ → Bool
came_in sets number node = is_among (numbered sets number) node

none_at : (place : ℕ) → slice_get {X = ℕ} [] place ≡ None
none_at zero = refl
none_at (suc place) = refl

-- ---- a place more

-- a packet that has a place but came to no node
more_place : (sets : List ℕ) (empty place node : ℕ) → has empty node ≡ false →
    is_among (slice_get (sets ++ empty ∷ []) place) node ≡ is_among (slice_get sets place) node
more_place [] empty zero node none = none
more_place [] empty (suc place) node none = ap (λ (found : Option ℕ). is_among found node) (none_at place)
more_place (first ∷ sets) empty zero node none = refl
more_place (first ∷ sets) empty (suc place) node none = more_place sets empty place node none

pub one_more : (sets : List ℕ) (empty number node : ℕ) → has empty node ≡ false → came_in (sets ++ empty ∷ []) number node ≡ came_in sets number node
one_more sets empty zero node none = refl
one_more sets empty (suc place) node none = more_place sets empty place node none

pub nearer : (sets after : List ℕ) (empty number : ℕ) → length sets < number → after ≡ sets ++ empty ∷ [] → number - length after < number - length sets
nearer sets after empty number below is =
    let longer : length after ≡ length sets + 1 = ap length is ∙ length-append sets (empty ∷ []) in
    omega (arith, below, longer)

-- ---- what stands at a place

pub place_of : (number count : ℕ) → 1 ≤ number → number ≤ count → number - 1 < count
place_of number count least most = omega (arith, least, most)

pub at_index : (sets : List ℕ) (place other : ℕ) → place < length sets → slice_get sets place ≡ Some (slice_index_or sets place other)
at_index [] place other below = absurd (omega (arith, below))
at_index (first ∷ sets) zero other below = refl
at_index (first ∷ sets) (suc place) other below = at_index sets place other (omega (arith, below))

-- ---- one comes

either : (one other : Bool) → (one || other) ≡ (other || one)
either true true = refl
either true false = refl
either false true = refl
either false false = refl

same_after : (k place : ℕ) → (suc k == suc place) ≡ (k == place)
same_after k place = by_test (k == place) refl
  where
    by_test : (same : Bool) → (k == place) ≡ same → (suc k == suc place) ≡ same
    by_test true is = eq-eqb (suc k) (suc place) (ap suc (eqb-true k place is))
    by_test false is = ne_eqb (suc k) (suc place) (λ same. eqb-false k place is (ap pred same))

set_at : (sets : List ℕ) (place k was now node at : ℕ) → slice_get sets place ≡ Some was → ((other : ℕ) → has now other ≡ (has was other || other == node)) →
    is_among (slice_get (slice_set sets place now) k) at ≡ ((k == place && at == node) || is_among (slice_get sets k) at)
set_at [] place k was now node at found is = absurd (let none = sym (none_at place) ∙ found in cc)
set_at (first ∷ sets) zero zero was now node at found is =
    let same : first ≡ was = cc in
    is at ∙ either (has was at) (at == node) ∙ ap (λ (set : ℕ). (at == node) || has set at) (sym same)
set_at (first ∷ sets) zero (suc k) was now node at found is =
    sym (ap (λ (same : Bool). (same && at == node) || is_among (slice_get sets k) at) (ne_eqb (suc k) zero (λ same. omega (arith, same))))
set_at (first ∷ sets) (suc place) zero was now node at found is =
    sym (ap (λ (same : Bool). (same && at == node) || has first at) (ne_eqb zero (suc place) (λ same. omega (arith, same))))
set_at (first ∷ sets) (suc place) (suc k) was now node at found is =
    set_at sets place k was now node at found is
    ∙ ap (λ (same : Bool). (same && at == node) || is_among (slice_get sets k) at) (sym (same_after k place))

pub one_came : (sets : List ℕ) (place was now node number at : ℕ) → slice_get sets place ≡ Some was →
    ((other : ℕ) → has now other ≡ (has was other || other == node)) →
    came_in (slice_set sets place now) number at ≡ ((number == suc place && at == node) || came_in sets number at)
one_came sets place was now node zero at found is =
    sym (ap (λ (same : Bool). (same && at == node) || false) (ne_eqb zero (suc place) (λ same. omega (arith, same))))
one_came sets place was now node (suc k) at found is =
    set_at sets place k was now node at found is
    ∙ ap (λ (same : Bool). (same && at == node) || is_among (slice_get sets k) at) (sym (same_after k place))

-- ---- the packets up to a mark

pub still_marked : (sets : List ℕ) (place was now node : ℕ) (marks : List ℕ) → slice_get sets place ≡ Some was →
    ((other : ℕ) → has now other ≡ (has was other || other == node)) → AreMarked sets marks → AreMarked (slice_set sets place now) marks
still_marked sets place was now node marks found is marked at first number least most =
    one_came sets place was now node number at found is ∙ or_right (number == suc place && at == node) (came_in sets number at)
    (marked at first number least most)

pub longer_marked : (sets : List ℕ) (empty : ℕ) (marks : List ℕ) → ((node : ℕ) → has empty node ≡ false) → AreMarked sets marks →
    AreMarked (sets ++ empty ∷ []) marks
longer_marked sets empty marks none marked at first number least most = one_more sets empty number at (none at) ∙ marked at first number least most

-- ---- while places are made

-- the same packets came to the same nodes, and no place is gone
pub record IsSame (sets marks : List ℕ) (was : Came) : Type 0 where
  pub came : (number node : ℕ) → came_in sets number node ≡ came_by was number node
  pub marked : AreMarked sets marks
  pub kept : length was.sets ≤ length sets
