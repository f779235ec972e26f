-- Packets come again to all nodes that are up.
use Rattle.std.proofs.Common.{◌≡◌, ◌⊎◌, ℕ, zero, suc, ◌+◌, ◌-◌, ◌<◌, ◌≤◌, true, false, Bool, List, ◌++◌, Option, Some, None, length, refl, sym, ap, subst, ◌∙◌}
use Rattle.std.proofs.Common.{inl, inr, arith}
use Rattle.std.specs.Prelude.{slice_get, if◌then◌else◌}
use Rattle.std.specs.List.{range_with_len}
use Rattle.std.proofs.lemmas.Bool.{true≢false}
use Rattle.std.proofs.lemmas.List.{append-nil}
use Rattle.std.proofs.lemmas.Option.{slice_get_within}
use Rattle.world.specs.Scenes.{is_up_in}
use Rattle.script_text.specs.Left.{followed_by, rests}
use Rattle.script_text.specs.Runner.{Runner}
use Rattle.script_text.specs.Prints.{world_text}
use Rattle.script_text.specs.World.{Moved, World, comes, comes_again, comes_to, is_up_at, node_numbers, runner_at}
use Rattle.script_runner.specs.Centres.{Does, IsMoved, IsWorld}
use Rattle.script_runner.specs.declared.centre.Centre.{Centre}
use Rattle.script_runner.proofs.Following.{IsLeft, again_moved, all_done, one_done, to_all_of, to_next}
use Rattle.script_runner.proofs.Moving.{ups}
use Rattle.script_runner.proofs.Settling.{nodes_stay}

-- the packet of a number comes to the nodes behind the first so many
abbrev pub from : ℕ → ℕ → World → Moved
from number place w = comes_to number (range_with_len (1 + place) (length w.runners - place)) w

-- what is still to be done of a packet that comes to all nodes
abbrev pub IsComing : ℕ → ℕ → Centre → Centre → List ℕ → List ℕ → Type 0
IsComing number place old now before text =
    (w : World) → IsWorld old w → IsLeft (comes_to number (node_numbers w) w) (from number place) now before text

pub begins : (number : ℕ) (old : Centre) (before : List ℕ) → IsComing number 0 old old before before
begins number old before w is =
    let all : length w.runners - 0 ≡ length w.runners = omega arith in
    let same : from number 0 w ≡ comes_to number (node_numbers w) w = ap (λ (n : ℕ). comes_to number (range_with_len 1 n) w) all in
    record {
      world = w;
      is = is;
      next = ap (λ (m : Moved). m.next) same;
      written = ap (λ (m : Moved). before ++ world_text m.prints) same;
    }

-- ---- one node after another

again_count : (w : World) (number node : ℕ) → length (comes_again w number node).next.runners ≡ length w.runners
again_count w number node = by_test (is_up_at (runner_at w node))
  where
    by_test : (b : Bool) → length (if b then comes w number node else rests w).next.runners ≡ length w.runners
    by_test true = nodes_stay w number node
    by_test false = refl

one_further : (number place : ℕ) (w : World) → place < length w.runners
    → from number place w ≡ followed_by (comes_again w number (1 + place)) (from number (place + 1) (comes_again w number (1 + place)).next)
one_further number place w within =
    let count = length w.runners in
    let rest : count - place ≡ suc (count - (place + 1)) = omega (arith, within) in
    let start : (1 + place) + 1 ≡ 1 + (place + 1) = omega arith in
    let again = comes_again w number (1 + place) in
    to_next number (1 + place) (count - place) (count - (place + 1)) w rest
    ∙ (λ i. followed_by again (comes_to number (range_with_len (start i) (sym (again_count w number (1 + place)) i - (place + 1))) again.next))

none_further : (number place : ℕ) (w : World) → length w.runners ≤ place → from number place w ≡ from number (place + 1) w
none_further number place w past =
    to_all_of number (1 + place) (length w.runners - place) w (omega (arith, past))
    ∙ sym (to_all_of number (1 + (place + 1)) (length w.runners - (place + 1)) w (omega (arith, past)))

pub up_there : (centre : Centre) (w : World) (node place : ℕ) (b : Bool) → IsWorld centre w → node ≡ place + 1 → is_up_in centre.world node ≡ b
    → is_up_at (runner_at w (1 + place)) ≡ b
up_there centre w node place b is same up =
    let number : 1 + place ≡ suc place = omega arith in
    let node_is : node ≡ suc place = omega (arith, same) in
    ap (λ (n : ℕ). is_up_at (runner_at w n)) number ∙ sym (ups centre w place is) ∙ ap (is_up_in centre.world) (sym node_is) ∙ up

up_within : (runners : List Runner) (place : ℕ) → is_up_at (slice_get runners place) ≡ true → place < length runners
up_within runners place up = by_runner (slice_get runners place) refl
  where
    by_runner : (found : Option Runner) → slice_get runners place ≡ found → place < length runners
    by_runner None none = absurd (true≢false (sym up ∙ ap is_up_at none))
    by_runner (Some runner) found = slice_get_within runners place runner found

-- a node that is up gets it
pub one_came : (number node place : ℕ) (old now new : Centre) (before text after : List ℕ) → IsComing number place old now before text
    → node ≡ place + 1 → is_up_in now.world node ≡ true → Does (λ w. comes w number node) now new text after → IsComing number (place + 1) old new before after
one_came number node place old now new before text after way same up did w world =
    let left = way w world in
    let v = left.world in
    let is_up_there = up_there now v node place true left.is same up in
    let within : place < length v.runners =
    up_within v.runners place (let number_is : 1 + place ≡ suc place = omega arith in sym (ap (λ (n : ℕ). is_up_at (runner_at v n)) number_is) ∙ is_up_there) in
    let first : node ≡ 1 + place = omega (arith, same) in
    let moved : IsMoved (comes_again v number (1 + place)) new text after =
    again_moved v number (1 + place) new text after (λ is_so. subst (λ (n : ℕ). IsMoved (comes v number n) new text after) first (did v left.is))
    (λ is_not. absurd (true≢false (sym is_up_there ∙ is_not))) in
    one_done (comes_to number (node_numbers w) w) (from number place) (from number (place + 1)) (λ u. comes_again u number (1 + place)) now new before text
    after left (one_further number place v within) moved

-- one that is not is passed by
pub one_passed : (number node place : ℕ) (old now : Centre) (before text : List ℕ) → IsComing number place old now before text → node ≡ place + 1
    → is_up_in now.world node ≡ false → IsComing number (place + 1) old now before text
one_passed number node place old now before text way same down w world =
    let left = way w world in
    let v = left.world in
    elim (below_or_past place (length v.runners)) [
      | inl within ↦
          let moved : IsMoved (comes_again v number (1 + place)) now text text =
          again_moved v number (1 + place) now text text
          (λ is_so. absurd (true≢false (sym is_so ∙ up_there now v node place false left.is same down)))
          (λ is_not. record { next = left.is; text = sym (append-nil text) }) in
          one_done (comes_to number (node_numbers w) w) (from number place) (from number (place + 1)) (λ u. comes_again u number (1 + place)) now now before
          text text left (one_further number place v within) moved
      | inr past ↦
          let rest = none_further number place v past in
          record {
            world = v;
            is = left.is;
            next = ap (λ (m : Moved). m.next) (sym rest) ∙ left.next;
            written = ap (λ (m : Moved). text ++ world_text m.prints) (sym rest) ∙ left.written;
          }
    ]
  where
    below_or_past : (a b : ℕ) → (a < b) ⊎ (b ≤ a)
    below_or_past a zero = inr (omega arith)
    below_or_past zero (suc b) = inl (omega arith)
    below_or_past (suc a) (suc b) = elim (below_or_past a b) [ inl less ↦ inl (omega (arith, less)) | inr more ↦ inr (omega (arith, more)) ]

-- as the code joins both
pub came_to : (number place : ℕ) (old now : Centre) (before text : List ℕ) (last : Centre) (written : List ℕ) → now ≡ last → text ≡ written
    → IsComing number (place + 1) old last before written → IsComing number (place + 1) old now before text
came_to number place old now before text last written same wrote way =
    subst (λ (c : Centre). IsComing number (place + 1) old c before text) (sym same)
    (subst (λ (t : List ℕ). IsComing number (place + 1) old last before t) (sym wrote) way)

-- no node is left
pub all_came : (number place : ℕ) (old now : Centre) (before text : List ℕ) → 9 ≤ place → IsComing number place old now before text →
    Does (λ w. comes_to number (node_numbers w) w) old now before text
all_came number place old now before text past way w world =
    let left = way w world in
    let few = left.is.few in
    all_done (comes_to number (node_numbers w) w) (from number place) now before text left
    (to_all_of number (1 + place) (length left.world.runners - place) left.world (omega (arith, past, few)))
