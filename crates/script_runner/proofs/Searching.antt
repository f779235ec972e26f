-- The first of some numbers, in ascending order.
use Rattle.std.proofs.Common.{◌≡◌, ◌⊎◌, inl, inr, ℕ, zero, suc, ◌+◌, ◌<◌, ◌≤◌, Bool, true, false, cond, List, [], ◌∷◌, length, find}
use Rattle.std.proofs.Common.{Option, Some, None, refl, sym, ap, ◌∙◌, arith}
use Rattle.std.specs.Prelude.{◌&&◌, not, if◌then◌else◌}
use Rattle.std.specs.List.{range_with_len}
use Rattle.mc_model.specs.synod.Packet.{Packet}
use Rattle.node_model.specs.Stepped.{sender_of}
use Rattle.world.specs.Scenes.{is_up_in}
use Rattle.script_text.specs.World.{World, due, due_among, due_at, due_first, lacks, node_numbers, packet_of, takes_part}
use Rattle.script_runner.specs.Arrivals.{came_in}
use Rattle.script_runner.specs.Centres.{IsWorld, NothingBefore}
use Rattle.script_runner.specs.declared.centre.Centre.{Centre}
use Rattle.script_runner.proofs.Moving.{ups}

-- ---- of numbers from one on

later : (start j : ℕ) → start + suc j ≡ (start + 1) + j
later start j = omega arith

pub first_found : (test : ℕ → Bool) (start count k : ℕ) → k < count → ((j : ℕ) → j < k → test (start + j) ≡ false) → test (start + k) ≡ true →
    find test (range_with_len start count) ≡ Some (start + k)
first_found test start zero k within before is = absurd (omega (arith, within))
first_found test start (suc count) zero within before is =
    let here : start + 0 ≡ start = omega arith in
    let passes : test start ≡ true = sym (ap test here) ∙ is in
    ap (λ (b : Bool). cond b (Some start) (find test (range_with_len (start + 1) count))) passes ∙ ap Some (sym here)
first_found test start (suc count) (suc k) within before is =
    let here : start + 0 ≡ start = omega arith in
    let fails : test start ≡ false = sym (ap test here) ∙ before 0 (omega arith) in
    ap (λ (b : Bool). cond b (Some start) (find test (range_with_len (start + 1) count))) fails
    ∙ first_found test (start + 1) count k (omega (arith, within))
    (λ j below. ap test (sym (later start j)) ∙ before (suc j) (omega (arith, below))) (ap test (sym (later start k)) ∙ is)
    ∙ ap Some (sym (later start k))

pub none_found : (test : ℕ → Bool) (start count : ℕ) → ((j : ℕ) → j < count → test (start + j) ≡ false) → find test (range_with_len start count) ≡ None
none_found test start zero none = refl
none_found test start (suc count) none =
    let here : start + 0 ≡ start = omega arith in
    ap (λ (b : Bool). cond b (Some start) (find test (range_with_len (start + 1) count))) (sym (ap test here) ∙ none 0 (omega arith))
    ∙ none_found test (start + 1) count (λ j below. ap test (sym (later start j)) ∙ none (suc j) (omega (arith, below)))

-- what none passes, none passes that is passed by fewer
pub none_of_fewer : (test fewer : ℕ → Bool) (numbers : List ℕ) → ((n : ℕ) → test n ≡ false → fewer n ≡ false) → find test numbers ≡ None →
    find fewer numbers ≡ None
none_of_fewer test fewer [] weaker none = refl
none_of_fewer test fewer (n ∷ numbers) weaker none = by_test (test n) refl none (none_of_fewer test fewer numbers weaker)
  where
    by_test : (b : Bool) → test n ≡ b → cond b (Some n) (find test numbers) ≡ None → (find test numbers ≡ None → find fewer numbers ≡ None) →
        cond (fewer n) (Some n) (find fewer numbers) ≡ None
    by_test true is none others = absurd cc
    by_test false is none others = ap (λ (b : Bool). cond b (Some n) (find fewer numbers)) (weaker n is) ∙ others none

-- ---- the first packet that is due

module _ (w : World) (nodes : List ℕ) where
  abbrev to : ℕ → Option ℕ
  to number = due_at w nodes number (packet_of w.packets number)

  due_found : (start count k node : ℕ) → k < count → ((j : ℕ) → j < k → to (start + j) ≡ None) → to (start + k) ≡ Some node →
      due_among w nodes (range_with_len start count) ≡ Some (record { number = start + k; node = node })
  unfolding due_among
  due_found start zero k node within before is = absurd (omega (arith, within))
  due_found start (suc count) zero node within before is =
      let here : start + 0 ≡ start = omega arith in
      ap (λ (found : Option ℕ). due_first start found (due_among w nodes (range_with_len (start + 1) count))) (sym (ap to here) ∙ is)
      ∙ ap (λ (n : ℕ). Some (record { number = n; node = node })) (sym here)
  due_found start (suc count) (suc k) node within before is =
      let here : start + 0 ≡ start = omega arith in
      ap (λ (found : Option ℕ). due_first start found (due_among w nodes (range_with_len (start + 1) count))) (sym (ap to here) ∙ before 0 (omega arith))
      ∙ due_found (start + 1) count k node (omega (arith, within))
      (λ j below. ap to (sym (later start j)) ∙ before (suc j) (omega (arith, below))) (ap to (sym (later start k)) ∙ is)
      ∙ ap (λ (n : ℕ). Some (record { number = n; node = node })) (sym (later start k))

  due_none : (start count : ℕ) → ((j : ℕ) → j < count → to (start + j) ≡ None) → due_among w nodes (range_with_len start count) ≡ None
  unfolding due_among
  due_none start zero none = refl
  due_none start (suc count) none =
      let here : start + 0 ≡ start = omega arith in
      ap (λ (found : Option ℕ). due_first start found (due_among w nodes (range_with_len (start + 1) count))) (sym (ap to here) ∙ none 0 (omega arith))
      ∙ due_none (start + 1) count (λ j below. ap to (sym (later start j)) ∙ none (suc j) (omega (arith, below)))

  pub first_due : (number node : ℕ) → NothingBefore w nodes number → number < suc (length w.packets) → to number ≡ Some node →
      Some (record { number = number; node = node }) ≡ due w nodes
  first_due zero node before within is = absurd (let none : None ≡ Some node = is in cc)
  first_due (suc k) node before within is =
      let same : 1 + k ≡ suc k = omega arith in
      sym (due_found 1 (length w.packets) k node (omega (arith, within)) (λ j below. before (1 + j) (omega (arith, below))) (ap to same ∙ is)
      ∙ ap (λ (n : ℕ). Some (record { number = n; node = node })) same)

  pub nothing_due : (from : ℕ) → NothingBefore w nodes from → length w.packets < from → None ≡ due w nodes
  nothing_due from before past = sym (due_none 1 (length w.packets) (λ j below. before (1 + j) (omega (arith, below, past))))

-- ---- a packet that a node lacks

all_three : (one other last : Bool) → ((one && other) && last) ≡ (one && (other && last))
all_three true other last = refl
all_three false other last = refl

pub lacks_is : (centre : Centre) (w : World) (nodes : List ℕ) (number place : ℕ) → IsWorld centre w →
    lacks w nodes number (suc place)
    ≡ (takes_part nodes (suc place) && (is_up_in centre.world (suc place) && not (came_in centre.arrivals number (suc place))))
lacks_is centre w nodes number place is =
    let up = is_up_in centre.world (suc place) in
    ap (λ (b : Bool). (takes_part nodes (suc place) && b) && not (w.came number (suc place))) (sym (ups centre w place is))
    ∙ ap (λ (b : Bool). (takes_part nodes (suc place) && up) && not b) (sym (is.came number (suc place)))
    ∙ all_three (takes_part nodes (suc place)) up (not (came_in centre.arrivals number (suc place)))

-- ---- no packet below a number is due

pub at_or_below : (a b : ℕ) → a < b + 1 → (a < b) ⊎ (a ≡ b)
at_or_below zero zero below = inr refl
at_or_below zero (suc b) below = inl (omega arith)
at_or_below (suc a) zero below = absurd (omega (arith, below))
at_or_below (suc a) (suc b) below = elim (at_or_below a b (omega (arith, below))) [ inl less ↦ inl (omega (arith, less)) | inr same ↦ inr (ap suc same) ]

pub one_passed : (w : World) (nodes : List ℕ) (number : ℕ) → NothingBefore w nodes number → None ≡ due_at w nodes number (packet_of w.packets number) →
    NothingBefore w nodes (number + 1)
one_passed w nodes number none here n below = elim (at_or_below n number below) [
  | inl less ↦ none n less
  | inr same ↦ ap (λ (m : ℕ). due_at w nodes m (packet_of w.packets m)) same ∙ sym here
]

-- ---- packets that no node lacks

pub none_below : (w : World) (nodes : List ℕ) (from : ℕ) →
    ((number j : ℕ) → 1 ≤ number → number < from → j < length w.runners → lacks w nodes number (1 + j) ≡ false) → NothingBefore w nodes from
none_below w nodes from none zero below = refl
none_below w nodes from none (suc n) below = by_packet (packet_of w.packets (suc n))
  where
    nobody : find (lacks w nodes (suc n)) (node_numbers w) ≡ None
    nobody = none_found (lacks w nodes (suc n)) 1 (length w.runners) (λ j within. none (suc n) j (omega arith) below within)

    by_part : (part : Bool) → (if part then find (lacks w nodes (suc n)) (node_numbers w) else None) ≡ None
    by_part true = nobody
    by_part false = refl

    by_packet : (found : Option Packet) → due_at w nodes (suc n) found ≡ None
    by_packet None = refl
    by_packet (Some packet) = by_part (takes_part nodes (sender_of packet))

-- to a node that has it, and to one that does not take part or is down, it is not to come
pub has_it : (part up came : Bool) → came ≡ true → (part && (up && not came)) ≡ false
has_it false up came is = refl
has_it true false came is = refl
has_it true true true is = refl
has_it true true false is = absurd cc

pub not_there : (part up came : Bool) → (part && up) ≡ false → (part && (up && not came)) ≡ false
not_there false up came is = refl
not_there true false came is = refl
not_there true true came is = absurd cc
