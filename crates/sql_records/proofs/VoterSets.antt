-- Sets of nodes that are made node by node.
use Rattle.std.proofs.Common.{◌≡◌, inl, inr, ℕ, zero, suc, ◌+◌, ◌<◌, ◌≤◌, Bool, true, false, ◌||◌, ◌==◌, if◌then◌else◌, List, ◌∷◌, refl, sym, ap, subst, ◌∙◌, arith}
use Rattle.std.proofs.Math.Bool.{or-false, or-true}
use Rattle.std.proofs.lemmas.Bool.{cases_Bool, eq-eqb, eqb-true}
use Rattle.mc_types.specs.Nodes.{has}
use Rattle.noting_store.specs.Noted.{nodes_in, nodes_to}

-- the one has those nodes of the other that are not above this one, and no more
pub record SetTo (one other number : ℕ) : Type 0 where
  pub done : (node : ℕ) → node ≤ number → has one node ≡ has other node
  pub left : (node : ℕ) → number < node → has one node ≡ false

other_node : (node number : ℕ) → (node ≡ number → ⊥) → (node == number) ≡ false
other_node node number apart = elim (cases_Bool (node == number)) [
  | inl same ↦ absurd (apart (eqb-true node number same))
  | inr differs ↦ differs
]

pub one_more : (one new other number : ℕ) → SetTo one other number → has other (number + 1) ≡ true
    → ((node : ℕ) → has new node ≡ (has one node || node == number + 1)) → SetTo new other (number + 1)
one_more one new other number before there added = record {
  done = λ node low. elim (cases_Bool (node == number + 1)) [
    | inl last ↦
        let same : node ≡ number + 1 = eqb-true node (number + 1) last in
        added node ∙ ap (λ (b : Bool). has one node || b) last ∙ or-true (has one node) ∙ sym (subst (λ (n : ℕ). has other n ≡ true) (sym same) there)
    | inr differs ↦
        let apart : node ≡ number + 1 → ⊥ = λ same. let e : true ≡ false = sym (eq-eqb node (number + 1) same) ∙ differs in cc in
        added node ∙ ap (λ (b : Bool). has one node || b) differs ∙ or-false (has one node) ∙ before.done node (omega (arith, low, apart))
  ];
  left = λ node high.
      let differs = other_node node (number + 1) (λ same. omega (arith, same, high)) in
      added node ∙ ap (λ (b : Bool). has one node || b) differs ∙ or-false (has one node) ∙ before.left node (omega (arith, high));
}

pub passed_by : (one other number : ℕ) → SetTo one other number → has other (number + 1) ≡ false → SetTo one other (number + 1)
passed_by one other number before not_there = record {
  done = λ node low. elim (cases_Bool (node == number + 1)) [
    | inl last ↦
        let same : node ≡ number + 1 = eqb-true node (number + 1) last in
        before.left node (omega (arith, same)) ∙ sym (subst (λ (n : ℕ). has other n ≡ false) (sym same) not_there)
    | inr differs ↦
        let apart : node ≡ number + 1 → ⊥ = λ same. let e : true ≡ false = sym (eq-eqb node (number + 1) same) ∙ differs in cc in
        before.done node (omega (arith, low, apart))
  ];
  left = λ node high. before.left node (omega (arith, high));
}

same_nodes : (one other : ℕ → Bool) (last : ℕ) → ((node : ℕ) → node ≤ last → one node ≡ other node) → nodes_to one last ≡ nodes_to other last
same_nodes one other zero same = refl
same_nodes one other (suc last) same =
    let before = same_nodes one other last (λ node low. same node (omega (arith, low))) in
    let here : one (suc last) ≡ other (suc last) = same (suc last) (omega arith) in
    ap (λ (b : Bool). if b then suc last ∷ nodes_to one last else nodes_to one last) here
    ∙ ap (λ (xs : List ℕ). if other (suc last) then suc last ∷ xs else xs) before

pub all_done : (one other number : ℕ) → 9 ≤ number → SetTo one other number → nodes_in one ≡ nodes_in other
all_done one other number whole to = same_nodes (has one) (has other) 9 (λ node low. to.done node (omega (arith, low, whole)))
