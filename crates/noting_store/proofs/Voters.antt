-- The nodes of a set, and the list of them.
use Rattle.std.proofs.Common.{◌≡◌, inl, inr, ℕ, zero, suc, ◌*◌, ◌≤◌, Bool, true, false, ◌||◌, ◌==◌, if◌then◌else◌, List, [], ◌∷◌, sym, ap, subst, ◌∙◌, arith}
use Rattle.std.proofs.lemmas.Bool.{and_parts, cases_Bool, eqb-true, eq-eqb, leb-true, lt-ltb}
use Rattle.std.proofs.Math.Bool.{or-false, or-true}
use Rattle.mc_model.specs.synod.Lists.{In}
use Rattle.mc_model.specs.synod.Majority.{count}
use Rattle.mc_types.specs.Nodes.{has}
use Rattle.noting_store.specs.Noted.{AreMost, SaysWhoTold, nodes_in, nodes_to, set_of}

-- a node of the list is one up to the last, and passes the test
pub record IsUpTo (test : ℕ → Bool) (last node : ℕ) : Type 0 where
  pub least : 1 ≤ node
  pub most : node ≤ last
  pub passes : test node ≡ true

pub listed : (test : ℕ → Bool) (last node : ℕ) → In node (nodes_to test last) → IsUpTo test last node
listed test zero node among = absurd among
listed test (suc last) node among = elim (cases_Bool (test (suc last))) [
  | inl passes_it ↦ elim (subst (λ (passes : Bool). In node (if passes then suc last ∷ nodes_to test last else nodes_to test last)) passes_it among) [
    | inl same ↦ record { least = omega arith; most = omega arith; passes = subst (λ (n : ℕ). test n ≡ true) (sym same) passes_it }
    | inr before ↦ let is = listed test last node before in record { least = is.least; most = omega (arith, is.most); passes = is.passes }
  ]
  | inr not_it ↦ let is = listed test last node (subst (λ (passes : Bool). In node (if passes then suc last ∷ nodes_to test last else nodes_to test last)) not_it among) in
      record { least = is.least; most = omega (arith, is.most); passes = is.passes }
]

pub among : (test : ℕ → Bool) (last node : ℕ) → IsUpTo test last node → In node (nodes_to test last)
among test zero node is = absurd (omega (arith, is.least, is.most))
among test (suc last) node is = elim (cases_Bool (node == suc last)) [
  | inl last_one ↦
      let same : node ≡ suc last = eqb-true node (suc last) last_one in
      let last_passes : test (suc last) ≡ true = subst (λ (n : ℕ). test n ≡ true) same is.passes in
      subst (λ (passes : Bool). In node (if passes then suc last ∷ nodes_to test last else nodes_to test last)) (sym last_passes) (inl same)
  | inr before ↦
      let differs : node ≡ suc last → ⊥ = λ same. let e : true ≡ false = sym (eq-eqb node (suc last) same) ∙ before in cc in
      let here = among test last node (record { least = is.least; most = omega (arith, is.most, differs); passes = is.passes }) in
      elim (cases_Bool (test (suc last))) [
        | inl passes_it ↦ subst (λ (passes : Bool). In node (if passes then suc last ∷ nodes_to test last else nodes_to test last)) (sym passes_it) (inr here)
        | inr not_it ↦ subst (λ (passes : Bool). In node (if passes then suc last ∷ nodes_to test last else nodes_to test last)) (sym not_it) here
      ]
]

-- ---- as a set

pub in_set : (voters : List ℕ) (node : ℕ) → set_of voters node ≡ true → In node voters
in_set [] node is = absurd (let e : false ≡ true = is in cc)
in_set (voter ∷ others) node is = elim (cases_Bool (node == voter)) [
  | inl here ↦ inl (eqb-true node voter here)
  | inr not ↦ inr (in_set others node (sym (ap (λ (last : Bool). set_of others node || last) not ∙ or-false (set_of others node)) ∙ is))
]

pub set_has : (voters : List ℕ) (node : ℕ) → In node voters → set_of voters node ≡ true
set_has [] node is = absurd is
set_has (voter ∷ others) node (inl same) = ap (λ (last : Bool). set_of others node || last) (eq-eqb node voter same) ∙ or-true (set_of others node)
set_has (voter ∷ others) node (inr before) = ap (λ (first : Bool). first || (node == voter)) (set_has others node before)

pub of_set : (set node : ℕ) → has set node ≡ true → IsUpTo (has set) 9 node
of_set set node is =
    let parts = and_parts _ _ is in
    let behind = and_parts _ _ parts.1 in
    record { least = leb-true 1 node parts.0; most = leb-true node 9 behind.0; passes = is }

same_tests : (set node : ℕ) → set_of (nodes_in set) node ≡ has set node
same_tests set node = elim (cases_Bool (has set node)) [
  | inl passes_it ↦ set_has (nodes_in set) node (among (has set) 9 node (of_set set node passes_it)) ∙ sym passes_it
  | inr not_it ↦ elim (cases_Bool (set_of (nodes_in set) node)) [
    | inl passes_it ↦ absurd (let e : true ≡ false = sym (listed (has set) 9 node (in_set (nodes_in set) node passes_it)).passes ∙ not_it in cc)
    | inr neither ↦ neither ∙ sym not_it
  ]
]

pub says_who_told : (nodes set : ℕ) → AreMost nodes set → SaysWhoTold nodes set
says_who_told nodes set most = record {
  voters = λ voter. (λ is. (listed (has set) 9 voter is).passes, λ is. among (has set) 9 voter (of_set set voter is));
  members = λ voter is. let up = listed (has set) 9 voter is in (up.least, most.members voter up.passes);
  majority = let same : set_of (nodes_in set) ≡ has set = λ i node. same_tests set node i in
      rw same (lt-ltb nodes (2 * count (has set) nodes) most.majority);
}
