-- Which nodes take part in a settle.
use Rattle.std.proofs.Common.{◌≡◌, inl, inr, eq-or-lt_of_le, ℕ, zero, suc, ◌+◌, ◌<◌, ◌≤◌, Bool, true, false, cond, List, [], ◌∷◌, length}
use Rattle.std.proofs.Common.{filter, refl, sym, ap, ◌∙◌, arith}
use Rattle.std.proofs.lemmas.Bool.{and_parts, eq-eqb, eqb-true, leb-true, ne_eqb}
use Rattle.std.specs.Prelude.{◌==◌, ◌||◌}
use Rattle.std.specs.List.{range_with_len}
use Rattle.mc_types.specs.Nodes.{has}
use Rattle.script_lines.specs.Said.{is_listed, nodes_with}
use Rattle.script_text.specs.World.{takes_part}

-- ---- the nodes that pass a test

listed_is : (test : ℕ → Bool) (xs : List ℕ) (node : ℕ) → test node ≡ true → is_listed (filter test xs) node ≡ is_listed xs node
listed_is test [] node passes = refl
listed_is test (x ∷ xs) node passes = by_test (listed_is test xs node passes) (test x) refl
  where
    by_same : is_listed (filter test xs) node ≡ is_listed xs node → (same : Bool) → (node == x) ≡ same → test x ≡ false →
        is_listed (filter test xs) node ≡ (same || is_listed xs node)
    by_same others true is fails = absurd (let clash : true ≡ false = sym passes ∙ ap test (eqb-true node x is) ∙ fails in cc)
    by_same others false is fails = others

    by_test : is_listed (filter test xs) node ≡ is_listed xs node → (b : Bool) → test x ≡ b →
        is_listed (cond b (x ∷ filter test xs) (filter test xs)) node ≡ (node == x || is_listed xs node)
    by_test others true is = ap (λ (rest : Bool). node == x || rest) others
    by_test others false is = by_same others (node == x) refl is

unlisted : (test : ℕ → Bool) (xs : List ℕ) (node : ℕ) → test node ≡ false → is_listed (filter test xs) node ≡ false
unlisted test [] node fails = refl
unlisted test (x ∷ xs) node fails = by_test (unlisted test xs node fails) (test x) refl
  where
    by_same : is_listed (filter test xs) node ≡ false → (same : Bool) → (node == x) ≡ same → test x ≡ true → (same || is_listed (filter test xs) node) ≡ false
    by_same others true is passes = absurd (let clash : false ≡ true = sym fails ∙ ap test (eqb-true node x is) ∙ passes in cc)
    by_same others false is passes = others

    by_test : is_listed (filter test xs) node ≡ false → (b : Bool) → test x ≡ b → is_listed (cond b (x ∷ filter test xs) (filter test xs)) node ≡ false
    by_test others true is = by_same others (node == x) refl is
    by_test others false is = others

-- a number that is first, or among the numbers that follow
among : (start count node : ℕ) → start ≤ node → node < start + count → is_listed (range_with_len start count) node ≡ true
among start zero node least most = absurd (omega (arith, least, most))
among start (suc count) node least most = elim (eq-or-lt_of_le {n = start} {m = node} least) [
  | inl same ↦ ap (λ (b : Bool). b || is_listed (range_with_len (start + 1) count) node) (eq-eqb node start (sym same))
  | inr before ↦
      ap (λ (b : Bool). b || is_listed (range_with_len (start + 1) count) node) (ne_eqb node start (λ same. omega (arith, same, before)))
      ∙ among (start + 1) count node (omega (arith, before)) (omega (arith, most))
]

among_nine : (node : ℕ) → 1 ≤ node → node ≤ 9 → is_listed (range_with_len 1 9) node ≡ true
among_nine node least most = among 1 9 node least (omega (arith, most))

-- ---- that none does

nothing_kept : (test : ℕ → Bool) (start count : ℕ) → ((n : ℕ) → start ≤ n → n < start + count → test n ≡ false) → filter test (range_with_len start count) ≡ []
nothing_kept test start zero none = refl
nothing_kept test start (suc count) none =
    ap (λ (b : Bool). cond b (start ∷ filter test (range_with_len (start + 1) count)) (filter test (range_with_len (start + 1) count)))
    (none start (omega arith) (omega arith))
    ∙ nothing_kept test (start + 1) count (λ n from below. none n (omega (arith, from)) (omega (arith, below)))

pub none_more : (test : ℕ → Bool) (number : ℕ) → ((n : ℕ) → 1 ≤ n → n < number → test n ≡ false) → test number ≡ false →
    (n : ℕ) → 1 ≤ n → n < number + 1 → test n ≡ false
none_more test number none fails n least below = elim (eq-or-lt_of_le {n = n} {m = number} (omega (arith, below))) [
  | inl same ↦ ap test same ∙ fails
  | inr before ↦ none n least before
]

pub nobody : (test : ℕ → Bool) → ((n : ℕ) → 1 ≤ n → n < 10 → test n ≡ false) → true ≡ (length (nodes_with test) == 0)
unfolding nodes_with
nobody test none = ap (λ (ns : List ℕ). length ns == 0) (sym (nothing_kept test 1 9 (λ n from below. none n from (omega (arith, below)))))

some_listed : (xs : List ℕ) (node : ℕ) → is_listed xs node ≡ true → false ≡ (length xs == 0)
some_listed [] node is = absurd cc
some_listed (x ∷ xs) node is = sym (ne_eqb (suc (length xs)) 0 (λ same. omega (arith, same)))

pub somebody : (test : ℕ → Bool) (node : ℕ) → 1 ≤ node → node ≤ 9 → test node ≡ true → false ≡ (length (nodes_with test) == 0)
unfolding nodes_with
somebody test node least most passes =
    some_listed (filter test (range_with_len 1 9)) node (listed_is test (range_with_len 1 9) node passes ∙ among_nine node least most)

-- ---- who takes part

by_list : (xs : List ℕ) (node : ℕ) (has : Bool) → false ≡ (length xs == 0) → is_listed xs node ≡ has → has ≡ takes_part xs node
by_list [] node has some is = absurd cc
by_list (x ∷ xs) node has some is = sym is

within_nine : (set node : ℕ) → has set node ≡ true → is_listed (range_with_len 1 9) node ≡ true
within_nine set node is =
    let parts = and_parts _ _ is in
    let later = and_parts _ _ parts.1 in
    among_nine node (leb-true 1 node parts.0) (leb-true node 9 later.0)

pub takes_part_so : (set node : ℕ) → false ≡ (length (nodes_with (has set)) == 0) → has set node ≡ takes_part (nodes_with (has set)) node
unfolding nodes_with
takes_part_so set node some = by_test (has set node) refl
  where
    by_test : (b : Bool) → has set node ≡ b → b ≡ takes_part (filter (has set) (range_with_len 1 9)) node
    by_test true is = by_list (filter (has set) (range_with_len 1 9)) node true some
        (listed_is (has set) (range_with_len 1 9) node is ∙ within_nine set node is)
    by_test false is = by_list (filter (has set) (range_with_len 1 9)) node false some (unlisted (has set) (range_with_len 1 9) node is)
