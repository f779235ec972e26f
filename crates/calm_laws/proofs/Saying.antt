-- What a line over one node says of nodes: it names the node 1.
use Rattle.std.specs.Prelude.{nat_le, filter, if◌then◌else◌}
use Rattle.std.specs.List.{list_all, range_with_len}
use Rattle.std.proofs.Common.{◌≡◌, ℕ, zero, suc, ◌+◌, ◌≤◌, Bool, true, false, List, [], ◌∷◌, Option, Some, None, refl, sym, ap, subst, ◌∙◌, arith}
use Rattle.mc_model.specs.message.Ids.{IsNode}
use Rattle.script_lines.specs.Said.{Said, Settle, IsWording, Spells, each_once, is_listed, names_within, nodes_with, said_of, said_within, ◌>>=◌}
use Rattle.script_lines.proofs.SaidLemmas.{spells_within}
use Rattle.script_text.specs.World.{takes_part}

-- what a line says that names nodes up to one
pub record Says (most : ℕ) (line : List ℕ) (said : Said) : Type 0 where
  pub read : said_of line ≡ Some said
  pub within : names_within most said ≡ true
  pub spelled : Spells said line

within_of : (most : ℕ) (found : Option Said) (said : Said) → (found >>= (λ it. if names_within most it then Some it else None)) ≡ Some said →
    (found ≡ Some said) × (names_within most said ≡ true)
within_of most None said is = absurd cc
within_of most (Some it) said is = by_test (names_within most it) refl is
  where
    by_test : (within : Bool) → names_within most it ≡ within → (if within then Some it else None) ≡ Some said →
        (Some it ≡ Some said) × (names_within most said ≡ true)
    by_test true holds is = (is, (let same : it ≡ said = cc in subst (λ (s : Said). names_within most s ≡ true) same holds))
    by_test false holds is = absurd cc

pub says : (most : ℕ) (line : List ℕ) (said : Said) → said_within most line ≡ Some said → Says most line said
says most line said is =
    let found = within_of most (said_of line) said is in
    record { read = found.0; within = found.1; spelled = spells_within most line said is }

-- such a line says the same if it may name more
pub said_within_more : (most : ℕ) (line : List ℕ) (said : Said) → said_of line ≡ Some said → names_within most said ≡ true → said_within most line ≡ Some said
said_within_more most line said read within =
    ap (λ (found : Option Said). found >>= (λ it. if names_within most it then Some it else None)) read
    ∙ ap (λ (test : Bool). if test then Some said else None) within

-- a node up to 1 is the node 1
pub the_node : (node : ℕ) → IsNode node → nat_le node 1 ≡ true → node ≡ 1
the_node node is most = let least = is.least in grind (arith, least, most)

-- ---- the nodes of a settle

-- a node from 2 on is not listed
none_from : (test : ℕ → Bool) (count from : ℕ) → 2 ≤ from → list_all (λ node. nat_le node 1) (filter test (range_with_len from count)) ≡ true →
    filter test (range_with_len from count) ≡ []
none_from test zero from least all = refl
none_from test (suc count) from least all = by_test (none_from test count (from + 1) (omega (arith, least))) (test from) all
  where
    behind : List ℕ
    behind = filter test (range_with_len (from + 1) count)

    by_test : (list_all (λ node. nat_le node 1) behind ≡ true → behind ≡ []) → (passes : Bool) →
        list_all (λ node. nat_le node 1) (if passes then from ∷ behind else behind) ≡ true → (if passes then from ∷ behind else behind) ≡ []
    by_test others true all = absurd (grind (arith, least, all))
    by_test others false all = others all

part_of : (test : ℕ → Bool) → list_all (λ node. nat_le node 1) (nodes_with test) ≡ true → takes_part (nodes_with test) 1 ≡ true
unfolding nodes_with
part_of test all = by_test (test 1) all
  where
    behind : List ℕ
    behind = filter test (range_with_len 2 8)

    by_test : (first : Bool) → list_all (λ node. nat_le node 1) (if first then 1 ∷ behind else behind) ≡ true →
        takes_part (if first then 1 ∷ behind else behind) 1 ≡ true
    by_test true all = refl
    by_test false all = ap (λ (nodes : List ℕ). takes_part nodes 1) (none_from test 8 2 (omega arith) all)

-- the node 1 takes part in each settle
pub takes_part_in : (nodes line : List ℕ) → IsWording (Settle nodes) line → list_all (λ node. nat_le node 1) nodes ≡ true → takes_part nodes 1 ≡ true
takes_part_in nodes line wording all =
    let is : nodes ≡ each_once wording.0 = wording.2 in
    subst (λ (ns : List ℕ). takes_part ns 1 ≡ true) (sym is)
    (part_of (is_listed wording.0) (subst (λ (ns : List ℕ). list_all (λ node. nat_le node 1) ns ≡ true) is all))
