-- Two majorities have a node in common, and what a test decides is of a majority where the test's count is one.
use Rattle.std.proofs.Common.{◌≡◌, ℕ, zero, suc, ◌+◌, ◌<◌, ◌≤◌, Bool, true, false, refl, arith}
use Rattle.std.specs.Prelude.{if◌then◌else◌}
use Rattle.mc_model.specs.synod.Majority.{count, HoldsOf, IsMajority, Majority, PassesBoth}

-- a node that both pass among the first is one among more
among_more : (nodes : ℕ) (one other : ℕ → Bool) → PassesBoth nodes one other → PassesBoth (suc nodes) one other
among_more nodes one other p = record {
  node = p.node;
  least = p.least;
  most = let below : p.node ≤ nodes = p.most in omega arith;
  passes_one = p.passes_one;
  passes_other = p.passes_other;
}

meet-last : (nodes : ℕ) (one other : ℕ → Bool) (a b : Bool) → one (suc nodes) ≡ a → other (suc nodes) ≡ b →
    suc nodes < (if a then suc (count one nodes) else count one nodes) + (if b then suc (count other nodes) else count other nodes) →
    (nodes < count one nodes + count other nodes → PassesBoth nodes one other) → PassesBoth (suc nodes) one other
meet-last nodes one other true true is_one is_other more rest = record {
  node = suc nodes;
  least = omega arith;
  most = omega arith;
  passes_one = is_one;
  passes_other = is_other;
}
meet-last nodes one other true false is_one is_other more rest = among_more nodes one other (rest (omega arith))
meet-last nodes one other false b is_one is_other more rest = among_more nodes one other (rest (fewer b more))
  where
    fewer : (b : Bool) → suc nodes < count one nodes + (if b then suc (count other nodes) else count other nodes) → nodes < count one nodes + count other nodes
    fewer true more = omega arith
    fewer false more = omega arith

pub meet : (nodes : ℕ) (one other : ℕ → Bool) → nodes < count one nodes + count other nodes → PassesBoth nodes one other
meet zero one other more = absurd (omega arith)
meet (suc nodes) one other more =
    meet-last nodes one other (one (suc nodes)) (other (suc nodes)) refl refl more (meet nodes one other)

pub majorities_meet : (nodes : ℕ) (one other : ℕ → Bool) → IsMajority nodes one → IsMajority nodes other → PassesBoth nodes one other
majorities_meet nodes one other most_one most_other = meet nodes one other (omega arith)

-- what holds of one majority and what holds of another hold of some node
pub record Both (nodes : ℕ) (P Q : ℕ → Type 0) : Type 0 where
  pub node : ℕ
  pub one : P node
  pub other : Q node

pub both : (nodes : ℕ) (P Q : ℕ → Type 0) → Majority nodes P → Majority nodes Q → Both nodes P Q
both nodes P Q m n =
    let p = majorities_meet nodes m.test n.test m.most n.most in
    record { node = p.node; one = m.each p.node p.least p.most p.passes_one; other = n.each p.node p.least p.most p.passes_other }

-- ---- a majority is a count

-- where more nodes pass a test, more are counted
more_pass : (nodes : ℕ) (one other : ℕ → Bool) → ((node : ℕ) → 1 ≤ node → node ≤ nodes → one node ≡ true → other node ≡ true) →
    count one nodes ≤ count other nodes
more_pass zero one other each = omega arith
more_pass (suc nodes) one other each =
    by_last (one (suc nodes)) (other (suc nodes)) refl refl (more_pass nodes one other (λ node least most. each node least (omega (arith, most))))
  where
    by_last : (a b : Bool) → one (suc nodes) ≡ a → other (suc nodes) ≡ b → count one nodes ≤ count other nodes →
        (if a then suc (count one nodes) else count one nodes) ≤ (if b then suc (count other nodes) else count other nodes)
    by_last true true is also before = omega arith
    by_last true false is also before = let passes = each (suc nodes) (omega arith) (omega arith) is in absurd (cc)
    by_last false true is also before = omega arith
    by_last false false is also before = before

-- What holds of a majority, and only of nodes that pass a test, is decided by the test's count.
pub counted : (nodes : ℕ) (P : ℕ → Type 0) (test : ℕ → Bool) → ((node : ℕ) → 1 ≤ node → node ≤ nodes → P node → test node ≡ true) →
    Majority nodes P →
    IsMajority nodes test
counted nodes P test only m =
    let more = more_pass nodes m.test test (λ node least most passes. only node least most (m.each node least most passes)) in
    omega (arith, more, m.most)

pub majority_counts : (nodes : ℕ) (P : ℕ → Type 0) (test : ℕ → Bool) → HoldsOf nodes test P → IsMajority nodes test → Majority nodes P
majority_counts nodes P test each most = record { test = test; most = most; each = each }
