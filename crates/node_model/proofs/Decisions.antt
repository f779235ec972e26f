-- What tests decide.
use Rattle.std.proofs.Common.{ℕ, ◌*◌, ◌≤◌, Bool, arith}
use Rattle.std.specs.Prelude.{nat_le}
use Rattle.std.specs.Bool.{Decides}
use Rattle.std.proofs.lemmas.Bool.Decides.{Decides-ltb, nat_tests}
use Rattle.mc_model.specs.synod.Majority.{IsMajority, count}
use Rattle.node_model.specs.Sets.{is_majority}

pub most_decides : (nodes : ℕ) (test : ℕ → Bool) → Decides (is_majority nodes test) (IsMajority nodes test)
most_decides nodes test = Decides-ltb nodes (2 * count test nodes)

pub nat_le_decides : (a b : ℕ) → Decides (nat_le a b) (a ≤ b)
nat_le_decides a b = ((λ t. grind (arith, nat_tests)), (λ most. grind (arith, nat_tests)))
