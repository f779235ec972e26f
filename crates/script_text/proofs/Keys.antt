-- Tests of numbers that are keys.
use Rattle.std.proofs.Common.{◌≡◌, ℕ, true, false, arith}
use Rattle.std.specs.Ordering.{nat_cmp, is_eq}
use Rattle.std.specs.declared.cmp.Ordering.TheVariants.{Equal}
use Rattle.std.proofs.lemmas.Bool.Decides.{nat_tests}

pub equal : (j k : ℕ) → nat_cmp j k ≡ Equal → j ≡ k
equal j k is = grind (arith, nat_tests)

pub is_here : (j k : ℕ) → is_eq (nat_cmp j k) ≡ true → j ≡ k
is_here j k is = grind (arith, nat_tests, is)

pub not_so : (j k : ℕ) → is_eq (nat_cmp j k) ≡ false → j ≡ k → ⊥
not_so j k is here = grind (arith, nat_tests, is, here)
