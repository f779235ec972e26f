-- A number does not get smaller by the digits behind it.
use Rattle.std.proofs.Common.{◌≡◌, ◌≤◌, ◌<◌, ◌*◌, ◌+◌, ◌-◌, ℕ, List, [], ◌∷◌, Some, None, Bool, true, false, cond, nat_le, ◌&&◌, refl, arith}
use Rattle.std.proofs.lemmas.Bool.Decides.{nat_tests}
use Rattle.account_limits.specs.Numbers.{is_number, number_behind, number_in}

pub grows : (number : ℕ) (digits : List ℕ) → number ≤ number_behind number digits
grows number [] = omega arith
grows number (digit ∷ digits) = omega (arith, grows (number * 10 + (digit - 48)) digits)

none_by : (one other : Bool) (number : ℕ) → other ≡ false → cond (one && other) (Some number) None ≡ None
none_by true true number clash = cc
none_by true false number is = refl
none_by false other number is = refl

above : (number most : ℕ) → most < number → nat_le number most ≡ false
above number most h = grind (arith, nat_tests)

-- a text of a greater number is none of at most so much
pub none_above : (most : ℕ) (text : List ℕ) → most < number_behind 0 text → number_in most text ≡ None
none_above most text h = none_by (is_number text) (nat_le (number_behind 0 text) most) (number_behind 0 text) (above (number_behind 0 text) most h)
