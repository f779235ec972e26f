-- The rounds of PBKDF2, one by one.
use Rattle.std.proofs.Common.{◌≡◌, ℕ, suc, List, ap}
use Rattle.account_limits.specs.Hashing.{hmac, sum_after, xored}

pub at_end : (password : List ℕ) (rounds : ℕ) (last sum : List ℕ) → rounds ≡ 0 → sum_after password rounds last sum ≡ sum
unfolding sum_after
at_end password rounds last sum none = ap (λ n. sum_after password n last sum) none

pub goes_on : (password : List ℕ) (rounds left : ℕ) (last sum : List ℕ) → rounds ≡ suc left →
    sum_after password rounds last sum ≡ sum_after password left (hmac password last) (xored sum (hmac password last))
unfolding sum_after
goes_on password rounds left last sum one = ap (λ n. sum_after password n last sum) one
