-- Lists of octets, and results.
use Rattle.std.proofs.Common.{◌≡◌, ℕ, zero, suc, ◌+◌, ◌≤◌, Bool, true, false, cond, List, [], ◌∷◌, ◌++◌, length, get_or, take, drop}
use Rattle.std.proofs.Common.{Result, Ok, Err, refl, arith}
use Rattle.std.proofs.lemmas.List.{get_or-drop}
use Rattle.std.specs.Int.{w32, from_be_bytes}
use Rattle.octet_fields.specs.Texts.{IsOctets}
use Rattle.octet_fields.specs.Kinds.{Four}
use Rattle.octet_fields.specs.Reading.{◌>>=◌, number_at}

pub IsOctets-drop : (n : ℕ) (octets : List ℕ) → IsOctets octets → IsOctets (drop n octets)
IsOctets-drop n octets are i = rw get_or-drop (are (n + i))

pub IsOctets-take : (n : ℕ) (octets : List ℕ) → IsOctets octets → IsOctets (take n octets)
IsOctets-take zero octets are i = omega arith
IsOctets-take (suc n) [] are i = omega arith
IsOctets-take (suc n) (a ∷ octets) are zero = are 0
IsOctets-take (suc n) (a ∷ octets) are (suc i) = IsOctets-take n octets (IsOctets-drop 1 (a ∷ octets) are) i

pub IsOctets-before : (octets rest : List ℕ) → IsOctets (octets ++ rest) → IsOctets octets
IsOctets-before [] rest are i = omega arith
IsOctets-before (a ∷ octets) rest are zero = are 0
IsOctets-before (a ∷ octets) rest are (suc i) = IsOctets-before octets rest (λ k. are (suc k)) i

pub IsOctets-behind : (octets rest : List ℕ) → IsOctets (octets ++ rest) → IsOctets rest
IsOctets-behind [] rest are = are
IsOctets-behind (a ∷ octets) rest are = IsOctets-behind octets rest (λ k. are (suc k))

-- ---- results

-- the value of a step that did not fail
pub bind_ok : {A B E : Type 0} (r : Result A E) (f : A → Result B E) (y : B) → (r >>= f) ≡ Ok y → (x : A) × (r ≡ Ok x) × (f x ≡ Ok y)
bind_ok (Ok x) f y e = (x, refl, e)
bind_ok (Err d) f y e = absurd cc

pub ok_is : {A E : Type 0} (x y : A) → ◌≡◌ {A = Result A E} (Ok x) (Ok y) → x ≡ y
ok_is x y e = cc

-- a test that did not refuse
pub guard_ok : {A E : Type 0} (b : Bool) (fault : E) (r : Result A E) (x : A) → cond b (Err fault) r ≡ Ok x → (b ≡ false) × (r ≡ Ok x)
guard_ok true fault r x e = absurd cc
guard_ok false fault r x e = (refl, e)

-- four octets at the front, as a number
pub four_at : (octets : List ℕ) (n : ℕ) → 4 ≤ length octets →
    n ≡ from_be_bytes w32 (get_or octets 0 0 ∷ get_or octets 1 0 ∷ get_or octets 2 0 ∷ get_or octets 3 0 ∷ []) →
    number_at Four octets ≡ Ok (n, drop 4 octets)
unfolding number_at
four_at (a ∷ b ∷ c ∷ d ∷ rest) n long e = rw e refl
four_at other n long e = absurd (omega arith)
