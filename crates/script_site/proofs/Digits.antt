-- The digits of octets, one octet after another.
use Rattle.std.proofs.Common.{◌≡◌, ℕ, List, [], ◌∷◌, ◌++◌, ◌/◌, ◌%◌, slice_index, Result, Ok, Err, IsOk, OnOk, refl, ap}
use Rattle.std.proofs.lemmas.Bool.{false≢true}
use Rattle.hex.specs.Hex.{encode_with, encode_lower, lower_digits}

pub digits-more : (octets : List ℕ) (octet : ℕ) → encode_lower (octets ++ octet ∷ []) ≡ encode_lower octets ++ encode_lower (octet ∷ [])
unfolding encode_with
digits-more [] octet = refl
digits-more (first ∷ octets) octet =
    ap (λ (rest : List ℕ). slice_index lower_digits (first / 16) ∷ slice_index lower_digits (first % 16) ∷ rest) (digits-more octets octet)

pub when_ok : {T E P : Type 0} (r : Result T E) → IsOk r → OnOk r P → P
when_ok (Ok x) ok p = p
when_ok (Err e) ok p = absurd (false≢true ok)
