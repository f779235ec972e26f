-- Octets, texts and optional parameters, within their limits.
use Rattle.std.specs.Borrow.{Bor}
use Rattle.std.specs.Prelude.{ℕ, ◌<◌, ◌≤◌, ◌^◌, ◌++◌, List, length, slice_index, All}
use Rattle.std.specs.List.{AllByRecursion, flat_map}
use Rattle.std.specs.Int.{w16, to_be_bytes}

-- each octet is below 256
abbrev pub IsOctets : List ℕ → Type 0
IsOctets octets = (place : ℕ) → slice_index octets place < 256

-- octets that lie in pieces, one after another
abbrev pub joined : List (Bor (List ℕ)) → List ℕ
joined pieces = flat_map (λ piece. piece.now) pieces

abbrev pub AreOctets : List (Bor (List ℕ)) → Type 0
AreOctets pieces = AllByRecursion (λ piece. IsOctets piece.now) pieces

-- a C-octet string (SMPP 3.4, 3.1), without the zero octet that ends it: fewer octets than the limit, none zero
pub record IsText (limit : ℕ) (octets : List ℕ) : Type 0 where
  pub short : length octets < limit
  pub no_zero : All (λ octet. 0 < octet) octets

-- an optional parameter (SMPP 3.4, 3.2.4.1) on the wire: tag, length and value
abbrev pub tlv_octets : ℕ × List ℕ → List ℕ
tlv_octets tlv = to_be_bytes w16 tlv.0 ++ to_be_bytes w16 (length tlv.1) ++ tlv.1

-- optional parameters, one after another
abbrev pub optional_octets : List (ℕ × List ℕ) → List ℕ
optional_octets tlvs = flat_map tlv_octets tlvs

-- a tag has two octets
abbrev pub IsTagged : ℕ × List ℕ → Type 0
IsTagged tlv = tlv.0 < 2 ^ 16

-- optional parameters of no more octets than so many, and of values that their lengths can tell
pub record AreParameters (limit : ℕ) (tlvs : List (ℕ × List ℕ)) : Type 0 where
  pub tags : AllByRecursion IsTagged tlvs
  pub most : length (optional_octets tlvs) ≤ limit
