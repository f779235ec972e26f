-- Texts and optional parameters, within their limits.
use Rattle.std.specs.Prelude.{ℕ, ◌≤◌, ◌==◌, Bool, List, length}
use Rattle.std.specs.Cmp.Lexicographic.{pointwise}
use Rattle.std.specs.Ordering.{on, eq_of_both}
use Rattle.std.specs.Str.{bytes_eq}
use Rattle.std.specs.List.{list_any}
use Rattle.octet_fields.specs.Texts.{AreParameters}
pub use Rattle.octet_fields.specs.Texts.{IsOctets, IsText, tlv_octets, optional_octets, IsTagged}

-- a short_message (SMPP 3.4, 5.2.22) has at most 254 octets
abbrev pub IsShortMessage : List ℕ → Type 0
IsShortMessage octets = length octets ≤ 254

-- the optional parameters of a PDU have at most 7,000 octets
abbrev pub AreOptional : List (ℕ × List ℕ) → Type 0
AreOptional tlvs = AreParameters 7000 tlvs

-- whether the optional parameter has one of these tags
abbrev pub has_tag_among : List ℕ → ℕ × List ℕ → Bool
has_tag_among tags tlv = list_any (λ tag. tag == tlv.0) tags

-- whether these optional parameters are as many, each with the tag and the value of the other
abbrev pub are_same_tlvs : List (ℕ × List ℕ) → List (ℕ × List ℕ) → Bool
are_same_tlvs = pointwise (eq_of_both (on (λ tlv. tlv.0) ◌==◌) (on (λ tlv. tlv.1) bytes_eq))
