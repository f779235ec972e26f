-- Optional parameters, as the octets that they are in a PDU.
use Rattle.std.specs.Prelude.{◌≡◌, ℕ, ◌==◌, List, [], Option, option_map, Result, Ok, Err}
use Rattle.std.specs.List.{find}
use Rattle.pdu_fields.specs.Text.{AreOptional, optional_octets}
use Rattle.pdu_fields.specs.Grammar.{optional_at}

abbrev pub first_of : {E : Type 0} → Result (List (ℕ × List ℕ) × List ℕ) E → List (ℕ × List ℕ)
first_of (Ok x) = x.0
first_of (Err e) = []

-- the optional parameters that octets are
unfoldable pub tlvs_in : List ℕ → List (ℕ × List ℕ)
tlvs_in octets = first_of (optional_at octets)

-- The octets are optional parameters, which are within their limits.
pub record AreTlvs (octets : List ℕ) : Type 0 where
  pub limits : AreOptional (tlvs_in octets)
  pub spelled : octets ≡ optional_octets (tlvs_in octets)

-- the value of the first optional parameter with a tag
abbrev pub value_of : ℕ → List (ℕ × List ℕ) → Option (List ℕ)
value_of tag tlvs = option_map (λ tlv. tlv.1) (find (λ tlv. tlv.0 == tag) tlvs)
