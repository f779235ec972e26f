-- Which source_addr an account may name (SMPP 3.4, 5.2.8; the patterns: own).
use Rattle.std.specs.Prelude.{◌≡◌, ℕ, Bool, true, false, ◌||◌, ◌==◌, ◌<◌, ◌≤◌, ◌-◌, List, [], ◌∷◌, length, slice_index, take, Result, Ok, Err, if◌then◌else◌}
use Rattle.std.specs.List.{list_any, starts_with}
use Rattle.std.specs.Str.{bytes_eq}
use Rattle.account_limits.specs.declared.sender_fault.SenderFault.{SenderFault}
use Rattle.account_limits.specs.declared.sender_fault.SenderFault.TheVariants.{TooLong, BadOctet, Memory}
use Rattle.account_limits.specs.declared.sender_pattern.SenderPattern.{SenderPattern}
use Rattle.account_limits.specs.declared.sender_pattern.SenderPattern.TheVariants.{Exact, Front}

abbrev pub admits_source : SenderPattern → List ℕ → Bool
admits_source (Exact octets) source = bytes_eq octets.items source
admits_source (Front octets) source = starts_with ◌==◌ source octets.items

-- ---- how a pattern is written

-- whether a text ends with a star
abbrev pub has_star : List ℕ → Bool
has_star [] = false
has_star (first ∷ others) = slice_index (first ∷ others) (length others) == 42

-- without the star at its end
abbrev pub octets_in : List ℕ → List ℕ
octets_in text = if has_star text then take (length text - 1) text else text

-- whether an octet is zero or a star
abbrev pub is_bad : ℕ → Bool
is_bad octet = (octet == 0) || (octet == 42)

abbrev pub IsSpelled : List ℕ → SenderPattern → Type 0
IsSpelled text (Exact octets) = (has_star text ≡ false) × (octets.items ≡ octets_in text)
IsSpelled text (Front octets) = (has_star text ≡ true) × (octets.items ≡ octets_in text)

-- the pattern that a text is, or the first fault that fits; of want of memory nothing is said
abbrev pub IsPatternOutcome : List ℕ → Result SenderPattern SenderFault → Type 0
IsPatternOutcome text (Ok pattern) = (length (octets_in text) ≤ 20) × (list_any is_bad (octets_in text) ≡ false) × IsSpelled text pattern
IsPatternOutcome text (Err TooLong) = 20 < length (octets_in text)
IsPatternOutcome text (Err BadOctet) = (length (octets_in text) ≤ 20) × (list_any is_bad (octets_in text) ≡ true)
IsPatternOutcome text (Err Memory) = (length (octets_in text) ≤ 20) × (list_any is_bad (octets_in text) ≡ false)
