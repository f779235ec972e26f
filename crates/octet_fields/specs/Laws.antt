-- The laws of fields, for all kinds and all octets. E is a format's own word for what may be wrong.
use Rattle.std.specs.Prelude.{◌≡◌, ◌<◌, ◌⊎◌, ℕ, List, [], ◌∷◌, ◌++◌, length, Ok, Err, IsTrue}
use Rattle.octet_fields.specs.declared.defect.Defect.{Defect}
use Rattle.octet_fields.specs.Texts.{IsOctets}
use Rattle.octet_fields.specs.Kinds.{Kind, Number, Text, Counted, Parameters, Content, spelling, IsWithin, Part, Contents, spellings, AreWithin}
use Rattle.octet_fields.specs.Kinds.{are_delimited, are_closed}
use Rattle.octet_fields.specs.Reading.{front_at, contents_at}

-- What is read is spelled so, each octet of it, and within its limits.
abbrev pub ReadIsSpelled : Type 0 → Type 0
ReadIsSpelled E = (parts : List (Part E)) (octets rest : List ℕ) (contents : Contents parts) → IsOctets octets → front_at parts octets ≡ Ok (contents, rest)
    → (octets ≡ spellings parts contents ++ rest) × AreWithin parts contents

-- What is within its limits and spelled so is read, whatever stands behind it, if each field says itself where it ends.
abbrev pub SpelledIsRead : Type 0 → Type 0
SpelledIsRead E = (parts : List (Part E)) (contents : Contents parts) (rest : List ℕ) → IsTrue (are_delimited parts) → AreWithin parts contents
    → front_at parts (spellings parts contents ++ rest) ≡ Ok (contents, rest)

-- And so it is with nothing behind it, if each field but the last does.
abbrev pub WholeIsRead : Type 0 → Type 0
WholeIsRead E = (extra : E) (parts : List (Part E)) (contents : Contents parts) → IsTrue (are_closed parts) → AreWithin parts contents
    → contents_at extra parts (spellings parts contents) ≡ Ok contents

-- ---- which fault is told

-- a field that goes on to the end has nothing behind it
abbrev pub MayPrecede : Kind → List ℕ → Type 0
MayPrecede (Parameters most) rest = rest ≡ []
MayPrecede (Number size test) rest = Unit {0}
MayPrecede (Text limit) rest = Unit {0}
MayPrecede (Counted size most test) rest = Unit {0}

-- The content is within its limits and stands at the front of octets.
pub record Stands (kind : Kind) (octets : List ℕ) (content : Content kind) (rest : List ℕ) : Type 0 where
  pub within : IsWithin kind content
  pub parts : octets ≡ spelling kind content ++ rest
  pub last : MayPrecede kind rest

-- The fault is the first from the left: it is a word of the first part that has no content at its place, or the word for
-- octets behind the last part.
abbrev pub IsFirstFault : {E : Type 0} → E → List (Part E) → List ℕ → E → Type 0
IsFirstFault extra [] octets fault = (0 < length octets) × (fault ≡ extra)
IsFirstFault extra (first ∷ others) octets fault =
    (((content : Content first.kind) (rest : List ℕ) → Stands first.kind octets content rest → ⊥) × (defect : Defect) × (fault ≡ first.fault defect))
    ⊎ ((content : Content first.kind) × (rest : List ℕ) × Stands first.kind octets content rest × IsFirstFault extra others rest fault)

abbrev pub FirstFaultIsTold : Type 0 → Type 0
FirstFaultIsTold E = (extra : E) (parts : List (Part E)) (octets : List ℕ) (fault : E) → IsOctets octets → IsTrue (are_closed parts)
    → contents_at extra parts octets ≡ Err fault
    → IsFirstFault extra parts octets fault
