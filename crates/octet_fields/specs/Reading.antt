-- Fields are read from the front of octets, up to the first that has no spelling there.
use Rattle.std.specs.Prelude.{Bool, ◌≡◌, ℕ, zero, suc, List, [], ◌∷◌, length, take, drop, position, Option, Some, None, option_map, option_and_then, Result}
use Rattle.std.specs.Prelude.{Ok, Err, nat_lt, nat_le, ◌==◌, if◌then◌else◌}
use Rattle.std.specs.Int.{w16, w32, w64, from_be_bytes}
use Rattle.octet_fields.specs.declared.defect.Defect.{Defect}
use Rattle.octet_fields.specs.declared.defect.Defect.TheVariants.{Cut, Few, Long, Unfit}
use Rattle.octet_fields.specs.Kinds.{Size, One, Two, Four, Eight, Kind, Number, Text, Counted, Parameters, Content, Part, Contents}

infixl 10 ◌>>=◌
abbrev pub ◌>>=◌ : {A B E : Type 0} → Result A E → (A → Result B E) → Result B E
(Ok x) >>= f = f x
(Err e) >>= f = Err e

unfoldable pub number_at : Size → List ℕ → Result (ℕ × List ℕ) Defect
number_at One (a ∷ octets) = Ok (a, octets)
number_at Two (a ∷ b ∷ octets) = Ok (from_be_bytes w16 (a ∷ b ∷ []), octets)
number_at Four (a ∷ b ∷ c ∷ d ∷ octets) = Ok (from_be_bytes w32 (a ∷ b ∷ c ∷ d ∷ []), octets)
number_at Eight (a ∷ b ∷ c ∷ d ∷ e ∷ f ∷ g ∷ h ∷ octets) = Ok (from_be_bytes w64 (a ∷ b ∷ c ∷ d ∷ e ∷ f ∷ g ∷ h ∷ []), octets)
number_at size octets = Err Cut

-- A text ends at the first zero among the next octets, as many as its limit. If none of them is zero the text is too
-- long, and if the octets end before so many it is cut.
abbrev pub text_until : ℕ → List ℕ → Option ℕ → Result (List ℕ × List ℕ) Defect
text_until limit octets (Some place) = Ok (take place octets, drop (suc place) octets)
text_until limit octets None = if nat_le limit (length octets) then Err Long else Err Cut

unfoldable pub text_at : ℕ → List ℕ → Result (List ℕ × List ℕ) Defect
text_at limit octets = text_until limit octets (position (λ octet. octet == 0) (take limit octets))

-- so many octets, of at most so many
unfoldable pub taken_at : ℕ → ℕ → List ℕ → Result (List ℕ × List ℕ) Defect
taken_at most count octets =
    if nat_lt most count then Err Long
    else if nat_lt (length octets) count then Err Few
    else Ok (take count octets, drop count octets)

-- as many octets as the number in front of them says
abbrev pub counted_at : Size → ℕ → List ℕ → Result (List ℕ × List ℕ) Defect
counted_at size most octets = number_at size octets >>= λ x. taken_at most x.0 x.1

-- The optional parameter with which the octets begin, and the octets behind it; none where it is cut.
unfoldable pub tlv_at : List ℕ → Option ((ℕ × List ℕ) × List ℕ)
tlv_at (a ∷ b ∷ c ∷ d ∷ octets) =
    let count = from_be_bytes w16 (c ∷ d ∷ []) in
    if nat_lt (length octets) count then None
    else Some ((from_be_bytes w16 (a ∷ b ∷ []), take count octets), drop count octets)
tlv_at octets = None

-- an optional parameter in front of others
abbrev pub tlv_before : ℕ × List ℕ → Option (List (ℕ × List ℕ)) → Option (List (ℕ × List ℕ))
tlv_before tlv others = option_map (λ tlvs. tlv ∷ tlvs) others

-- The optional parameters that the octets are, at most as many as the first number; none where one is cut.
unfoldable pub tlvs_from : ℕ → List ℕ → Option (List (ℕ × List ℕ))
tlvs_from most [] = Some []
tlvs_from zero (octet ∷ octets) = None
tlvs_from (suc most) (octet ∷ octets) = option_and_then (λ x. tlv_before x.0 (tlvs_from most x.1)) (tlv_at (octet ∷ octets))

abbrev pub tlvs_or_defect : Option (List (ℕ × List ℕ)) → Result (List (ℕ × List ℕ) × List ℕ) Defect
tlvs_or_defect None = Err Cut
tlvs_or_defect (Some tlvs) = Ok (tlvs, [])

-- the optional parameters up to the end
unfoldable pub parameters_at : ℕ → List ℕ → Result (List (ℕ × List ℕ) × List ℕ) Defect
parameters_at most octets = if nat_lt most (length octets) then Err Long else tlvs_or_defect (tlvs_from (length octets) octets)

-- what passes a test
abbrev pub passing : {A : Type 0} → (A → Bool) → A × List ℕ → Result (A × List ℕ) Defect
passing test x = if test x.0 then Ok x else Err Unfit

-- what stands in the field at the front of octets, and the octets behind it
unfoldable pub content_at : (kind : Kind) → List ℕ → Result (Content kind × List ℕ) Defect
content_at (Number size test) octets = number_at size octets >>= λ x. passing test x
content_at (Text limit) octets = text_at limit octets
content_at (Counted size most test) octets = counted_at size most octets >>= λ x. passing test x
content_at (Parameters most) octets = parameters_at most octets

-- ---- fields one after another

-- a defect, in a format's own word
abbrev pub told : {A E : Type 0} → (Defect → E) → Result A Defect → Result A E
told fault (Ok x) = Ok x
told fault (Err defect) = Err (fault defect)

-- the fields at the front of octets, and the octets behind them
abbrev pub front_at : {E : Type 0} → (parts : List (Part E)) → List ℕ → Result (Contents parts × List ℕ) E
front_at [] octets = Ok (tt, octets)
front_at (first ∷ others) octets =
    told first.fault (content_at first.kind octets) >>= λ x. front_at others x.1 >>= λ y. Ok ((x.0, y.0), y.1)

-- no octet, and else that word for it
abbrev pub nothing_at : {E : Type 0} → E → List ℕ → Result (Unit {0}) E
nothing_at extra [] = Ok tt
nothing_at extra (octet ∷ octets) = Err extra

-- the fields, and no octet behind the last
abbrev pub contents_at : {E : Type 0} → E → (parts : List (Part E)) → List ℕ → Result (Contents parts) E
contents_at extra parts octets = front_at parts octets >>= λ x. nothing_at extra x.1 >>= λ _. Ok x.0

-- What a function returned, seen by view, is what reading gives.
abbrev pub IsRead : {X Y E : Type 0} → (X → Y) → Result X E → Result Y E → Type 0
IsRead view (Ok x) read = read ≡ Ok (view x)
IsRead view (Err fault) read = read ≡ Err fault
