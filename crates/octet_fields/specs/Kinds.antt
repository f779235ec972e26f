-- The kinds of field of which PDUs and records are made: what may stand in a field, and its octets.
use Rattle.std.specs.Prelude.{Bool, true, false, ℕ, ◌<◌, ◌≤◌, ◌^◌, List, [], ◌∷◌, ◌++◌, length, nat_lt, nat_le, not, ◌==◌, ◌&&◌, IsTrue}
use Rattle.std.specs.List.{list_any}
use Rattle.std.specs.Int.{w16, w32, w64, to_be_bytes}
use Rattle.octet_fields.specs.declared.defect.Defect.{Defect}
use Rattle.octet_fields.specs.Texts.{IsText, AreParameters, optional_octets}

-- how many octets a number has
pub data Size : Type 0 where
  One : Size
  Two : Size
  Four : Size
  Eight : Size

-- a number of that size is below it
abbrev pub capacity : Size → ℕ
capacity One = 2 ^ 8
capacity Two = 2 ^ 16
capacity Four = 2 ^ 32
capacity Eight = 2 ^ 64

-- The kinds of field: a number that passes a test; a C-octet string, whose octets and the zero that ends it are no more
-- than a limit (SMPP 3.4, 3.1); octets behind their number, no more than so many, that pass a test; and optional
-- parameters up to the end, of no more octets than so many (SMPP 3.4, 3.2.4).
pub data Kind : Type 0 where
  Number : Size → (ℕ → Bool) → Kind
  Text : ℕ → Kind
  Counted : Size → ℕ → (List ℕ → Bool) → Kind
  Parameters : ℕ → Kind

-- a number; octets, those of a text without its zero, and those behind a number without it; or optional parameters, each
-- as tag and value
abbrev pub Content : Kind → Type 0
Content (Number size test) = ℕ
Content (Text limit) = List ℕ
Content (Counted size most test) = List ℕ
Content (Parameters most) = List (ℕ × List ℕ)

-- ---- tests

-- what any number and any octets pass
abbrev pub any : {A : Type 0} → A → Bool
any x = true

abbrev pub is_between : ℕ → ℕ → ℕ → Bool
is_between least most number = nat_le least number && nat_le number most

-- whether octets are a text below a limit
abbrev pub is_text : ℕ → List ℕ → Bool
is_text limit text = nat_lt (length text) limit && not (list_any (λ octet. octet == 0) text)

-- ---- the octets of a field

-- the highest octet first
abbrev pub number_octets : Size → ℕ → List ℕ
number_octets One number = number ∷ []
number_octets Two number = to_be_bytes w16 number
number_octets Four number = to_be_bytes w32 number
number_octets Eight number = to_be_bytes w64 number

abbrev pub spelling : (kind : Kind) → Content kind → List ℕ
spelling (Number size test) number = number_octets size number
spelling (Text limit) text = text ++ 0 ∷ []
spelling (Counted size most test) octets = number_octets size (length octets) ++ octets
spelling (Parameters most) tlvs = optional_octets tlvs

-- what may stand in a field
abbrev pub IsWithin : (kind : Kind) → Content kind → Type 0
IsWithin (Number size test) number = (number < capacity size) × IsTrue (test number)
IsWithin (Text limit) text = IsText limit text
IsWithin (Counted size most test) octets = (length octets ≤ most) × IsTrue (test octets)
IsWithin (Parameters most) tlvs = AreParameters most tlvs

-- ---- fields one after another

-- A field of a format: its kind, and the format's own word for what may be wrong with it.
pub record Part (E : Type 0) : Type 0 where
  pub kind : Kind
  pub fault : Defect → E

abbrev pub Contents : {E : Type 0} → List (Part E) → Type 0
Contents [] = Unit {0}
Contents (first ∷ others) = Content first.kind × Contents others

abbrev pub spellings : {E : Type 0} → (parts : List (Part E)) → Contents parts → List ℕ
spellings [] contents = []
spellings (first ∷ others) contents = spelling first.kind contents.0 ++ spellings others contents.1

abbrev pub AreWithin : {E : Type 0} → (parts : List (Part E)) → Contents parts → Type 0
AreWithin [] contents = Unit {0}
AreWithin (first ∷ others) contents = IsWithin first.kind contents.0 × AreWithin others contents.1

-- what stands in the fields of a front, and what stands in those behind it
abbrev pub join : {E : Type 0} (front back : List (Part E)) → Contents front → Contents back → Contents (front ++ back)
join [] back c d = d
join (first ∷ others) back c d = (c.0, join others back c.1 d)

-- ---- whether a list of fields can be read again

-- the numbers in front of octets can say how many they are
abbrev pub is_sized : Kind → Bool
is_sized (Counted size most test) = nat_lt most (capacity size)
is_sized (Number size test) = true
is_sized (Text limit) = true
is_sized (Parameters most) = nat_le most 65535

-- the field says itself where it ends
abbrev pub is_delimited : Kind → Bool
is_delimited (Parameters most) = false
is_delimited (Counted size most test) = is_sized (Counted size most test)
is_delimited (Number size test) = true
is_delimited (Text limit) = true

abbrev pub are_delimited : {E : Type 0} → List (Part E) → Bool
are_delimited [] = true
are_delimited (first ∷ others) = is_delimited first.kind && are_delimited others

-- only the last field may go on to the end
abbrev pub are_closed : {E : Type 0} → List (Part E) → Bool
are_closed [] = true
are_closed (last ∷ []) = is_sized last.kind
are_closed (first ∷ second ∷ others) = is_delimited first.kind && are_closed (second ∷ others)
