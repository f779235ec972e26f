-- Forms: what is read is spelled so and within its limits, and what is spelled so is read.
use Rattle.std.proofs.Common.{◌≡◌, ℕ, ◌+◌, ◌<◌, ◌≤◌, Bool, true, false, ◌&&◌, eqb, leb, cond, List, [], ◌∷◌, length, Option, Some, None}
use Rattle.std.proofs.Common.{Result, Ok, Err, refl, ap}
use Rattle.std.proofs.Common.{◌∙◌, arith, length-append}
use Rattle.std.proofs.lemmas.Bool.{and_parts, false≢true, ne_eqb, eqb-true, leb-true}
use Rattle.std.proofs.lemmas.List.{nil_from_length}
use Rattle.octet_fields.specs.declared.defect.Defect.{Defect}
use Rattle.octet_fields.specs.declared.defect.Defect.TheVariants.{Cut, Few, Long, Unfit}
use Rattle.octet_fields.specs.declared.defect.Defect.TheVariants as defects
use Rattle.octet_fields.specs.Kinds.{Size, One, Two, Four, Eight, Kind, Number, Text, Counted, Parameters, Part, Content, Contents}
use Rattle.octet_fields.specs.Kinds.{number_octets, spelling, spellings, IsWithin, AreWithin, is_delimited, are_closed}
use Rattle.octet_fields.proofs.Octets.{bind_ok}
use Rattle.octet_fields.specs.Laws.{IsFirstFault}
use Rattle.octet_fields.proofs.Records.{whole_takes, whole_again, first_fault}
use Rattle.pdu_fields.specs.declared.fault.PduFault.{PduFault}
use Rattle.pdu_fields.specs.declared.fault.PduFault.TheVariants.{Extra, Length, Memory}
use Rattle.pdu_fields.specs.Text.{IsOctets}
use Rattle.pdu_fields.specs.Grammar.{Parts, ◌>>=◌, contents_at}
use Rattle.pdu_bodies.specs.Forms.{Form, Has, MayHave, parts_of, Filling, filling_octets, FillingFits, filling_at}

-- the most octets that a field and fields may have
abbrev width : Size → ℕ
width One = 1
width Two = 2
width Four = 4
width Eight = 8

width-is : (size : Size) (number : ℕ) → length (number_octets size number) ≡ width size
width-is One number = refl
width-is Two number = refl
width-is Four number = refl
width-is Eight number = refl

abbrev most_of : Kind → ℕ
most_of (Number size test) = width size
most_of (Text limit) = limit
most_of (Counted size most test) = width size + most
most_of (Parameters most) = most

spelling-short : (kind : Kind) (c : Content kind) → IsWithin kind c → length (spelling kind c) ≤ most_of kind
spelling-short (Number size test) c within = omega (arith, width-is size c)
spelling-short (Text limit) c within = omega (arith, within.short, length-append c (0 ∷ []))
spelling-short (Counted size most test) c within =
    omega (arith, within.0, width-is size (length c), length-append (number_octets size (length c)) c)
spelling-short (Parameters most) c within = within.most

abbrev most_in : Parts → ℕ
most_in [] = 0
most_in (first ∷ others) = most_of first.kind + most_in others

spellings-short : (parts : Parts) (c : Contents parts) → AreWithin parts c → length (spellings parts c) ≤ most_in parts
spellings-short [] c within = omega arith
spellings-short (first ∷ others) c within =
    omega (arith, spelling-short first.kind c.0 within.0, spellings-short others c.1 within.1, length-append (spelling first.kind c.0) (spellings others c.1))

-- a field that ends by itself has an octet
width-some : (size : Size) → 0 < width size
width-some One = omega arith
width-some Two = omega arith
width-some Four = omega arith
width-some Eight = omega arith

spelling-some : (kind : Kind) (c : Content kind) → is_delimited kind ≡ true → 0 < length (spelling kind c)
spelling-some (Number size test) c delimited = omega (arith, width-is size c, width-some size)
spelling-some (Text limit) c delimited = omega (arith, length-append c (0 ∷ []))
spelling-some (Counted size most test) c delimited =
    omega (arith, width-is size (length c), width-some size, length-append (number_octets size (length c)) c)
spelling-some (Parameters most) c delimited = absurd (false≢true delimited)

-- ---- words for defects

-- Whether it may be told of a body: a wrong length and a want of memory are not.
abbrev pub is_of_body : PduFault → Bool
is_of_body Length = false
is_of_body Memory = false
is_of_body other = true

-- each defect of the part is called a fault of a body
abbrev pub tells_body : Part PduFault → Bool
tells_body part =
    is_of_body (part.fault Cut)
    && (is_of_body (part.fault Few) && (is_of_body (part.fault Long) && (is_of_body (part.fault Unfit) && is_of_body (part.fault defects.Extra))))

abbrev pub tell_body : Parts → Bool
tell_body [] = true
tell_body (first ∷ others) = tells_body first && tell_body others

pub body-fault : (part : Part PduFault) → tells_body part ≡ true → (defect : Defect) → is_of_body (part.fault defect) ≡ true
body-fault part tells defect =
    let told : Defect → Bool = λ d. is_of_body (part.fault d) in
    let cut = and_parts (told Cut) (told Few && (told Long && (told Unfit && told defects.Extra))) tells in
    let few = and_parts (told Few) (told Long && (told Unfit && told defects.Extra)) cut.1 in
    let long = and_parts (told Long) (told Unfit && told defects.Extra) few.1 in
    let unfit = and_parts (told Unfit) (told defects.Extra) long.1 in
    elim defect as (λ d. told d ≡ true) [
      | Cut ↦ cut.0
      | Few ↦ few.0
      | Long ↦ long.0
      | Unfit ↦ unfit.0
      | defects.Extra ↦ unfit.1
    ]

-- ---- forms

pub record TakesForm (octets : List ℕ) (form : Form) (filling : Filling form) : Type 0 where
  pub spelled : octets ≡ filling_octets form filling
  pub fits : FillingFits form filling

pub form_takes : (form : Form) (octets : List ℕ) (filling : Filling form) → IsOctets octets → filling_at form octets ≡ Ok filling →
    TakesForm octets form filling
form_takes (Has parts) octets filling are e =
    let all = whole_takes Extra parts octets filling are e in
    record { spelled = all.spelled; fits = all.within }
form_takes (MayHave parts) octets None are e = left_out (eqb (length octets) 0) refl e
  where
    left_out : (b : Bool) → eqb (length octets) 0 ≡ b →
        ◌≡◌ {A = Result (Option (Contents parts)) PduFault} (cond b (Ok None) (contents_at parts octets >>= λ c. Ok (Some c))) (Ok None) →
        TakesForm octets (MayHave parts) None
    left_out true empty e = record { spelled = nil_from_length octets (eqb-true _ _ empty); fits = tt }
    left_out false some e =
        let b = bind_ok (contents_at parts octets) (λ c. Ok (Some c)) None e in
        let clash = b.2 in
        absurd cc
form_takes (MayHave parts) octets (Some c) are e = there (eqb (length octets) 0) e
  where
    there : (b : Bool) → ◌≡◌ {A = Result (Option (Contents parts)) PduFault}
        (cond b (Ok None) (contents_at parts octets >>= λ d. Ok (Some d))) (Ok (Some c)) →
        TakesForm octets (MayHave parts) (Some c)
    there true e = absurd cc
    there false e =
        let b = bind_ok (contents_at parts octets) (λ d. Ok (Some d)) (Some c) e in
        let given = b.2 in
        let same : b.0 ≡ c = cc in
        let all = whole_takes Extra parts octets c are (b.1 ∙ ap Ok same) in
        record { spelled = all.spelled; fits = all.within }

-- fields that may be left out begin with one that has an octet, so that they are seen to be there
abbrev has_octet : Parts → Bool
has_octet [] = false
has_octet (first ∷ others) = is_delimited first.kind

abbrev pub is_sound : Form → Bool
is_sound (Has parts) = are_closed parts && leb (most_in parts) 7400
is_sound (MayHave parts) = has_octet parts && (are_closed parts && leb (most_in parts) 7400)

spellings-some : (parts : Parts) (c : Contents parts) → has_octet parts ≡ true → 0 < length (spellings parts c)
spellings-some [] c some = absurd (false≢true some)
spellings-some (first ∷ others) c some =
    omega (arith, spelling-some first.kind c.0 some, length-append (spelling first.kind c.0) (spellings others c.1))

pub form_again : (form : Form) (filling : Filling form) → is_sound form ≡ true → FillingFits form filling →
    filling_at form (filling_octets form filling) ≡ Ok filling
form_again (Has parts) c sound fits = whole_again Extra parts c (and_parts (are_closed parts) (leb (most_in parts) 7400) sound).0 fits
form_again (MayHave parts) None sound fits = refl
form_again (MayHave parts) (Some c) sound fits =
    let both = and_parts (has_octet parts) (are_closed parts && leb (most_in parts) 7400) sound in
    let delimited = (and_parts (are_closed parts) (leb (most_in parts) 7400) both.1).0 in
    let octets = spellings parts c in
    let some : eqb (length octets) 0 ≡ false = ne_eqb (length octets) 0 (λ none. absurd (omega (arith, none, spellings-some parts c both.0))) in
    ap (λ (b : Bool). cond b (Ok None) (contents_at parts octets >>= λ d. Ok (Some d))) some
    ∙ ap (λ (r : Result (Contents parts) PduFault). r >>= λ d. Ok (Some d)) (whole_again Extra parts c delimited fits)

pub form-short : (form : Form) (filling : Filling form) → is_sound form ≡ true → FillingFits form filling → length (filling_octets form filling) ≤ 7400
form-short (Has parts) c sound fits =
    omega (arith, spellings-short parts c fits, leb-true (most_in parts) 7400 (and_parts (are_closed parts) (leb (most_in parts) 7400) sound).1)
form-short (MayHave parts) None sound fits = omega arith
form-short (MayHave parts) (Some c) sound fits =
    let both = and_parts (has_octet parts) (are_closed parts && leb (most_in parts) 7400) sound in
    omega (arith, spellings-short parts c fits, leb-true (most_in parts) 7400 (and_parts (are_closed parts) (leb (most_in parts) 7400) both.1).1)

-- ---- the first fault

pub bind_err : {A B : Type 0} (r : Result A PduFault) (f : A → B) (fault : PduFault) → (r >>= λ x. Ok (f x)) ≡ Err fault → r ≡ Err fault
bind_err (Ok x) f fault e = absurd cc
bind_err (Err d) f fault e = cc

pub form_first_fault : (form : Form) (octets : List ℕ) (fault : PduFault) → IsOctets octets → is_sound form ≡ true →
    filling_at form octets ≡ Err fault →
    IsFirstFault Extra (parts_of form) octets fault
form_first_fault (Has parts) octets fault are sound e =
    first_fault Extra parts octets fault are (and_parts (are_closed parts) (leb (most_in parts) 7400) sound).0 e
form_first_fault (MayHave parts) octets fault are sound e = by (eqb (length octets) 0) e
  where
    by : (b : Bool) →
        ◌≡◌ {A = Result (Option (Contents parts)) PduFault} (cond b (Ok None) (contents_at parts octets >>= λ c. Ok (Some c))) (Err fault) →
        IsFirstFault Extra parts octets fault
    by true e = absurd cc
    by false e =
        let both = and_parts (has_octet parts) (are_closed parts && leb (most_in parts) 7400) sound in
        first_fault Extra parts octets fault are (and_parts (are_closed parts) (leb (most_in parts) 7400) both.1).0
        (bind_err (contents_at parts octets) (λ c. Some c) fault e)
