-- Reading a body never tells of a wrong length, nor of memory: that fault is the program's alone.
use Rattle.std.proofs.Common.{◌≡◌, ℕ, Bool, true, false, cond, eqb, List, [], ◌∷◌, length, drop, Option, Some, None, Result, Ok, Err, refl, sym, ap, ◌∙◌}
use Rattle.std.proofs.lemmas.Bool.{and_parts, false≢true}
use Rattle.octet_fields.specs.declared.defect.Defect.{Defect}
use Rattle.octet_fields.specs.Kinds.{Part}
use Rattle.octet_fields.specs.Reading.{content_at, told, nothing_at}
use Rattle.pdu_tables.specs.declared.command.Command.{Command}
use Rattle.pdu_tables.specs.CommandCodes.{command_of}
use Rattle.pdu_fields.specs.declared.fault.PduFault.{PduFault}
use Rattle.pdu_fields.specs.declared.fault.PduFault.TheVariants as faults
use Rattle.pdu_fields.specs.Grammar.{Parts, ◌>>=◌, contents_at, front_at, word_at}
use Rattle.pdu_bodies.specs.Forms.{Form, Has, MayHave, form_of, parts_of, filling_at}
use Rattle.pdu_bodies.specs.Bodies.{body_from, body_at}
use Rattle.pdu_codec.specs.Pdu.{has_wrong_length, read_pdu}
use Rattle.pdu_codec.proofs.FormLaws.{is_of_body, tells_body, tell_body, body-fault}
use Rattle.pdu_codec.proofs.PduLaws.{with_body}
use Rattle.pdu_codec.proofs.PduSpelling.{served}

-- a fault, if there is one, is one of a body
abbrev pub TellsBody : {A : Type 0} → Result A PduFault → Type 0
TellsBody (Ok x) = Unit {0}
TellsBody (Err fault) = is_of_body fault ≡ true

pub never_told : {A : Type 0} (r : Result A PduFault) (fault : PduFault) → TellsBody r → is_of_body fault ≡ false → r ≡ Err fault → ⊥
never_told (Ok x) fault tells other same = absurd cc
never_told (Err d) fault tells other same =
    let is : d ≡ fault = cc in
    false≢true (sym other ∙ sym (ap is_of_body is) ∙ tells)

pub bind : {A B : Type 0} (r : Result A PduFault) (f : A → Result B PduFault) → TellsBody r → ((x : A) → TellsBody (f x)) → TellsBody (r >>= f)
bind (Ok x) f first next = next x
bind (Err e) f first next = first

choice : {A : Type 0} (b : Bool) (x y : Result A PduFault) → TellsBody x → TellsBody y → TellsBody (cond b x y)
choice true x y p q = p
choice false x y p q = q

named : {A : Type 0} (part : Part PduFault) (r : Result A Defect) → tells_body part ≡ true → TellsBody (told part.fault r)
named part (Ok x) tells = tt
named part (Err defect) tells = body-fault part tells defect

front : (parts : Parts) (octets : List ℕ) → tell_body parts ≡ true → TellsBody (front_at parts octets)
front [] octets tell = tt
front (first ∷ others) octets tell =
    let both = and_parts (tells_body first) (tell_body others) tell in
    bind (told first.fault (content_at first.kind octets)) (λ x. front_at others x.1 >>= λ y. Ok ((x.0, y.0), y.1))
    (named first (content_at first.kind octets) both.0)
    (λ x. bind (front_at others x.1) (λ y. Ok ((x.0, y.0), y.1)) (front others x.1 both.1) (λ y. tt))

ended : {A : Type 0} (c : A) (rest : List ℕ) → TellsBody (nothing_at faults.Extra rest >>= λ _. Ok c)
ended c [] = tt
ended c (octet ∷ octets) = refl

contents : (parts : Parts) (octets : List ℕ) → tell_body parts ≡ true → TellsBody (contents_at parts octets)
contents parts octets tell =
    bind (front_at parts octets) (λ x. nothing_at faults.Extra x.1 >>= λ _. Ok x.0) (front parts octets tell) (λ x. ended x.0 x.1)

filled : (form : Form) (octets : List ℕ) → tell_body (parts_of form) ≡ true → TellsBody (filling_at form octets)
filled (Has parts) octets tell = contents parts octets tell
filled (MayHave parts) octets tell =
    choice (eqb (length octets) 0) (Ok None) (contents_at parts octets >>= λ c. Ok (Some c)) tt
    (bind (contents_at parts octets) (λ c. Ok (Some c)) (contents parts octets tell) (λ c. tt))

pub body-tells : (command : Option Command) (octets : List ℕ) → TellsBody (body_at command octets)
unfolding body_at
body-tells None octets = refl
body-tells (Some command) octets =
    bind (filling_at (form_of command) octets) (λ f. Ok (body_from command f)) (filled (form_of command) octets (served command).told) (λ f. tt)

-- behind the header of a whole PDU
behind_tells : (octets : List ℕ) → TellsBody (body_at (command_of (word_at 4 octets)) (drop 16 octets) >>= λ b. Ok (with_body octets b))
behind_tells octets =
    let command = command_of (word_at 4 octets) in
    bind (body_at command (drop 16 octets)) (λ b. Ok (with_body octets b)) (body-tells command (drop 16 octets)) (λ b. tt)

-- nor does reading a whole PDU, if its length is right
pub pdu-tells : (octets : List ℕ) → has_wrong_length octets ≡ false → TellsBody (read_pdu octets)
unfolding read_pdu
pdu-tells octets right = rw right (behind_tells octets)

length_or : {A : Type 0} (b : Bool) (r : Result A PduFault) → TellsBody r → ◌≡◌ {A = Result A PduFault} (cond b (Err faults.Length) r) (Err faults.Memory) → ⊥
length_or true r tells same = absurd cc
length_or false r tells same = never_told r faults.Memory tells refl same

pub read_pdu-no_memory : (octets : List ℕ) → read_pdu octets ≡ Err faults.Memory → ⊥
unfolding read_pdu
read_pdu-no_memory octets same =
    length_or (has_wrong_length octets) (body_at (command_of (word_at 4 octets)) (drop 16 octets) >>= λ b. Ok (with_body octets b)) (behind_tells octets) same
