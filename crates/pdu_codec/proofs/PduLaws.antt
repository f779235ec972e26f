-- Reading a whole PDU.
use Rattle.std.proofs.Common.{◌≡◌, ℕ, ◌≤◌, List, length, take, drop, length-drop, ◌-◌, Option, Result, Ok, Err, IsOk, inl, inr, refl, ◌∙◌, arith}
use Rattle.std.proofs.lemmas.Bool.{le-ltb, eq-eqb}
use Rattle.std.proofs.lemmas.List.{take_all}
use Rattle.pdu_tables.specs.declared.command.Command.{Command}
use Rattle.pdu_tables.specs.CommandCodes.{command_of}
use Rattle.pdu_fields.specs.declared.fault.PduFault.{PduFault}
use Rattle.pdu_fields.specs.declared.fault.PduFault.TheVariants as faults
use Rattle.pdu_fields.specs.declared.fault.PduFault.TheVariants.{Memory, Length, Cut, LongText, TextLength, Tlvs, Extra}
use Rattle.pdu_fields.specs.Grammar.{◌>>=◌, word_at}
use Rattle.pdu_bodies.specs.declared.pdu.Pdu.{Pdu}
use Rattle.pdu_bodies.specs.declared.pdu.Body.{Body}
use Rattle.pdu_bodies.specs.Bodies.{body_at}
use Rattle.pdu_bodies.specs.Made.{Fails}
use Rattle.pdu_codec.specs.Pdu.{Gives, read_pdu}

abbrev pub with_body : List ℕ → Body → Pdu
with_body octets body = record { status = word_at 8 octets; sequence = word_at 12 octets; body = body }

-- octets of the right length are read by their body
pub read_pdu-whole : (octets rest : List ℕ) (command : Option Command) → 16 ≤ length octets → length octets ≤ 8192 →
    word_at 0 octets ≡ length octets → command ≡ command_of (word_at 4 octets) → rest ≡ take (length octets - 16) (drop 16 octets) →
    read_pdu octets ≡ (body_at command rest >>= λ body. Ok (with_body octets body))
unfolding read_pdu
read_pdu-whole octets rest command long short same command_is rest_is =
    let behind : rest ≡ drop 16 octets = rest_is ∙ take_all (length octets - 16) (drop 16 octets) (omega (arith, length-drop 16 octets)) in
    rw (le-ltb (length octets) 16 long, le-ltb 8192 (length octets) short, eq-eqb (word_at 0 octets) (length octets) same, command_is, behind) refl

-- the two clauses of a fault, from that of the body
pub Gives-from_made : {A : Type 0} (read : Result A PduFault) (fault : PduFault) → Fails fault read → Gives {A = A} (Err fault) read
Gives-from_made read Memory made = tt
Gives-from_made read Length (inl e) = e
Gives-from_made read faults.Command (inl e) = e
Gives-from_made read (Cut field) (inl e) = e
Gives-from_made read (LongText field) (inl e) = e
Gives-from_made read TextLength (inl e) = e
Gives-from_made read Tlvs (inl e) = e
Gives-from_made read Extra (inl e) = e
Gives-from_made read fault (inr memory) = absurd cc

-- want of memory, where reading doesn't tell of it
pub IsOk-from_made : {A : Type 0} (read result : Result A PduFault) (fault told : PduFault) → Fails fault read →
    (◌≡◌ {A = Result A PduFault} read (Err Memory) → ⊥) → ◌≡◌ {A = Result A PduFault} result (Err told) → told ≡ fault →
    ◌≡◌ {A = Result A PduFault} result (Err Memory) →
    IsOk read
IsOk-from_made read result fault told (inl same) never is same_fault memory = absurd (never (cc))
IsOk-from_made read result fault told (inr made) never is same_fault memory = made.1
