-- A PDU and its octets.
use Rattle.std.specs.Prelude.{Bool, ◌≡◌, ℕ, ◌<◌, ◌^◌, ◌+◌, List, ◌++◌, length, drop, Result, Ok, Err, nat_lt, ◌==◌, ◌||◌, not, if◌then◌else◌}
use Rattle.std.specs.Int.{w32, to_be_bytes}
use Rattle.pdu_tables.specs.CommandCodes.{command_code, command_of}
use Rattle.pdu_fields.specs.declared.fault.PduFault.{PduFault}
use Rattle.pdu_fields.specs.declared.fault.PduFault.TheVariants as faults
use Rattle.pdu_bodies.specs.declared.pdu.Pdu.{Pdu}
use Rattle.pdu_fields.specs.Grammar.{word_at, ◌>>=◌}
use Rattle.pdu_bodies.specs.Bodies.{command_in, body_octets, BodyFits, body_at}

-- The octets of a PDU of a command with this body: command_length, command_id, command_status and sequence_number, then
-- those of the body.
unfoldable pub framed : ℕ → ℕ → ℕ → List ℕ → List ℕ
framed command status sequence body =
    to_be_bytes w32 (16 + length body) ++ to_be_bytes w32 command ++ to_be_bytes w32 status ++ to_be_bytes w32 sequence ++ body

unfoldable pub octets_of : Pdu → List ℕ
octets_of pdu = framed (command_code (command_in pdu.body)) pdu.status pdu.sequence (body_octets pdu.body)

-- what each PDU of the program is: its numbers have four octets, and its fields are within their limits
pub record Fits (pdu : Pdu) : Type 0 where
  pub status : pdu.status < 2 ^ 32
  pub sequence : pdu.sequence < 2 ^ 32
  pub body : BodyFits pdu.body

-- ---- reading

-- fewer than 16 octets, more than 8,192, or not as many as command_length says
abbrev pub has_wrong_length : List ℕ → Bool
has_wrong_length octets = nat_lt (length octets) 16 || nat_lt 8192 (length octets) || not (word_at 0 octets == length octets)

-- the PDU that the octets are, or the first fault
unfoldable pub read_pdu : List ℕ → Result Pdu PduFault
read_pdu octets =
    if has_wrong_length octets then Err faults.Length
    else body_at (command_of (word_at 4 octets)) (drop 16 octets)
    >>= λ body. Ok (record { status = word_at 8 octets; sequence = word_at 12 octets; body = body })

-- What a function returned is what reading gives, unless memory ran out.
abbrev pub Gives : {A : Type 0} → Result A PduFault → Result A PduFault → Type 0
Gives (Ok x) read = read ≡ Ok x
Gives (Err faults.Memory) read = Unit {0}
Gives (Err fault) read = read ≡ Err fault
