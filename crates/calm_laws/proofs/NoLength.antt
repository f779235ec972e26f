-- A whole frame is not read to have a wrong length.
use Rattle.std.proofs.Common.{◌≡◌, ℕ, false, List, length, Err, refl}
use Rattle.std.proofs.lemmas.Bool.{le-ltb, eq-eqb}
use Rattle.pdu_fields.specs.declared.fault.PduFault.TheVariants as faults
use Rattle.pdu_codec.specs.Grammar.{word_at}
use Rattle.pdu_codec.specs.Pdu.{has_wrong_length, read_pdu}
use Rattle.pdu_codec.proofs.BodyFaults.{never_told, pdu-tells}
use Rattle.pdu_frames.specs.Frames.{IsFrame}
use Rattle.pdu_frames.proofs.Fronts.{within_limits}

right_length : (octets : List ℕ) → IsFrame octets → has_wrong_length octets ≡ false
right_length octets frame =
    let limits = within_limits (length octets) frame.allowed in
    rw (le-ltb (length octets) 16 limits.0, le-ltb 8192 (length octets) limits.1, eq-eqb (word_at 0 octets) (length octets) frame.counted) refl

pub whole_frame : (octets : List ℕ) → IsFrame octets → read_pdu octets ≡ Err faults.Length → ⊥
whole_frame octets frame = never_told (read_pdu octets) faults.Length (pdu-tells octets (right_length octets frame)) refl
