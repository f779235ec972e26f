-- What is written is within its limits.
use Rattle.std.proofs.Common.{ℕ, ◌<◌, ◌≤◌, List, refl, arith}
use Rattle.mc_model.specs.message.Ids.{IsMoment}
use Rattle.octet_fields.specs.Kinds.{IsWithin}
use Rattle.octet_fields.proofs.Fields.{is_between-told, is_text-told}
use Rattle.pdu_codec.specs.Text.{IsText}
use Rattle.fate_chain.specs.Bytes.{octet, moment, text}

pub octet_within : (n : ℕ) → n < 256 → IsWithin octet.kind n
octet_within n below = (below, refl)

pub moment_within : (n : ℕ) → IsMoment n → IsWithin moment.kind n
moment_within n is = (omega (arith, is.most), is_between-told 946684800 4102444799 n is.least is.most)

pub text_within : (limit : ℕ) (octets : List ℕ) → limit ≤ 256 → IsText limit octets → IsWithin (text limit).kind octets
text_within limit octets few is = (omega (arith, is.short), is_text-told limit octets is)
