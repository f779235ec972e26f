-- What has come from an ESME (SMPP 3.4, section 3.2).
use Rattle.std.specs.Prelude.{◌≡◌, ℕ, List, Ok}
use Rattle.pdu_bodies.specs.declared.pdu.Pdu.{Pdu}
use Rattle.pdu_codec.specs.Pdu.{read_pdu}

-- the PDU is what the octets of a frame are read as
pub record HasCome (pdu : Pdu) : Type 0 where
  pub frame : List ℕ
  pub read : read_pdu frame ≡ Ok pdu
