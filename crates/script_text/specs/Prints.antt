-- What a script prints, and its octets.
use Rattle.std.specs.Prelude.{ℕ, Bool, List, [], ◌∷◌, ◌++◌, codes}
use Rattle.std.specs.List.{flat_map}
use Rattle.std.specs.Fmt.{decimal}
use Rattle.hex.specs.Hex.{encode_lower}
use Rattle.pdu_codec.specs.Pdu.{octets_of}
use Rattle.pdu_bodies.specs.declared.pdu.Pdu.{Pdu}
use Rattle.receipts.specs.Texts.{Report}
pub use Rattle.esme_service.specs.Reports.{report_pdu}

pub data Print : Type 0 where
  -- on this session a PDU goes out, in the step of what it answers
  AtOnce : ℕ → Pdu → Print
  -- on this session a PDU goes out that answers a request that waited, for the message of this id
  Late : ℕ → ℕ → Pdu → Print
  -- on this session a deliver_sm goes out
  Delivers : ℕ → Pdu → Print
  -- On this session a deliver_sm goes out with this sequence_number, for an ESME that knows optional parameters or does not: the receipt of
  -- this report.
  Reports : ℕ → ℕ → Bool → Report → Print
  -- this session is gone
  Gone : ℕ → Print
  -- what the line asks for is refused, with this number
  Declined : ℕ → Print
  -- an attempt that was asked for is not granted, for the reason of this number
  Ungranted : ℕ → Print

-- the line of octets that go out at a node, on a session
abbrev pub octets_line : ℕ → ℕ → List ℕ → List ℕ
octets_line node session octets = codes "pdu " ++ decimal node ++ codes " " ++ decimal session ++ codes " " ++ encode_lower octets ++ 10 ∷ []

-- the line of a PDU
abbrev pub pdu_line : ℕ → ℕ → Pdu → List ℕ
pdu_line node session pdu = octets_line node session (octets_of pdu)

-- the line of a session of a node that is gone
abbrev pub gone_line : ℕ → ℕ → List ℕ
gone_line node session = codes "gone " ++ decimal node ++ codes " " ++ decimal session ++ 10 ∷ []

abbrev pub unsettled_line : List ℕ
unsettled_line = codes "unsettled" ++ 10 ∷ []

abbrev pub declined_line : ℕ → List ℕ
declined_line number = codes "refused " ++ decimal number ++ 10 ∷ []

-- a grant is refused with 3, and its own reason (own)
abbrev pub ungranted_line : ℕ → List ℕ
ungranted_line reason = codes "refused 3 " ++ decimal reason ++ 10 ∷ []

-- the line of what a node prints: a refusal does not name it
abbrev pub line_at : ℕ → Print → List ℕ
line_at node (AtOnce session pdu) = pdu_line node session pdu
line_at node (Late session id pdu) = pdu_line node session pdu
line_at node (Delivers session pdu) = pdu_line node session pdu
line_at node (Reports session sequence optional report) = pdu_line node session (report_pdu sequence optional report)
line_at node (Gone session) = gone_line node session
line_at node (Declined number) = declined_line number
line_at node (Ungranted reason) = ungranted_line reason

-- the text of what a node prints
abbrev pub text_at : ℕ → List Print → List ℕ
text_at node prints = flat_map (line_at node) prints

-- ---- of all nodes

pub data WorldPrint : Type 0 where
  -- a node prints this
  At : ℕ → Print → WorldPrint
  -- what the line asks for is refused, with this number
  Refuses : ℕ → WorldPrint
  -- a settle has delivered as many packets as it may
  StopsSettling : WorldPrint

abbrev pub world_line : WorldPrint → List ℕ
world_line (At node print) = line_at node print
world_line (Refuses number) = declined_line number
world_line StopsSettling = unsettled_line

-- the text of what is printed
abbrev pub world_text : List WorldPrint → List ℕ
world_text prints = flat_map world_line prints
