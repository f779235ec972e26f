-- The laws of the format, for all octets and all PDUs.
use Rattle.std.specs.Prelude.{◌≡◌, ◌≢◌, ℕ, List, Some, Ok, Err}
use Rattle.octet_fields.specs.Laws.{IsFirstFault}
use Rattle.pdu_tables.specs.declared.command.Command.{Command}
use Rattle.pdu_fields.specs.declared.fault.PduFault.{PduFault}
use Rattle.pdu_fields.specs.declared.fault.PduFault.TheVariants.{Extra, Memory}
use Rattle.pdu_bodies.specs.Forms.{form_of, parts_of}
use Rattle.pdu_bodies.specs.Bodies.{body_at}
use Rattle.pdu_bodies.specs.declared.pdu.Pdu.{Pdu}
use Rattle.pdu_fields.specs.Text.{IsOctets}
use Rattle.pdu_codec.specs.Pdu.{octets_of, Fits, read_pdu}

-- What is read is spelled so, each octet of it, and its fields are within their limits.
abbrev pub ReadIsWritten : Type 0
ReadIsWritten = (octets : List ℕ) (pdu : Pdu) → IsOctets octets → read_pdu octets ≡ Ok pdu → (octets ≡ octets_of pdu) × Fits pdu

-- What is spelled so, by fields within their limits, is read. So no PDU has two spellings, and no octets are two PDUs.
abbrev pub WrittenIsRead : Type 0
WrittenIsRead = (pdu : Pdu) → Fits pdu → read_pdu (octets_of pdu) ≡ Ok pdu

-- The fault of a body is the first from the left: in front of it stand the fields before, and no content of its field; or
-- all fields stand there, and octets behind them.
abbrev pub FirstFaultIsTold : Type 0
FirstFaultIsTold = (command : Command) (octets : List ℕ) (fault : PduFault) → IsOctets octets → body_at (Some command) octets ≡ Err fault
    → IsFirstFault Extra (parts_of (form_of command)) octets fault

-- No octets are read as want of memory: that fault is the program's alone.
abbrev pub NoneWantMemory : Type 0
NoneWantMemory = (octets : List ℕ) → read_pdu octets ≢ Err Memory
