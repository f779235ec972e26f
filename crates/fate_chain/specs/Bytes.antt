-- The octets of a chain, all numbers with their highest octet first: the format's number; the id; how many decrees there are; each decree, the
-- oldest first. Chains are written in format 2. Format 1, which earlier programs wrote, is read, too: it differs in the text of a message, and
-- tells no receipts.
use Rattle.std.specs.Prelude.{Bool, IsTrue, ℕ, zero, suc, ◌≡◌, ◌≤◌, ◌==◌, List, [], ◌∷◌, ◌++◌, length, Option, Some, None, Result, Ok, Err, is_ok, if◌then◌else◌}
use Rattle.mc_model.specs.message.Ids.{IsId}
use Rattle.mc_model.specs.message.Submission.{Submission}
use Rattle.mc_model.specs.message.Decree.{Kind, Taken, Attempt, Failed, Fate, Told, Decree}
use Rattle.mc_model.specs.message.Chain.{Chain, IsPermitted}
use Rattle.mc_types.specs.Texts.{is_id}
use Rattle.octet_fields.specs.declared.defect.Defect.{Defect}
use Rattle.octet_fields.specs.declared.defect.Defect.TheVariants.{Unfit, Extra}
use Rattle.octet_fields.specs.Kinds.{Kind as FieldKind, Size, One, Two, Four, Eight, Number, Counted, any, is_between, is_text, Part}
use Rattle.octet_fields.specs.Kinds.{Contents, spellings, AreWithin}
use Rattle.octet_fields.specs.Reading.{◌>>=◌, front_at, nothing_at, passing}
use Rattle.pdu_codec.specs.Text.{AreOptional, optional_octets}
use Rattle.pdu_codec.specs.Grammar.{optional_at}
use Rattle.pdu_codec.specs.Tlv.{tlvs_in}
use Rattle.fate_chain.specs.declared.format.Format.{Format}
use Rattle.fate_chain.specs.declared.format.Format.TheVariants.{First, Second}
use Rattle.fate_chain.specs.declared.fault.ChainFault.{ChainFault}
use Rattle.fate_chain.specs.declared.fault.ChainFault.TheVariants.{NotPermitted, NotBytes, Memory}
use Rattle.fate_chain.specs.Content.{has_room, most_short, most_text}
use Rattle.fate_chain.specs.States.{final_code, final_in}

-- ---- the formats

abbrev pub format_number : Format → ℕ
format_number First = 1
format_number Second = 2

-- how many octets the length of the text of a message has, and the text at most
abbrev pub length_size : Format → Size
length_size First = One
length_size Second = Two

abbrev pub longest : Format → ℕ
longest First = most_short
longest Second = most_text

-- the highest number of a kind of decree
abbrev pub most_kind : Format → ℕ
most_kind First = 4
most_kind Second = 5

-- ---- the fields of chains

-- a field of which a defect is told as it is
abbrev pub field : FieldKind → Part Defect
field kind = record { kind = kind; fault = λ defect. defect }

abbrev pub between : Size → ℕ → ℕ → Part Defect
between size least most = field (Number size (is_between least most))

abbrev pub octet : Part Defect
octet = field (Number One any)

abbrev pub moment : Part Defect
moment = between Four 946684800 4102444799

-- an error is 0 to 999
abbrev pub error : Part Defect
error = between Two 0 999

-- a text below a limit, behind the number of its octets
abbrev pub text : ℕ → Part Defect
text limit = field (Counted One 255 (is_text limit))

-- the text of a message, behind the number of its octets
abbrev pub message_text : Format → Part Defect
message_text format = field (Counted (length_size format) (longest format) any)

-- the octets of optional parameters, as they stand in a PDU, behind their number
abbrev pub is_optional : List ℕ → Bool
is_optional octets = is_ok (optional_at octets)

abbrev pub parameters : Part Defect
parameters = field (Counted Two 65535 is_optional)

-- ---- the fields of a message that was taken, in order

-- the accounts that sent it and that it goes to, its service_type, its source and its destination
abbrev pub party_fields : List (Part Defect)
party_fields = text 16 ∷ text 16 ∷ text 6 ∷ octet ∷ octet ∷ text 21 ∷ octet ∷ octet ∷ text 21 ∷ []

abbrev pub parties_in : Submission → Contents party_fields
parties_in m = (m.submitter, (m.target, (m.service_type, (m.source.ton, (m.source.npi, (m.source.digits, (m.destination.ton, (m.destination.npi, (m.destination.digits, tt)))))))))

-- its esm_class, protocol_id, priority_flag, registered_delivery and data_coding, its schedule and its expiry
abbrev pub handling_fields : List (Part Defect)
handling_fields = octet ∷ octet ∷ octet ∷ octet ∷ octet ∷ moment ∷ moment ∷ []

abbrev pub handling_in : Submission → Contents handling_fields
handling_in m = (m.esm_class, (m.protocol_id, (m.priority_flag, (m.registered_delivery, (m.data_coding, (m.schedule, (m.expiry, tt)))))))

-- its text, and the optional parameters that are passed on
abbrev pub text_fields : Format → List (Part Defect)
text_fields format = message_text format ∷ parameters ∷ []

abbrev pub texts_in : (format : Format) → Submission → Contents (text_fields format)
texts_in format m = (m.text, (optional_octets m.passed, tt))

-- ---- the octets of a decree: its kind's number, its author's node and incarnation, its moment, and what it decides

abbrev pub kind_code : Kind → ℕ
kind_code (Taken message) = 1
kind_code (Attempt number) = 2
kind_code (Failed cause) = 3
kind_code (Fate final cause) = 4
kind_code Told = 5

abbrev pub head_fields : Format → List (Part Defect)
head_fields format = between One 1 (most_kind format) ∷ between One 1 9 ∷ between Two 1 9999 ∷ moment ∷ []

-- what stands in these fields is of one form in both formats
abbrev pub head_in : Decree → Contents (head_fields Second)
head_in d = (kind_code d.kind, (d.author.node, (d.author.incarnation, (d.moment, tt))))

abbrev pub submission_octets : Format → Submission → List ℕ
submission_octets format m =
    spellings party_fields (parties_in m) ++ spellings handling_fields (handling_in m) ++ spellings (text_fields format) (texts_in format m)

abbrev pub kind_octets : Format → Kind → List ℕ
kind_octets format (Taken message) = submission_octets format message
kind_octets format (Attempt number) = spellings (octet ∷ []) (number, tt)
kind_octets format (Failed cause) = spellings (error ∷ []) (cause, tt)
kind_octets format (Fate final cause) = spellings (octet ∷ error ∷ []) (final_code final, (cause, tt))
kind_octets format Told = []

unfoldable pub decree_octets : Format → Decree → List ℕ
decree_octets format d = spellings (head_fields format) (head_in d) ++ kind_octets format d.kind

-- of decrees that stand the newest first
abbrev pub decrees_octets : Format → List Decree → List ℕ
decrees_octets format [] = []
decrees_octets format (newest ∷ older) = decrees_octets format older ++ decree_octets format newest

abbrev pub chain_fields : List (Part Defect)
chain_fields = between One 1 2 ∷ field (Number Eight is_id) ∷ field (Number Two any) ∷ []

abbrev pub octets_in : Format → Chain → List ℕ
octets_in format c = spellings chain_fields (format_number format, (c.id, (length c.decrees, tt))) ++ decrees_octets format c.decrees

-- as it is written
abbrev pub chain_octets : Chain → List ℕ
chain_octets c = octets_in Second c

-- ---- what each chain of the program is: its numbers and texts are within their limits

pub record MessageFits (format : Format) (m : Submission) : Type 0 where
  pub parties : AreWithin party_fields (parties_in m)
  pub handling : AreWithin handling_fields (handling_in m)
  pub texts : AreWithin (text_fields format) (texts_in format m)
  pub beside : IsTrue (has_room m.text (optional_octets m.passed))
  pub passed : AreOptional m.passed

abbrev pub KindFits : Format → Kind → Type 0
KindFits format (Taken message) = MessageFits format message
KindFits format (Attempt number) = AreWithin (octet ∷ []) (number, tt)
KindFits format (Failed cause) = AreWithin (error ∷ []) (cause, tt)
KindFits format (Fate final cause) = AreWithin (octet ∷ error ∷ []) (final_code final, (cause, tt))
KindFits format Told = Unit {0}

pub record DecreeFits (format : Format) (d : Decree) : Type 0 where
  pub head : AreWithin (head_fields format) (head_in d)
  pub kind : KindFits format d.kind

abbrev pub DecreesFit : Format → List Decree → Type 0
DecreesFit format [] = Unit {0}
DecreesFit format (newest ∷ older) = DecreesFit format older × DecreeFits format newest

pub record Fits (format : Format) (c : Chain) : Type 0 where
  pub id : IsId c.id
  pub count : length c.decrees ≤ 65535
  pub decrees : DecreesFit format c.decrees

-- the octets are those of the chain in one of the formats, and it is within its limits there
pub record IsSpelled (octets : List ℕ) (c : Chain) : Type 0 where
  pub format : Format
  pub fits : Fits format c
  pub spelled : octets ≡ octets_in format c

-- no two chains have the same octets, whatever their formats
abbrev pub OctetsAreOfOneChain : Type 0
OctetsAreOfOneChain = (octets : List ℕ) (one other : Chain) → IsSpelled octets one → IsSpelled octets other → one ≡ other

-- ---- reading

-- what stands in the fields of a text is of one form in both formats
abbrev pub message_of : Contents party_fields → Contents handling_fields → Contents (text_fields Second) → Submission
message_of p h t = record {
  submitter = p.0;
  target = p.1.0;
  service_type = p.1.1.0;
  source = record { ton = p.1.1.1.0; npi = p.1.1.1.1.0; digits = p.1.1.1.1.1.0 };
  destination = record { ton = p.1.1.1.1.1.1.0; npi = p.1.1.1.1.1.1.1.0; digits = p.1.1.1.1.1.1.1.1.0 };
  esm_class = h.0;
  protocol_id = h.1.0;
  priority_flag = h.1.1.0;
  registered_delivery = h.1.1.1.0;
  data_coding = h.1.1.1.1.0;
  schedule = h.1.1.1.1.1.0;
  expiry = h.1.1.1.1.1.1.0;
  text = t.0;
  passed = tlvs_in t.1.0;
}

-- there is room for a text beside the others
abbrev pub is_content : Contents (text_fields Second) → Bool
is_content t = has_room t.0 t.1.0

abbrev pub texts_at : (format : Format) → List ℕ → Result (Contents (text_fields format) × List ℕ) Defect
texts_at format octets = front_at (text_fields format) octets >>= λ t. passing is_content t

unfoldable pub message_at : Format → List ℕ → Result (Submission × List ℕ) Defect
message_at format octets = do
  p ← front_at party_fields octets
  h ← front_at handling_fields p.1
  t ← texts_at format h.1
  Ok (message_of p.0 h.0 t.0, t.1)

-- the final state of a number, if there is one
abbrev pub found : {A : Type 0} → Option A → Result A Defect
found (Some x) = Ok x
found None = Err Unfit

-- what a decree with a kind of this number decides
unfoldable pub kind_at : Format → ℕ → List ℕ → Result (Kind × List ℕ) Defect
kind_at format code octets =
    if code == 1 then (message_at format octets >>= λ x. Ok (Taken x.0, x.1))
    else if code == 2 then (front_at (octet ∷ []) octets >>= λ x. Ok (Attempt x.0.0, x.1))
    else if code == 3 then (front_at (error ∷ []) octets >>= λ x. Ok (Failed x.0.0, x.1))
    else if code == 4 then (front_at (octet ∷ error ∷ []) octets >>= λ x. found (final_in x.0.0) >>= λ final. Ok (Fate final x.0.1.0, x.1))
    else Ok (Told, octets)

abbrev pub decree_of : Contents (head_fields Second) → Kind → Decree
decree_of h kind = record { author = record { node = h.1.0; incarnation = h.1.1.0 }; moment = h.1.1.1.0; kind = kind }

unfoldable pub decree_at : Format → List ℕ → Result (Decree × List ℕ) Defect
decree_at format octets = do
  h ← front_at (head_fields format) octets
  k ← kind_at format h.0.0 h.1
  Ok (decree_of h.0 k.0, k.1)

-- so many decrees, each put before the older ones
unfoldable pub decrees_at : Format → ℕ → List Decree → List ℕ → Result (List Decree × List ℕ) Defect
decrees_at format zero older octets = Ok (older, octets)
decrees_at format (suc count) older octets = decree_at format octets >>= λ x. decrees_at format count (x.0 ∷ older) x.1

-- the chain, where no octet is left
abbrev pub chain_from : ℕ → List Decree × List ℕ → Result Chain Defect
chain_from id d = nothing_at Extra d.1 >>= λ _. Ok (record { id = id; decrees = d.0 })

-- the chain that so many decrees make, where no octet is left
abbrev pub chain_at : Format → ℕ → ℕ → List ℕ → Result Chain Defect
chain_at format id count octets = decrees_at format count [] octets >>= λ d. chain_from id d

-- the format of a number that is 1 or 2
abbrev pub format_of : ℕ → Format
format_of number = if number == 1 then First else Second

-- the chain of which the octets are the text
unfoldable pub read_chain : List ℕ → Result Chain Defect
read_chain octets =
    front_at chain_fields octets >>= λ h. chain_at (format_of h.0.0) h.0.1.0 h.0.1.1.0 h.1

-- What is found in octets that are read so: a permitted chain, which there may be no memory for, another list of
-- decrees, or no text at all.
abbrev pub Judges : {A : Type 0} → (A → Chain → Type 0) → Result A ChainFault → Result Chain Defect → Type 0
Judges same (Ok x) read = (c : Chain) × (read ≡ Ok c) × IsPermitted c.id c.decrees × same x c
Judges same (Err NotPermitted) read = (c : Chain) × (read ≡ Ok c) × (IsPermitted c.id c.decrees → ⊥)
Judges same (Err NotBytes) read = (defect : Defect) × (read ≡ Err defect)
Judges same (Err Memory) read = (c : Chain) × (read ≡ Ok c) × IsPermitted c.id c.decrees
