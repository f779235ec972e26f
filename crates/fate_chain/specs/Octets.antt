-- What is seen in a decree as it stands in octets, and that its texts are some.
use Rattle.std.specs.Prelude.{IsTrue, ◌≤◌, length}
use Rattle.mc_model.specs.message.Submission.{Submission}
use Rattle.mc_model.specs.message.Decree.{Kind, Taken, Attempt, Failed, Fate, Told, Decree}
use Rattle.pdu_codec.specs.Text.{IsText}
use Rattle.octet_fields.specs.Kinds.{Contents}
use Rattle.fate_chain.specs.Bytes.{is_optional, party_fields, handling_fields, text_fields, message_of}
use Rattle.fate_chain.specs.Content.{has_room, most_text}
use Rattle.fate_chain.specs.Kinds.{author_of, final_of}
use Rattle.fate_chain.specs.declared.format.Format.TheVariants.{Second}
use Rattle.fate_chain.specs.declared.octets.Parties.{Parties}
use Rattle.fate_chain.specs.declared.octets.Handling.{Handling}
use Rattle.fate_chain.specs.declared.octets.Texts.{Texts}
use Rattle.fate_chain.specs.declared.octets.MessageOctets.{MessageOctets}
use Rattle.fate_chain.specs.declared.octets.KindOctets.{KindOctets}
use Rattle.fate_chain.specs.declared.octets.KindOctets.TheVariants as seen
use Rattle.fate_chain.specs.declared.octets.DecreeOctets.{DecreeOctets}

abbrev pub parties_seen : Parties → Contents party_fields
parties_seen p =
    (p.submitter.now, (p.target.now, (p.service_type.now, (p.source.ton, (p.source.npi, (p.source.digits.now, (p.destination.ton, (p.destination.npi, (p.destination.digits.now, tt)))))))))

abbrev pub handling_seen : Handling → Contents handling_fields
handling_seen h =
    (h.esm_class, (h.protocol_id, (h.priority_flag, (h.registered_delivery, (h.data_coding, (h.schedule, (h.expiry, tt)))))))

abbrev pub texts_seen : Texts → Contents (text_fields Second)
texts_seen t = (t.text.now, (t.passed.now, tt))

abbrev pub message_seen : MessageOctets → Submission
message_seen m = message_of (parties_seen m.parties) (handling_seen m.handling) (texts_seen m.texts)

abbrev pub kind_seen : KindOctets → Kind
kind_seen (seen.Taken message) = Taken (message_seen message)
kind_seen (seen.Attempt number) = Attempt number
kind_seen (seen.Failed error) = Failed error
kind_seen (seen.Fate final error) = Fate (final_of final) error
kind_seen seen.Told = Told

abbrev pub decree_seen : DecreeOctets → Decree
decree_seen d = record { author = author_of d.author; moment = d.moment; kind = kind_seen d.kind }

-- its texts are texts
pub record PartiesAreTexts (p : Parties) : Type 0 where
  pub submitter : IsText 16 p.submitter.now
  pub target : IsText 16 p.target.now
  pub service_type : IsText 6 p.service_type.now
  pub source : IsText 21 p.source.digits.now
  pub destination : IsText 21 p.destination.digits.now

pub record AreTexts (t : Texts) : Type 0 where
  pub text : length t.text.now ≤ most_text
  pub beside : IsTrue (has_room t.text.now t.passed.now)
  pub passed : IsTrue (is_optional t.passed.now)

pub record MessageHasTexts (m : MessageOctets) : Type 0 where
  pub parties : PartiesAreTexts m.parties
  pub texts : AreTexts m.texts

abbrev pub HasTexts : KindOctets → Type 0
HasTexts (seen.Taken message) = MessageHasTexts message
HasTexts (seen.Attempt number) = Unit {0}
HasTexts (seen.Failed error) = Unit {0}
HasTexts (seen.Fate final error) = Unit {0}
HasTexts seen.Told = Unit {0}
