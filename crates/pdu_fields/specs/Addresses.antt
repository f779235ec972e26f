-- Addresses (SMPP 3.4, 5.2.5 to 5.2.9) as they stand in octets.
use Rattle.std.specs.Prelude.{ℕ, List, Result}
use Rattle.pdu_fields.specs.declared.fault.Field.{Field}
use Rattle.pdu_fields.specs.declared.fault.Field.TheVariants.{SourceAddrTon, SourceAddrNpi, SourceAddr, DestAddrTon, DestAddrNpi, DestinationAddr}
use Rattle.pdu_fields.specs.declared.fault.PduFault.{PduFault}
use Rattle.pdu_fields.specs.declared.address_octets.AddressOctets.{AddressOctets}
use Rattle.pdu_fields.specs.Grammar.{Contents, address_parts, source_parts, front_at}
use Rattle.pdu_fields.specs.Grammar.{destination_parts}

-- what stands in its fields
abbrev pub address_contents : AddressOctets → Contents source_parts
address_contents a = (a.ton, (a.npi, (a.digits.now, tt)))

unfoldable pub address_at : (ton npi digits : Field) → List ℕ → Result (Contents (address_parts ton npi digits) × List ℕ) PduFault
address_at ton npi digits octets = front_at (address_parts ton npi digits) octets

abbrev pub source_at : List ℕ → Result (Contents source_parts × List ℕ) PduFault
source_at octets = address_at SourceAddrTon SourceAddrNpi SourceAddr octets

abbrev pub destination_at : List ℕ → Result (Contents destination_parts × List ℕ) PduFault
destination_at octets = address_at DestAddrTon DestAddrNpi DestinationAddr octets
