-- What tells of octets that are no PDU (SMPP 3.4, 4.3; which status it is: own).
use Rattle.std.specs.Prelude.{Option, Some, None}
use Rattle.std.specs.Option.{option_map}
use Rattle.pdu_tables.specs.declared.status.Status.{Status}
use Rattle.pdu_tables.specs.declared.status.Status.TheVariants as statuses
use Rattle.pdu_fields.specs.declared.fault.Field.{Field}
use Rattle.pdu_fields.specs.declared.fault.Field.TheVariants as fields
use Rattle.pdu_fields.specs.declared.fault.PduFault.{PduFault}
use Rattle.pdu_fields.specs.declared.fault.PduFault.TheVariants as faults
use Rattle.sessions.specs.declared.requested.Requested.{Requested}
use Rattle.sessions.specs.declared.response.Response.{Response}
use Rattle.sessions.specs.declared.response.Response.TheVariants.{Nack, Refused}

-- the status that tells that a field is too long
abbrev pub status_of_long : Field → Status
status_of_long fields.ServiceType = statuses.InvalidServiceType
status_of_long fields.SourceAddr = statuses.InvalidSourceAddress
status_of_long fields.DestinationAddr = statuses.InvalidDestinationAddress
status_of_long fields.MessageId = statuses.InvalidMessageId
status_of_long fields.ScheduleDeliveryTime = statuses.InvalidSchedule
status_of_long fields.ValidityPeriod = statuses.InvalidExpiry
status_of_long fields.SystemId = statuses.InvalidSystemId
status_of_long fields.Password = statuses.InvalidPassword
status_of_long fields.SystemType = statuses.InvalidSystemType
status_of_long fields.AddressRange = statuses.BindFailed
-- no texts of a request
status_of_long fields.InterfaceVersion = statuses.InvalidMessageLength
status_of_long fields.AddrTon = statuses.InvalidMessageLength
status_of_long fields.AddrNpi = statuses.InvalidMessageLength
status_of_long fields.SourceAddrTon = statuses.InvalidMessageLength
status_of_long fields.SourceAddrNpi = statuses.InvalidMessageLength
status_of_long fields.DestAddrTon = statuses.InvalidMessageLength
status_of_long fields.DestAddrNpi = statuses.InvalidMessageLength
status_of_long fields.EsmClass = statuses.InvalidMessageLength
status_of_long fields.ProtocolId = statuses.InvalidMessageLength
status_of_long fields.PriorityFlag = statuses.InvalidMessageLength
status_of_long fields.RegisteredDelivery = statuses.InvalidMessageLength
status_of_long fields.ReplaceIfPresentFlag = statuses.InvalidMessageLength
status_of_long fields.DataCoding = statuses.InvalidMessageLength
status_of_long fields.SmDefaultMsgId = statuses.InvalidMessageLength
status_of_long fields.SmLength = statuses.InvalidMessageLength
status_of_long fields.ShortMessage = statuses.InvalidMessageLength
status_of_long fields.FinalDate = statuses.InvalidMessageLength
status_of_long fields.MessageState = statuses.InvalidMessageLength
status_of_long fields.ErrorCode = statuses.InvalidMessageLength
status_of_long fields.OptionalParameters = statuses.InvalidMessageLength

-- the request, if there is one, is refused with this status
abbrev pub refused_with : Status → Option Requested → Option Response
refused_with status requested = option_map (λ request. Refused request status) requested

-- What tells of a fault in the octets of this request, or of none: a generic_nack, or the response that refuses it. Of a
-- fault in what is no request nothing is told, but of a wrong length and an unknown command.
abbrev pub told_of : PduFault → Option Requested → Option Response
told_of faults.Length requested = Some (Nack statuses.InvalidCommandLength)
told_of faults.Command requested = Some (Nack statuses.InvalidCommandId)
told_of (faults.Cut field) requested = option_map (λ _. Nack statuses.InvalidCommandLength) requested
told_of faults.Extra requested = option_map (λ _. Nack statuses.InvalidCommandLength) requested
told_of (faults.LongText field) requested = refused_with (status_of_long field) requested
told_of faults.TextLength requested = refused_with statuses.InvalidMessageLength requested
told_of faults.Tlvs requested = refused_with statuses.InvalidOptionalParameters requested
told_of faults.Memory requested = None
