-- The table of command_status numbers (SMPP 3.4, 5.1.3).
use Rattle.std.specs.Prelude.{ℕ, List, [], ◌∷◌, Option, find, ◌==◌}
use Rattle.pdu_tables.specs.declared.status.Status.{Status}
use Rattle.pdu_tables.specs.declared.status.Status.TheVariants.{Ok, InvalidMessageLength, InvalidCommandLength, InvalidCommandId, InvalidBindStatus}
use Rattle.pdu_tables.specs.declared.status.Status.TheVariants.{AlreadyBound, InvalidRegisteredDelivery, SystemError, InvalidSourceAddress}
use Rattle.pdu_tables.specs.declared.status.Status.TheVariants.{InvalidDestinationAddress, InvalidMessageId, BindFailed, InvalidPassword, InvalidSystemId}
use Rattle.pdu_tables.specs.declared.status.Status.TheVariants.{CancelFailed, MessageQueueFull, InvalidServiceType, InvalidSystemType, Throttled}
use Rattle.pdu_tables.specs.declared.status.Status.TheVariants.{InvalidSchedule, InvalidExpiry, TemporaryApplicationError, PermanentApplicationError}
use Rattle.pdu_tables.specs.declared.status.Status.TheVariants.{RejectedByApplication, QueryFailed, InvalidOptionalParameters}

abbrev pub status_code : Status → ℕ
status_code Ok = 0x0000_0000
status_code InvalidMessageLength = 0x0000_0001
status_code InvalidCommandLength = 0x0000_0002
status_code InvalidCommandId = 0x0000_0003
status_code InvalidBindStatus = 0x0000_0004
status_code AlreadyBound = 0x0000_0005
status_code InvalidRegisteredDelivery = 0x0000_0007
status_code SystemError = 0x0000_0008
status_code InvalidSourceAddress = 0x0000_000a
status_code InvalidDestinationAddress = 0x0000_000b
status_code InvalidMessageId = 0x0000_000c
status_code BindFailed = 0x0000_000d
status_code InvalidPassword = 0x0000_000e
status_code InvalidSystemId = 0x0000_000f
status_code CancelFailed = 0x0000_0011
status_code MessageQueueFull = 0x0000_0014
status_code InvalidServiceType = 0x0000_0015
status_code InvalidSystemType = 0x0000_0053
status_code Throttled = 0x0000_0058
status_code InvalidSchedule = 0x0000_0061
status_code InvalidExpiry = 0x0000_0062
status_code TemporaryApplicationError = 0x0000_0064
status_code PermanentApplicationError = 0x0000_0065
status_code RejectedByApplication = 0x0000_0066
status_code QueryFailed = 0x0000_0067
status_code InvalidOptionalParameters = 0x0000_00c0

abbrev pub status_table : List Status
status_table =
    Ok
    ∷ InvalidMessageLength
    ∷ InvalidCommandLength
    ∷ InvalidCommandId
    ∷ InvalidBindStatus
    ∷ AlreadyBound
    ∷ InvalidRegisteredDelivery
    ∷ SystemError
    ∷ InvalidSourceAddress
    ∷ InvalidDestinationAddress
    ∷ InvalidMessageId
    ∷ BindFailed
    ∷ InvalidPassword
    ∷ InvalidSystemId
    ∷ CancelFailed
    ∷ MessageQueueFull
    ∷ InvalidServiceType
    ∷ InvalidSystemType
    ∷ Throttled
    ∷ InvalidSchedule
    ∷ InvalidExpiry
    ∷ TemporaryApplicationError
    ∷ PermanentApplicationError
    ∷ RejectedByApplication
    ∷ QueryFailed
    ∷ InvalidOptionalParameters
    ∷ []

-- the one that the number stands for, if any
abbrev pub status_of : ℕ → Option Status
status_of code = find (λ x. status_code x == code) status_table
