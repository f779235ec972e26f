-- The table of command_id numbers (SMPP 3.4, 5.1.2.1).
use Rattle.std.specs.Prelude.{ℕ, List, [], ◌∷◌, Option, find, ◌==◌}
use Rattle.pdu_tables.specs.declared.command.Command.{Command}
use Rattle.pdu_tables.specs.declared.command.Command.TheVariants.{GenericNack, BindReceiver, BindReceiverResp, BindTransmitter, BindTransmitterResp, QuerySm}
use Rattle.pdu_tables.specs.declared.command.Command.TheVariants.{QuerySmResp, SubmitSm, SubmitSmResp, DeliverSm, DeliverSmResp, Unbind, UnbindResp, CancelSm}
use Rattle.pdu_tables.specs.declared.command.Command.TheVariants.{CancelSmResp, BindTransceiver, BindTransceiverResp, EnquireLink, EnquireLinkResp}

abbrev pub command_code : Command → ℕ
command_code GenericNack = 0x8000_0000
command_code BindReceiver = 0x0000_0001
command_code BindReceiverResp = 0x8000_0001
command_code BindTransmitter = 0x0000_0002
command_code BindTransmitterResp = 0x8000_0002
command_code QuerySm = 0x0000_0003
command_code QuerySmResp = 0x8000_0003
command_code SubmitSm = 0x0000_0004
command_code SubmitSmResp = 0x8000_0004
command_code DeliverSm = 0x0000_0005
command_code DeliverSmResp = 0x8000_0005
command_code Unbind = 0x0000_0006
command_code UnbindResp = 0x8000_0006
command_code CancelSm = 0x0000_0008
command_code CancelSmResp = 0x8000_0008
command_code BindTransceiver = 0x0000_0009
command_code BindTransceiverResp = 0x8000_0009
command_code EnquireLink = 0x0000_0015
command_code EnquireLinkResp = 0x8000_0015

abbrev pub command_table : List Command
command_table =
    GenericNack
    ∷ BindReceiver
    ∷ BindReceiverResp
    ∷ BindTransmitter
    ∷ BindTransmitterResp
    ∷ QuerySm
    ∷ QuerySmResp
    ∷ SubmitSm
    ∷ SubmitSmResp
    ∷ DeliverSm
    ∷ DeliverSmResp
    ∷ Unbind
    ∷ UnbindResp
    ∷ CancelSm
    ∷ CancelSmResp
    ∷ BindTransceiver
    ∷ BindTransceiverResp
    ∷ EnquireLink
    ∷ EnquireLinkResp
    ∷ []

-- the one that the number stands for, if any
abbrev pub command_of : ℕ → Option Command
command_of code = find (λ x. command_code x == code) command_table
