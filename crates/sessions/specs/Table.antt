-- What a session does when a PDU comes, by the PDU's command and the session's state (SMPP 3.4, 2.2 and 5.1.2.1; which
-- status: own).
use Rattle.accounts.specs.declared.role.Role.{Role}
use Rattle.accounts.specs.declared.role.Role.TheVariants as roles
use Rattle.pdu_tables.specs.declared.command.Command.{Command}
use Rattle.pdu_tables.specs.declared.command.Command.TheVariants as commands
use Rattle.pdu_tables.specs.declared.status.Status.{Status}
use Rattle.pdu_tables.specs.declared.status.Status.TheVariants as statuses
use Rattle.sessions.specs.declared.state.SessionState.{SessionState}
use Rattle.sessions.specs.States.{in_state}

pub data Cell : Type 0 where
  -- the bind in this role is checked, and binds the session
  Binds : Role → Cell
  -- the request is refused with this status
  Refuses : Status → Cell
  -- the request goes to the node, unless ten wait there
  Asks : Cell
  -- the unbind is answered, and the session is gone
  Unbinds : Cell
  -- the link is there
  Links : Cell
  -- a generic_nack, since the command is not served
  NotServed : Cell
  -- the pushed request with this sequence_number is answered, if one is open
  Answers : Cell
  -- nothing
  Drops : Cell

-- the session is bound already
abbrev pub again : Cell
again = Refuses statuses.AlreadyBound

-- the session is not bound so that this may be requested
abbrev pub unfit : Cell
unfit = Refuses statuses.InvalidBindStatus

-- for each command what is done in the states
--   Fresh, Transmitter, Receiver, Transceiver, Gone
abbrev pub cell_of : Command → SessionState → Cell
cell_of commands.BindReceiver state = in_state state (Binds roles.Receiver) again again again Drops
cell_of commands.BindTransmitter state = in_state state (Binds roles.Transmitter) again again again Drops
cell_of commands.BindTransceiver state = in_state state (Binds roles.Transceiver) again again again Drops
cell_of commands.SubmitSm state = in_state state unfit Asks unfit Asks Drops
cell_of commands.QuerySm state = in_state state unfit Asks unfit Asks Drops
cell_of commands.CancelSm state = in_state state unfit Asks unfit Asks Drops
cell_of commands.Unbind state = in_state state unfit Unbinds Unbinds Unbinds Drops
cell_of commands.EnquireLink state = in_state state Links Links Links Links Drops
cell_of commands.DeliverSm state = in_state state NotServed NotServed NotServed NotServed Drops
cell_of commands.DeliverSmResp state = in_state state Answers Answers Answers Answers Drops
cell_of commands.GenericNack state = in_state state Answers Answers Answers Answers Drops
cell_of commands.BindReceiverResp state = Drops
cell_of commands.BindTransmitterResp state = Drops
cell_of commands.BindTransceiverResp state = Drops
cell_of commands.SubmitSmResp state = Drops
cell_of commands.QuerySmResp state = Drops
cell_of commands.CancelSmResp state = Drops
cell_of commands.UnbindResp state = Drops
cell_of commands.EnquireLinkResp state = Drops
