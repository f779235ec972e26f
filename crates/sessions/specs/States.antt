-- The states of a session (SMPP 3.4, 2.2).
use Rattle.std.specs.Prelude.{Bool, true, false}
use Rattle.accounts.specs.declared.role.Role.{Role}
use Rattle.accounts.specs.declared.role.Role.TheVariants as roles
use Rattle.sessions.specs.declared.state.SessionState.{SessionState}
use Rattle.sessions.specs.declared.state.SessionState.TheVariants.{Fresh, Transmitter, Receiver, Transceiver, Gone}

-- one of five, by the state
abbrev pub in_state : {A : Type 0} → SessionState → A → A → A → A → A → A
in_state Fresh fresh transmitter receiver transceiver gone = fresh
in_state Transmitter fresh transmitter receiver transceiver gone = transmitter
in_state Receiver fresh transmitter receiver transceiver gone = receiver
in_state Transceiver fresh transmitter receiver transceiver gone = transceiver
in_state Gone fresh transmitter receiver transceiver gone = gone

-- the state that a bind in the role leads to
abbrev pub bound_as : Role → SessionState
bound_as roles.Transmitter = Transmitter
bound_as roles.Receiver = Receiver
bound_as roles.Transceiver = Transceiver

abbrev pub is_fresh : SessionState → Bool
is_fresh state = in_state state true false false false false

abbrev pub is_gone : SessionState → Bool
is_gone state = in_state state false false false false true

abbrev pub is_bound : SessionState → Bool
is_bound state = in_state state false true true true false

-- the ESME may submit, query and cancel
abbrev pub may_ask : SessionState → Bool
may_ask state = in_state state false true false true false

-- the ESME may be delivered to
abbrev pub may_receive : SessionState → Bool
may_receive state = in_state state false false true true false
