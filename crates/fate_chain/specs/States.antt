-- The state of a chain, as message_state tells it (SMPP 3.4, 5.2.28).
use Rattle.std.specs.Prelude.{ℕ, List, [], ◌∷◌, find, Option, Some, None, ◌==◌}
use Rattle.mc_model.specs.message.Decree.{Final, Delivered, Expired, Deleted, Undeliverable, Rejected}
use Rattle.pdu_tables.specs.declared.state.State.{State}
use Rattle.pdu_tables.specs.declared.state.State.TheVariants as states
use Rattle.pdu_tables.specs.StateCodes.{state_code}

-- ENROUTE where there is no final state
abbrev pub state_of : Option Final → State
state_of None = states.Enroute
state_of (Some Delivered) = states.Delivered
state_of (Some Expired) = states.Expired
state_of (Some Deleted) = states.Deleted
state_of (Some Undeliverable) = states.Undeliverable
state_of (Some Rejected) = states.Rejected

-- the number of a final state
abbrev pub final_code : Final → ℕ
final_code final = state_code (state_of (Some final))

abbrev pub finals : List Final
finals = Delivered ∷ Expired ∷ Deleted ∷ Undeliverable ∷ Rejected ∷ []

-- the final state of this number
unfoldable pub final_in : ℕ → Option Final
final_in code = find (λ final. final_code final == code) finals
