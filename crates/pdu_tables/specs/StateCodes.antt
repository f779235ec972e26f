-- The table of message_state numbers (SMPP 3.4, 5.2.28).
use Rattle.std.specs.Prelude.{ℕ, List, [], ◌∷◌, Option, find, ◌==◌}
use Rattle.pdu_tables.specs.declared.state.State.{State}
use Rattle.pdu_tables.specs.declared.state.State.TheVariants.{Enroute, Delivered, Expired, Deleted, Undeliverable, Accepted, Unknown, Rejected}

abbrev pub state_code : State → ℕ
state_code Enroute = 1
state_code Delivered = 2
state_code Expired = 3
state_code Deleted = 4
state_code Undeliverable = 5
state_code Accepted = 6
state_code Unknown = 7
state_code Rejected = 8

abbrev pub state_table : List State
state_table =
    Enroute
    ∷ Delivered
    ∷ Expired
    ∷ Deleted
    ∷ Undeliverable
    ∷ Accepted
    ∷ Unknown
    ∷ Rejected
    ∷ []

-- the one that the number stands for, if any
abbrev pub state_of : ℕ → Option State
state_of code = find (λ x. state_code x == code) state_table
