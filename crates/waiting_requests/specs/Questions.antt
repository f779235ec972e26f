-- The questions of a request (own).
use Rattle.std.specs.Prelude.{ℕ}
use Rattle.mc_model.specs.synod.Packet.{Ask, Packet}
use Rattle.node_model.specs.Kept.{Held}
use Rattle.node_model.specs.Requests.{id_of, ticket_of}

-- of a node in an incarnation
abbrev pub question_by : ℕ → ℕ → Held → Packet
question_by node incarnation h = Ask node (id_of h) (record { node = node; incarnation = incarnation; ticket = ticket_of h })
