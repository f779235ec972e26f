-- A node by itself, whose packets wait in a queue: what it does as they come one by one.
use Rattle.std.specs.Prelude.{ℕ, zero, suc, List, [], ◌∷◌, Option, Some, None, option_map}
use Rattle.mc_model.specs.synod.Packet.{Packet}
use Rattle.mc_model.specs.node.Input.{Delivery}
use Rattle.script_text.specs.Left.{followed_by, rests}
use Rattle.script_text.specs.Node.{awaiting, step_at}
use Rattle.script_text.specs.Runner.{Acted, Runner, reports_by}

-- a packet comes to the node, and these are still to come
abbrev pub delivers : Runner → Packet → List Packet → Acted
delivers runner packet others =
    reports_by runner (awaiting runner.node others) (Delivery packet) (step_at (awaiting runner.node others) (Delivery packet))

-- what is done first, and then what settles
abbrev pub and_settles : Acted → Option Acted → Option Acted
and_settles first last = option_map (followed_by first) last

abbrev pub first_or : {A : Type 0} → A → (Packet → List Packet → A) → List Packet → A
first_or none some [] = none
first_or none some (packet ∷ others) = some packet others

-- The packets come one by one, in the order of sending, also those that are sent meanwhile; there is nothing if so many deliveries are too few.
unfoldable pub settles : ℕ → Runner → Option Acted
settles zero runner = None
settles (suc more) runner =
    first_or (Some (rests runner)) (λ packet others. and_settles (delivers runner packet others) (settles more (delivers runner packet others).next))
    runner.node.packets
