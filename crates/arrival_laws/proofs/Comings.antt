-- What may be asked of what comes to a node.
use Rattle.std.proofs.Common.{◌≡◌, ℕ}
use Rattle.mc_model.specs.node.Actor.{id_in}
use Rattle.mc_model.specs.node.Input.{Arrival, Crash, Delivery, Grant, Input, Refusal, Response, Restart, Tick}

-- a request comes that is about a message
abbrev pub ComesAbout : Input → ℕ → Type 0
ComesAbout (Arrival request) id = id_in request ≡ id
ComesAbout (Delivery packet) id = ⊥
ComesAbout (Crash packet after) id = ⊥
ComesAbout (Refusal status) id = ⊥
ComesAbout (Tick moment reach) id = ⊥
ComesAbout (Grant slot) id = ⊥
ComesAbout (Response slot outcome) id = ⊥
ComesAbout (Restart lost) id = ⊥

-- a packet, a request, a tick, a grant or what came of an attempt comes
abbrev pub IsPlain : Input → Type 0
IsPlain (Delivery packet) = Unit {0}
IsPlain (Arrival request) = Unit {0}
IsPlain (Refusal status) = Unit {0}
IsPlain (Tick moment reach) = Unit {0}
IsPlain (Grant slot) = Unit {0}
IsPlain (Response slot outcome) = Unit {0}
IsPlain (Crash packet after) = ⊥
IsPlain (Restart lost) = ⊥
