-- The serials that requests take, and the room that there is for them.
use Rattle.std.proofs.Common.{◌≡◌, ℕ, ◌<◌, ◌≤◌, false, arith}
use Rattle.std.proofs.lemmas.Bool.Decides.{nat_tests}
use Rattle.mc_model.specs.node.Actor.{Cancel, Query, Request, Submit}
use Rattle.mc_model.specs.node.Effect.{next_serial}
use Rattle.mc_model.specs.node.Room.{is_busy, most_waiting}

-- a submit_sm takes a serial, and nothing else does
pub serials : (request : Request) (serial : ℕ) → serial ≤ next_serial request serial
serials (Submit id message) serial = omega arith
serials (Query id account source) serial = omega arith
serials (Cancel id account source destination) serial = omega arith

pub not_busy : (waiting ticket : ℕ) → is_busy waiting ticket ≡ false → waiting < most_waiting
not_busy waiting ticket is = grind (arith, nat_tests)
