-- A request that comes (own).
use Rattle.std.specs.Prelude.{ℕ, ◌≤◌}
use Rattle.mc_model.specs.message.Ids.{most_serial}
use Rattle.waiting_requests.specs.declared.request.Request.{Request}
use Rattle.waiting_requests.specs.declared.request.Request.TheVariants as requests

-- a submit_sm needs a serial that is left
abbrev pub HasSerial : ℕ → Request → Type 0
HasSerial serial (requests.Submit taken) = serial ≤ most_serial
HasSerial serial (requests.Query id account source) = Unit {0}
HasSerial serial (requests.Cancel id account source destination) = Unit {0}
