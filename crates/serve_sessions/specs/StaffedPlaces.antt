-- A worker's place on a connection, and whether its worker is there (own).
use Rattle.std.specs.Prelude.{Bool, ◌&&◌, is_some, not, if◌then◌else◌}
use Rattle.connection_parts.specs.Places as places
use Rattle.connection_parts.specs.declared.place.Job.{Job}
use Rattle.serve_sessions.specs.declared.staffed_place.StaffedPlace.{StaffedPlace}

-- whether a delivery can be given: to a worker that is there, at a place that is free
abbrev pub is_free : StaffedPlace → Bool
is_free staffed = staffed.has_worker && places.is_free staffed.place

abbrev pub given : StaffedPlace → Job → StaffedPlace
given staffed job = if staffed.has_worker then record staffed { place = places.given staffed.place job } else staffed

-- a worker that finds no delivery as it takes one is not there any more
abbrev pub taken : StaffedPlace → StaffedPlace
taken staffed = record { place = places.taken staffed.place; has_worker = is_some (places.job_given staffed.place.step) }
