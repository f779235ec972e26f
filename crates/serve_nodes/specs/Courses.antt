-- How far a node of a server is in its incarnation (own).
use Rattle.std.specs.Prelude.{◌+◌, ◌-◌, ◌≤◌, ◌^◌, ◌/◌, ℕ, Bool, false, true, Option, None, Some, min}
use Rattle.serve_nodes.specs.declared.course.Course.{Course}
use Rattle.serve_nodes.specs.declared.course.Stage.{Stage}
use Rattle.serve_nodes.specs.declared.course.Stage.TheVariants as stages
use Rattle.serve_nodes.specs.declared.course.Need.{Need}
use Rattle.serve_nodes.specs.declared.course.Need.TheVariants as needs

abbrev pub first : Course
first = record { stage = stages.Still; is_anew = false; need = None; serials = 0 }

-- begun while the server serves
abbrev pub begun_anew : Course
begun_anew = record first { is_anew = true }

-- its clock goes from the first tick on
abbrev pub stage_ticked : Stage → Stage
stage_ticked stages.Still = stages.Ticked
stage_ticked stages.Ticked = stages.Ticked
stage_ticked stages.Serves = stages.Serves

abbrev pub ticked : Course → Course
ticked course = record course { stage = stage_ticked course.stage }

-- nobody is served before a tick came
abbrev pub is_ticked : Stage → Bool
is_ticked stages.Still = false
is_ticked stages.Ticked = true
is_ticked stages.Serves = false

abbrev pub stage_served : Stage → Stage
stage_served stages.Still = stages.Still
stage_served stages.Ticked = stages.Serves
stage_served stages.Serves = stages.Serves

abbrev pub served : Course → Course
served course = record course { stage = stage_served course.stage }

-- through with its first tick
abbrev pub through : Course → Course
through course = record course { is_anew = false }

-- that the store failed is never forgotten for another reason
abbrev pub need_behind : Need → Option Need → Option Need
need_behind need None = Some need
need_behind need (Some needs.Serials) = Some need
need_behind need (Some needs.Store) = Some needs.Store

abbrev pub needed_for : Need → Course → Course
needed_for need course = record course { need = need_behind need course.need }

-- counted up to 2^64 - 1
abbrev pub counted : Course → Course
counted course = record course { serials = min (course.serials + 1) (2 ^ 64 - 1) }

-- ---- serials: the last one is 99,999

abbrev pub serials_from : ℕ → ℕ
serials_from first_serial = (99999 - first_serial) + 1

-- with those that were given and 10,000 more, or half of all if that is fewer, there are none
abbrev pub few_of : ℕ → ℕ
few_of all = min 10000 (all / 2)

abbrev pub HasFew : ℕ → ℕ → Type 0
HasFew first_serial given = serials_from first_serial ≤ given + few_of (serials_from first_serial)
