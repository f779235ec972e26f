-- What is found at a node, and the first of several that says something (own).
use Rattle.std.specs.Prelude.{ℕ, ◌+◌, nat_lt, Bool, false, if◌then◌else◌, List, [], ◌∷◌, Option, Some, None}
use Rattle.whose_stores.specs.declared.found.Found.{Found}
use Rattle.whose_stores.specs.declared.found.Found.TheVariants.{Memory, New, Stored}
use Rattle.whose_stores.specs.declared.found.Whose.{Whose}
use Rattle.whose_stores.specs.declared.mark.Mark.{Mark}

-- whose the store says that it is
abbrev pub mark_in : Found → Option Whose
mark_in Memory = None
mark_in New = None
mark_in (Stored stored) = stored.whose

-- the last incarnation that has begun over it, or 0
abbrev pub begun_in : Found → ℕ
begun_in Memory = 0
begun_in New = 0
begun_in (Stored stored) = stored.begun

abbrev pub is_begun : Found → Bool
is_begun found = nat_lt 0 (begun_in found)

-- whether one has begun since it says whose it is
abbrev pub is_above : ℕ → Option Whose → Bool
is_above begun None = false
is_above begun (Some whose) = nat_lt whose.at begun

abbrev pub is_going : Found → Bool
is_going found = is_above (begun_in found) (mark_in found)

-- ---- the first, by the numbers of the nodes from this one on

abbrev pub mark_or : ℕ → Option Mark → Option Whose → Option Mark
mark_or node others None = others
mark_or node others (Some whose) = Some (record { first = node; cluster = whose.cluster })

abbrev pub first_mark : ℕ → List Found → Option Mark
first_mark node [] = None
first_mark node (found ∷ more) = mark_or node (first_mark (node + 1) more) (mark_in found)

abbrev pub first_going : ℕ → List Found → Option ℕ
first_going node [] = None
first_going node (found ∷ more) = if is_going found then Some node else first_going (node + 1) more

abbrev pub first_begun : ℕ → List Found → Option ℕ
first_begun node [] = None
first_begun node (found ∷ more) = if is_begun found then Some node else first_begun (node + 1) more
