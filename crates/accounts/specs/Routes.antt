-- Routes, from the digits of a destination to an account.
use Rattle.std.specs.Prelude.{Bool, ◌==◌, ◌≡◌, false, nat_lt, ℕ, List, [], ◌∷◌, length, Option, Some, None, option_map, if◌then◌else◌}
use Rattle.std.specs.List.{list_any, starts_with}
use Rattle.std.specs.Str.{bytes_eq}
use Rattle.accounts.specs.declared.route.Route.{Route}

-- whether a route has this prefix
abbrev pub has_route : List Route → List ℕ → Bool
has_route routes prefix = list_any (λ route. bytes_eq route.prefix prefix) routes

-- no two have one prefix
abbrev pub AreDistinct : List Route → Type 0
AreDistinct [] = Unit {0}
AreDistinct (first ∷ others) = (has_route others first.prefix ≡ false) × AreDistinct others

-- whether the destination begins with the prefix of the route
abbrev pub is_front : Route → List ℕ → Bool
is_front route destination = starts_with ◌==◌ destination route.prefix

-- the route of the longer prefix; the earlier if both are as long
abbrev pub longer : Route → Option Route → Route
longer first None = first
longer first (Some other) = if nat_lt (length first.prefix) (length other.prefix) then other else first

-- the route whose prefix is the longest of those that the destination begins with, if any is (own)
abbrev pub route_of : List Route → List ℕ → Option Route
route_of [] destination = None
route_of (first ∷ others) destination =
    if is_front first destination then Some (longer first (route_of others destination)) else route_of others destination

-- the account that it leads to
abbrev pub target_of : List Route → List ℕ → Option (List ℕ)
target_of routes destination = option_map (λ route. route.account) (route_of routes destination)

-- ---- route by route

abbrev pub later : Option Route → Route → Route
later None route = route
later (Some before) route = longer before (Some route)

-- the best route so far, and one more
abbrev pub better : Option Route → Route → List ℕ → Option Route
better best route destination = if is_front route destination then Some (later best route) else best
