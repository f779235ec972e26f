-- What the look-ups find, in the words of the subject.
use Rattle.std.specs.Prelude.{◌≡◌, ◌⊎◌, ◌↔◌, ◌≤◌, ℕ, List, [], ◌∷◌, ◌++◌, length, Some, None}
use Rattle.accounts.specs.declared.account.Account.{Account}
use Rattle.accounts.specs.declared.route.Route.{Route}
use Rattle.accounts.specs.Accounts.{AreApart, account_of}
use Rattle.accounts.specs.Routes.{AreDistinct, route_of}

abbrev pub IsAmong : {A : Type 0} → A → List A → Type 0
IsAmong x [] = ⊥
IsAmong x (first ∷ others) = (x ≡ first) ⊎ IsAmong x others

-- ---- accounts

pub record IsNamed (accounts : List Account) (system_id : List ℕ) (account : Account) : Type 0 where
  pub given : IsAmong account accounts
  pub named : account.system_id ≡ system_id

abbrev pub AccountIsTheNamed : Type 0
AccountIsTheNamed = (accounts : List Account) (system_id : List ℕ) (account : Account) → AreApart accounts
    → (account_of accounts system_id ≡ Some account) ↔ IsNamed accounts system_id account

-- ---- routes

abbrev pub IsPrefix : List ℕ → List ℕ → Type 0
IsPrefix prefix digits = (rest : List ℕ) × (digits ≡ prefix ++ rest)

-- Its prefix is one of the destination, and no route has a longer one.
pub record IsLongest (routes : List Route) (destination : List ℕ) (route : Route) : Type 0 where
  pub given : IsAmong route routes
  pub prefix : IsPrefix route.prefix destination
  pub longest : (other : Route) → IsAmong other routes → IsPrefix other.prefix destination → length other.prefix ≤ length route.prefix

abbrev pub RouteIsTheLongest : Type 0
RouteIsTheLongest = (routes : List Route) (destination : List ℕ) (route : Route) → AreDistinct routes
    → (route_of routes destination ≡ Some route) ↔ IsLongest routes destination route

abbrev pub NoneFits : Type 0
NoneFits = (routes : List Route) (destination : List ℕ) → route_of routes destination ≡ None
    → (route : Route) → IsAmong route routes → IsPrefix route.prefix destination → ⊥
