-- Which accounts are up at which nodes, and which node begins the next attempt of a message (own).
use Rattle.std.specs.Prelude.{◌≡◌, ℕ, ◌+◌, ◌-◌, ◌%◌, ◌<◌, Bool, true, false, List, length, slice_get}
use Rattle.std.specs.Option.{option_map_or}
use Rattle.waiting_messages.specs.Accounts.{is_among}

-- the accounts that are up at a node are at its place, node 1 first
abbrev pub is_up_at : List (List (List ℕ)) → ℕ → List ℕ → Bool
is_up_at spread node account = option_map_or (is_among account) (slice_get spread (node - 1)) false

-- of so many nodes the one that lies so many steps behind another, counted round
abbrev pub behind : ℕ → ℕ → ℕ → ℕ
behind nodes home steps = (home - 1 + steps) % nodes + 1

-- The account is up at the node so many steps behind the home, and at none before it.
pub record IsFirstUp (spread : List (List (List ℕ))) (home : ℕ) (account : List ℕ) (steps : ℕ) : Type 0 where
  pub within : steps < length spread
  pub up : is_up_at spread (behind (length spread) home steps) account ≡ true
  pub before : (fewer : ℕ) → fewer < steps → is_up_at spread (behind (length spread) home fewer) account ≡ false

-- Of the nodes at which the account is up, this is the home or the first behind it.
pub record Begins (spread : List (List (List ℕ))) (node home : ℕ) (account : List ℕ) : Type 0 where
  pub steps : ℕ
  pub first : IsFirstUp spread home account steps
  pub is_there : node ≡ behind (length spread) home steps

-- The account is up at none of the nodes.
abbrev pub IsDown : List (List (List ℕ)) → ℕ → List ℕ → Type 0
IsDown spread home account =
    (steps : ℕ) → steps < length spread → is_up_at spread (behind (length spread) home steps) account ≡ false

-- No two nodes begin the attempts of one message.
abbrev pub OneBegins : Type 0
OneBegins =
    (spread : List (List (List ℕ))) (home : ℕ) (account : List ℕ) (node other : ℕ) → Begins spread node home account →
    Begins spread other home account → node ≡ other
