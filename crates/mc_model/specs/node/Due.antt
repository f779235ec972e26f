-- What is due in a step: these acts and no others, in their order.
use Rattle.std.specs.Prelude.{◌↔◌, ℕ, ◌<◌, List, [], ◌∷◌, map}
use Rattle.mc_model.specs.synod.Lists.{In}
use Rattle.mc_model.specs.node.Act.{Abandons, Act, Asks, Prepares, Proposes, Replies, Reports, Settles}

-- the ticket, or the message, by which acts are ordered
abbrev pub key_of : Act → ℕ
key_of (Settles ticket) = ticket
key_of (Replies ticket id answer) = ticket
key_of (Asks id ticket) = ticket
key_of (Abandons slot) = slot.id
key_of (Prepares slot ballot chain) = slot.id
key_of (Proposes slot vote) = slot.id
key_of (Reports id chain) = id
key_of act = 0

-- the newest stands first, so the numbers fall
abbrev pub Fall : List ℕ → Type 0
Fall [] = Unit {0}
Fall (newest ∷ []) = Unit {0}
Fall (newest ∷ older ∷ oldest) = (older < newest) × Fall (older ∷ oldest)

-- What is due is done, and nothing else, by ascending keys.
pub record AreDue (Due : Act → Type 0) (acts : List Act) : Type 0 where
  pub each : (act : Act) → In act acts ↔ Due act
  pub order : Fall (map key_of acts)

-- Of what is due one act is done for each key, and nothing else, by ascending keys.
pub record AreDueOnce (Due : Act → Type 0) (acts : List Act) : Type 0 where
  pub only : (act : Act) → In act acts → Due act
  pub all : (act : Act) → Due act → In (key_of act) (map key_of acts)
  pub order : Fall (map key_of acts)
