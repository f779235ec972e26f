-- What a tick is told of sessions and of messages, as the node's own types have it.
use Rattle.std.specs.Prelude.{◌≡◌, ℕ, Bool, true, false, List, []}
use Rattle.node_parts.specs.Rising.{has_id}
use Rattle.mc_model.specs.node.Reach.{Reach}
use Rattle.delivery.specs.Targets.{is_up}
use Rattle.node_parts.specs.declared.may_begin.MayBegin.{MayBegin}
use Rattle.node_parts.specs.declared.may_begin.MayBegin.TheVariants.{All, These}
use Rattle.node_parts.specs.declared.reach.Reach.{Reach as ReachGiven}

-- of these accounts, and of all messages or of none
abbrev pub reach_with : (List ℕ → Bool) → Bool → Reach
reach_with up tries = record { up = up; may = λ id. tries }

abbrev pub may_of : MayBegin → ℕ → Bool
may_of All id = true
may_of (These ids) id = has_id ids id

-- whether an attempt may begin of all
abbrev pub are_all : MayBegin → Bool
are_all All = true
are_all (These ids) = false

-- those that are named, if not all may begin
abbrev pub named_in : MayBegin → List ℕ
named_in All = []
named_in (These ids) = ids

abbrev pub reach_of : ReachGiven → Reach
reach_of given = record { up = is_up given.up.items; may = may_of given.may }

-- the same, with the accounts in a list of their own
abbrev pub IsSameReach : ReachGiven → ReachGiven → Type 0
IsSameReach one other = (other.up.items ≡ one.up.items) × (other.may ≡ one.may)
