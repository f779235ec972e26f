-- The requests that a test lets stay are in their order.
use Rattle.std.proofs.Common.{ℕ, Bool, true, false, cond, List, [], ◌∷◌}
use Rattle.std.specs.Prelude.{filter}
use Rattle.node_model.specs.Kept.{Held}
use Rattle.node_model.specs.Requests.{Ascend, IsBelow, ticket_of}

below_kept : (test : Held → Bool) (ticket : ℕ) (hs : List Held) → IsBelow ticket hs → IsBelow ticket (filter test hs)
below_kept test ticket [] below = tt
below_kept test ticket (h ∷ hs) below = at_test (test h) (below_kept test ticket hs below.1)
  where
    at_test : (pass : Bool) → IsBelow ticket (filter test hs) → IsBelow ticket (cond pass (h ∷ filter test hs) (filter test hs))
    at_test true rest = (below.0, rest)
    at_test false rest = rest

pub ascend_kept : (test : Held → Bool) (hs : List Held) → Ascend hs → Ascend (filter test hs)
ascend_kept test [] ascend = tt
ascend_kept test (h ∷ hs) ascend = at_test (test h) (ascend_kept test hs ascend.1)
  where
    at_test : (pass : Bool) → Ascend (filter test hs) → Ascend (cond pass (h ∷ filter test hs) (filter test hs))
    at_test true rest = (below_kept test (ticket_of h) hs ascend.0, rest)
    at_test false rest = rest
