-- What a node learns of a vote of which it is told (Paxos Made Simple, 2.3).
use Rattle.std.specs.Prelude.{ℕ, pred, Bool, true, ◌&&◌, nat_lt, List, length, Option, Some, None, if◌then◌else◌}
use Rattle.mc_model.specs.message.Decree.{Decree}
use Rattle.mc_model.specs.synod.OneSlot.{Vote}
use Rattle.node_model.specs.Same.{same_vote}
use Rattle.node_model.specs.Sets.{is_majority, with_node}
use Rattle.node_model.specs.Message.{Message}

abbrev pub heard : Message → ℕ → Vote → Message
heard m voter vote = record m { votes = λ other. if same_vote vote other then with_node (m.votes other) voter else m.votes other }

-- what is known is shorter than a chain, or nothing
abbrev pub is_shorter : Option (List Decree) → List Decree → Bool
is_shorter None chain = true
is_shorter (Some old) chain = nat_lt (pred (length old)) (pred (length chain))

-- a vote's chain becomes known if a majority told of it, and less was known
abbrev pub makes_known : ℕ → Message → Vote → Bool
makes_known nodes m vote = is_majority nodes (m.votes vote) && is_shorter m.known vote.chain
