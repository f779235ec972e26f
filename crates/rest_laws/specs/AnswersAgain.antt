-- What must not be: an acceptor that dropped its vote, and answers about the message again (own).
use Rattle.std.specs.Prelude.{ℕ, zero, suc, Bool, true, false, List, [], ◌∷◌}
use Rattle.mc_model.specs.message.Decree.{Decree, Told}
use Rattle.mc_model.specs.synod.OneSlot.{vote_at}
use Rattle.rest_laws.specs.Miniature.{Act, Drops, Learns, Promises, Proposes, Tells, Votes}

-- two chains; what they are does not matter
abbrev pub one_chain : List Decree
one_chain = []

abbrev pub other_chain : List Decree
other_chain = record { author = record { node = 3; incarnation = 1 }; moment = 0; kind = Told } ∷ []

abbrev pub first_two : ℕ → Bool
first_two zero = false
first_two (suc zero) = true
first_two (suc (suc zero)) = true
first_two (suc (suc (suc node))) = false

abbrev pub last_two : ℕ → Bool
last_two zero = false
last_two (suc zero) = false
last_two (suc (suc zero)) = true
last_two (suc (suc (suc node))) = true

-- Nodes 1 and 2 choose a chain, which node 1 tells; node 2 drops it; nodes 2 and 3 choose another, which node 3 tells. The newest stands first.
abbrev pub answers_again : List Act
answers_again =
    Tells 3 other_chain ∷ Learns 3 (vote_at 2 other_chain)
    ∷ Votes 3 (vote_at 2 other_chain) ∷ Votes 2 (vote_at 2 other_chain) ∷ Proposes (vote_at 2 other_chain)
    ∷ Promises 3 2 ∷ Promises 2 2
    ∷ Drops 2
    ∷ Tells 1 one_chain ∷ Learns 1 (vote_at 1 one_chain)
    ∷ Votes 2 (vote_at 1 one_chain) ∷ Votes 1 (vote_at 1 one_chain) ∷ Proposes (vote_at 1 one_chain)
    ∷ Promises 2 1 ∷ Promises 1 1 ∷ []
