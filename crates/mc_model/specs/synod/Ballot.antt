-- Ballots, the numbers of proposals (Paxos Made Simple, 2.2 and 2.5).
--
-- A ballot is made of a round, of the incarnation of the node that proposes, and of that node, so that no two
-- incarnations of any nodes have one in common. Its number orders ballots by round, then incarnation, then node.
use Rattle.std.specs.Prelude.{◌≡◌, ◌⊎◌, ℕ, ◌+◌, ◌*◌, ◌/◌, ◌%◌, ◌<◌, ◌≤◌}
use Rattle.mc_model.specs.message.Ids.{IsIncarnation, IsNode}

abbrev pub ballot_of : ℕ → ℕ → ℕ → ℕ
ballot_of round incarnation node = 262144 * round + 16 * incarnation + node

abbrev pub round_in : ℕ → ℕ
round_in ballot = ballot / 262144

abbrev pub incarnation_in : ℕ → ℕ
incarnation_in ballot = ballot / 16 % 16384

abbrev pub proposer_of : ℕ → ℕ
proposer_of ballot = ballot % 16

pub record IsRound (round : ℕ) : Type 0 where
  pub least : 1 ≤ round
  pub most : round < 4294967296

pub record IsBallot (ballot : ℕ) : Type 0 where
  pub round : IsRound (round_in ballot)
  pub incarnation : IsIncarnation (incarnation_in ballot)
  pub node : IsNode (proposer_of ballot)

-- round, incarnation and node, in that order
abbrev pub IsBefore : ℕ × ℕ × ℕ → ℕ × ℕ × ℕ → Type 0
IsBefore a b = (a.0 < b.0) ⊎ ((a.0 ≡ b.0) × ((a.1 < b.1) ⊎ ((a.1 ≡ b.1) × (a.2 < b.2))))
