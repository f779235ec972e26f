-- What a store says of itself: whose it is, and which incarnations its records name (own).
use Rattle.std.specs.Prelude.{ℕ, pos, ◌==◌, max, reverse, if◌then◌else◌, List, [], ◌∷◌}
use Rattle.mc_model.specs.message.Decree.{Decree}
use Rattle.mc_model.specs.synod.Ballot.{incarnation_in, proposer_of}
use Rattle.synod_acceptor.specs.Votes.{Record}
use Rattle.synod_acceptor.specs.declared.vote.Report.{Report}
use Rattle.synod_acceptor.specs.declared.vote.Report.TheVariants.{Nothing, Held}
use Rattle.record_rows.specs.declared.whose.WhoseRow.{WhoseRow}
use Rattle.whose_stores.specs.declared.found.Whose.{Whose}

abbrev pub row_of : Whose → WhoseRow
row_of whose = record { cluster = whose.cluster; node = pos whose.node; nodes = pos whose.nodes; at = pos whose.at }

-- the incarnation that proposed at the ballot, if it is one of this node
abbrev pub at_ballot : ℕ → ℕ → ℕ
at_ballot node ballot = if proposer_of ballot == node then incarnation_in ballot else 0

-- the one that made the decree
abbrev pub by_decree : ℕ → Decree → ℕ
by_decree node decree = if decree.author.node == node then decree.author.incarnation else 0

-- the highest of this node that decrees name, that a vote does, that a record does, and that several do: 0 if none
abbrev pub highest_by : ℕ → List Decree → ℕ
highest_by node [] = 0
highest_by node (decree ∷ more) = max (by_decree node decree) (highest_by node more)

abbrev pub highest_reported : ℕ → Report → ℕ
highest_reported node (Nothing slot) = 0
highest_reported node (Held vote) = max (at_ballot node vote.ballot) (highest_by node (reverse vote.chain.decrees))

abbrev pub highest_in : ℕ → Record → ℕ
highest_in node r = max (at_ballot node r.promised) (highest_reported node r.report)

abbrev pub highest_of : ℕ → List Record → ℕ
highest_of node [] = 0
highest_of node (r ∷ more) = max (highest_in node r) (highest_of node more)
