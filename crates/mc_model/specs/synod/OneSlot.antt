-- One slot: the place in a message's chain that one synod settles (Paxos Made Simple, 2.2).
--
-- What a synod settles is a chain, given by its decrees with the newest first. A slot's past is what was ever voted,
-- promised and proposed in it, as relations, so that the same words serve lists, packets and stable records.
use Rattle.std.specs.Prelude.{◌≡◌, ℕ, ◌<◌, ◌≤◌, List, Option, Some, None}
use Rattle.mc_model.specs.message.Decree.{Decree}
use Rattle.mc_model.specs.synod.Lists.{In}
use Rattle.mc_model.specs.synod.Majority.{Majority}

-- a vote's ballot, and its chain
pub record Vote : Type 0 where
  pub ballot : ℕ
  pub chain : List Decree

abbrev pub vote_at : ℕ → List Decree → Vote
vote_at ballot chain = record { ballot = ballot; chain = chain }

-- a chain is chosen at a ballot where a majority voted for it at that ballot
abbrev pub IsChosen : ℕ → (ℕ → Vote → Type 0) → Vote → Type 0
IsChosen nodes Voted vote = Majority nodes (λ acceptor. Voted acceptor vote)

-- a report reaches a ballot: it is of a vote at this ballot or above it
abbrev pub Reaches : Option Vote → ℕ → Type 0
Reaches None ballot = ⊥
Reaches (Some vote) ballot = ballot ≤ vote.ballot

-- a report tells of no vote above the highest one
abbrev pub IsWithin : Option Vote → Option Vote → Type 0
IsWithin highest None = Unit {0}
IsWithin None (Some vote) = ⊥
IsWithin (Some top) (Some vote) = vote.ballot ≤ top.ballot

-- the chain is that of the highest vote that was reported, and any chain where none was
abbrev pub IsOfHighest : (ℕ → Option Vote → Type 0) → List Decree → Option Vote → Type 0
IsOfHighest Reports chain None = Unit {0}
IsOfHighest Reports chain (Some top) = (chain ≡ top.chain) × ((acceptor : ℕ) × Reports acceptor (Some top))

-- An acceptor's report is no higher than the highest one.
pub record ReportsWithin (Reports : ℕ → Option Vote → Type 0) (highest : Option Vote) (acceptor : ℕ) : Type 0 where
  pub report : Option Vote
  pub made : Reports acceptor report
  pub within : IsWithin highest report

-- What an acceptor may be asked to vote for, by the reports of a majority (Paxos Made Simple, 2.2, P2c): the chain of
-- the highest vote among them, and any chain where they have none.
pub record IsJustified (nodes : ℕ) (Reports : ℕ → Option Vote → Type 0) (chain : List Decree) : Type 0 where
  pub highest : Option Vote
  pub majority : Majority nodes (ReportsWithin Reports highest)
  pub carried : IsOfHighest Reports chain highest

-- A slot's past keeps the rules of the synod.
pub record IsSound (nodes : ℕ) (Voted : ℕ → Vote → Type 0) (Promised : ℕ → ℕ → Option Vote → Type 0)
    (Proposed : Vote → Type 0) : Type 0 where
  -- what is voted for was proposed at that ballot
  pub proposed : (acceptor : ℕ) (vote : Vote) → Voted acceptor vote → Proposed vote
  -- at a ballot one chain alone is proposed
  pub single : (ballot : ℕ) (one other : List Decree) → Proposed (vote_at ballot one) → Proposed (vote_at ballot other) →
      one ≡ other
  -- a promise reports the acceptor's highest vote below its ballot, and there is no other later
  pub kept : (acceptor ballot : ℕ) (report : Option Vote) (vote : Vote) → Promised acceptor ballot report → Voted acceptor vote →
      vote.ballot < ballot → Reaches report vote.ballot
  -- a vote that is reported was made, below the ballot
  pub honest : (acceptor ballot : ℕ) (vote : Vote) → Promised acceptor ballot (Some vote) → Voted acceptor vote
      × (vote.ballot < ballot)
  -- what is proposed is what the promises of a majority at its ballot allow
  pub justified : (vote : Vote) → Proposed vote →
      IsJustified nodes (λ acceptor report. Promised acceptor vote.ballot report) vote.chain

pub record SlotPromise : Type 0 where
  pub acceptor : ℕ
  pub ballot : ℕ
  pub report : Option Vote

pub record SlotPast : Type 0 where
  pub votes : List (ℕ × Vote)
  pub promises : List SlotPromise
  pub proposals : List Vote

abbrev pub was_voted : SlotPast → ℕ → Vote → Type 0
was_voted past acceptor vote = In (acceptor, vote) past.votes

abbrev pub was_promised : SlotPast → ℕ → ℕ → Option Vote → Type 0
was_promised past acceptor ballot report = In (record { acceptor = acceptor; ballot = ballot; report = report }) past.promises

abbrev pub was_proposed : SlotPast → Vote → Type 0
was_proposed past vote = In vote past.proposals

abbrev pub KeepsTheSynod : ℕ → SlotPast → Type 0
KeepsTheSynod nodes past = IsSound nodes (was_voted past) (was_promised past) (was_proposed past)
