-- What stands behind the decrees of nodes.
use Rattle.std.specs.Prelude.{◌≡◌, ◌⊎◌, ℕ, List, [], ◌∷◌, Some}
use Rattle.mc_model.specs.message.Submission.{Submission}
use Rattle.mc_model.specs.message.Decree.{Author, Decree}
use Rattle.mc_model.specs.message.Chain.{taken_in}
use Rattle.mc_model.specs.synod.Lists.{In}
use Rattle.mc_model.specs.node.Actor.{Request, opening_clock}
use Rattle.mc_model.specs.node.Proposal.{Cancels, HasError}
use Rattle.mc_model.specs.node.Act.{Begins, Ticks, Settles}
use Rattle.mc_model.specs.cluster.World.{Deed}
use Rattle.mc_model.specs.cluster.Fate.{deed_by}

-- A cancel_sm of the message came, with the account and the addresses of what was taken, and was settled in the same incarnation.
pub record CameToCancel (deeds : List Deed) (id : ℕ) (taken : Submission) : Type 0 where
  pub deed : Deed
  pub ticket : ℕ
  pub request : Request
  pub came : In deed deeds
  pub begins : deed.act ≡ Begins ticket request
  pub settled : In (record deed { act = Settles ticket }) deeds
  pub cancels : Cancels request id taken

-- behind a chain that ends in a deletion stands a cancel_sm of its message
pub record IsDeletion (id : ℕ) (chain : List Decree) (deeds : List Deed) : Type 0 where
  pub taken : Submission
  pub message : taken_in chain ≡ Some taken
  pub cancelled : CameToCancel deeds id taken

-- a moment that the clock of an author had: that of its start, or one that came to it in that incarnation
abbrev pub WasOnClock : List Deed → Author → ℕ → Type 0
WasOnClock deeds author moment = (moment ≡ opening_clock) ⊎ In (deed_by author (Ticks moment)) deeds

-- the newest decree is not ahead of its author's clock and of the decree before it
abbrev pub IsTimely : List Deed → List Decree → Type 0
IsTimely deeds [] = Unit {0}
IsTimely deeds (first ∷ []) = WasOnClock deeds first.author first.moment
IsTimely deeds (next ∷ newest ∷ older) = (next.moment ≡ newest.moment) ⊎ WasOnClock deeds next.author next.moment

-- the newest decree has the error that its author may give it
abbrev pub HasItsError : List Decree → Type 0
HasItsError [] = Unit {0}
HasItsError (first ∷ []) = Unit {0}
HasItsError (next ∷ newest ∷ older) = HasError newest.kind next.kind
