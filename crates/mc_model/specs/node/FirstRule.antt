-- The rules of a tick in their order, of which the first that fits starts a round (own).
use Rattle.std.specs.Prelude.{ℕ, ◌<◌, List}
use Rattle.mc_model.specs.message.Decree.{Decree, Expired, Fate, Told}
use Rattle.mc_model.specs.synod.Acceptor.{Records}
use Rattle.mc_model.specs.node.Actor.{Actor}
use Rattle.mc_model.specs.node.Reach.{Reach}
use Rattle.mc_model.specs.node.Rules.{
  FitsClose,
  FitsDelete,
  FitsFollow,
  FitsGiveUp,
  FitsLose,
  FitsTake,
  FitsTry,
  FitsUndeliver,
  IsDue,
}

-- The rules of a tick, in their order: a submit_sm waits; a vote stands beyond what is known; an attempt of the node was closed;
-- one of an older incarnation is lost; one that was not granted has no target that is up; a cancel_sm waits; the message
-- expires; eight attempts failed; the next attempt is due; the receipt on its fate is to be told.
pub data Rule : Type 0 where
  Take : Rule
  Follow : Rule
  Close : Rule
  Lose : Rule
  GiveUp : Rule
  Delete : Rule
  Expire : Rule
  Undeliver : Rule
  Try : Rule
  Announce : Rule

abbrev pub order_of : Rule → ℕ
order_of Take = 1
order_of Follow = 2
order_of Close = 3
order_of Lose = 4
order_of GiveUp = 5
order_of Delete = 6
order_of Expire = 7
order_of Undeliver = 8
order_of Try = 9
order_of Announce = 10

-- by a rule a round is to be started at a place, for a chain
abbrev pub FitsRule : ℕ → ℕ → Actor → Records → Reach → ℕ → ℕ → List Decree → Rule → Type 0
FitsRule nodes node a records reach id place chain Take = FitsTake node a id place chain
FitsRule nodes node a records reach id place chain Follow = FitsFollow nodes node a records id place chain
FitsRule nodes node a records reach id place chain Close = FitsClose nodes node a id place chain
FitsRule nodes node a records reach id place chain Lose = FitsLose nodes node a id place chain
FitsRule nodes node a records reach id place chain GiveUp = FitsGiveUp nodes node a reach id place chain
FitsRule nodes node a records reach id place chain Delete = FitsDelete nodes node a id place chain
FitsRule nodes node a records reach id place chain Expire = IsDue nodes node a id place chain (Fate Expired 0)
FitsRule nodes node a records reach id place chain Undeliver = FitsUndeliver nodes node a id place chain
FitsRule nodes node a records reach id place chain Try = FitsTry nodes node a reach id place chain
FitsRule nodes node a records reach id place chain Announce = IsDue nodes node a id place chain Told

-- the first rule that fits
pub record IsFirstRule (nodes node : ℕ) (a : Actor) (records : Records) (reach : Reach) (id place : ℕ) (chain : List Decree)
    (rule : Rule) : Type 0 where
  pub fits : FitsRule nodes node a records reach id place chain rule
  pub first : (earlier : Rule) (other : ℕ) (of : List Decree) → order_of earlier < order_of rule →
      FitsRule nodes node a records reach id other of earlier → ⊥
