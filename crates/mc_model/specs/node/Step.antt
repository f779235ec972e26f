-- A step of a node: what comes to it, and all that it does then.
--
-- A step is a list of acts, of which each may be done where it stands. Which acts those are is exact: what the input does by
-- itself, what is settled, asked, prepared, proposed, answered and reported. What is due is done in the step in which it
-- becomes due, and nothing else is done.
use Rattle.std.specs.Prelude.{◌≡◌, List, ◌++◌}
use Rattle.mc_model.specs.synod.Acceptor.{Records}
use Rattle.mc_model.specs.node.Setup.{Setup}
use Rattle.mc_model.specs.node.Actor.{Actor}
use Rattle.mc_model.specs.node.Act.{Act}
use Rattle.mc_model.specs.node.Effect.{did, saved}
use Rattle.mc_model.specs.node.Input.{Input}
use Rattle.mc_model.specs.node.Due.{AreDue, AreDueOnce}
use Rattle.mc_model.specs.node.Core.{IsCore}
use Rattle.mc_model.specs.node.Phases.{
  DueToAbandon,
  DueToAsk,
  DueToEnd,
  DueToPrepare,
  DueToPropose,
  DueToReply,
  DueToReport,
  DueToSettle,
}

-- The input's own acts; what is settled then, and who waited too long; what is asked, given up, prepared and proposed; who is
-- answered, and which receipts go out.
pub record IsExact (setup : Setup) (a : Actor) (records : Records) (input : Input) (acts : List Act) : Type 0 where
  pub core : List Act
  pub settles : List Act
  pub late : List Act
  pub asks : List Act
  pub abandons : List Act
  pub prepares : List Act
  pub proposes : List Act
  pub replies : List Act
  pub reports : List Act
  pub acts_are : acts ≡ reports ++ replies ++ proposes ++ prepares ++ abandons ++ asks ++ late ++ settles ++ core
  pub core_is : IsCore setup a records input core
  pub settled : AreDue (DueToSettle setup.nodes setup.node (did setup.node a core)) settles
  pub ended : AreDue (DueToEnd input (did setup.node a (settles ++ core))) late
  pub asked : AreDue (DueToAsk setup.nodes setup.node a (did setup.node a (late ++ settles ++ core)) input) asks
  pub abandoned : AreDue (DueToAbandon setup.nodes setup.node (did setup.node a (late ++ settles ++ core))
      (saved records core) input) abandons
  pub prepared : AreDueOnce (DueToPrepare setup.nodes setup.node a (did setup.node a (late ++ settles ++ core))
      (saved records core) input) prepares
  pub proposed : AreDueOnce (DueToPropose setup.nodes setup.node a (did setup.node a (late ++ settles ++ core))) proposes
  pub replied : AreDue (DueToReply setup.nodes setup.node (did setup.node a (late ++ settles ++ core))) replies
  pub reported : AreDue (DueToReport setup.nodes setup.node a (did setup.node a core)) reports
