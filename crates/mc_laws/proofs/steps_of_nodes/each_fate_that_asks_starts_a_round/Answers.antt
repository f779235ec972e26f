use Rattle.std.proofs.Common.{sym, subst}
use Rattle.mc_model.specs.synod.Lists.{In}
use Rattle.mc_model.specs.node.Actor.{Actor}
use Rattle.mc_model.specs.node.Effect.{saved}
use Rattle.mc_laws.specs.Receipts.{HasToTell, MayTell, starts_told}
use Rattle.mc_laws.proofs.step.Announced.{announced}
use Rattle.mc_laws.proofs.steps_of_nodes.each_fate_that_asks_starts_a_round.Goals as goal

pub returns : goal.returns
returns c = λ setup a now records acceptor slot vote acts exact id fate older ballot is.
    subst (λ (n : Actor). HasToTell setup a n id fate older → MayTell setup n (saved records exact.core) id fate older ballot →
    In (starts_told setup n id fate older ballot) acts) (sym is) (announced setup a records acceptor slot vote acts exact id fate older ballot)
