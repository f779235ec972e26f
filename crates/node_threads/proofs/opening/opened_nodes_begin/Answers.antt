use Rattle.node_threads.proofs.Openings.{as_left, as_new, as_they_are, in_order}
use Rattle.node_threads.proofs.opening.opened_nodes_begin.Goals as goal

pub returns-clause-order : goal.returns-clause-order
returns-clause-order g c defaults stores nodes lives are = in_order g.S.StableStore.stored defaults stores nodes lives are

pub returns-clause-kept : goal.returns-clause-kept
returns-clause-kept g c defaults stores nodes lives are = as_they_are g.S.StableStore.stored defaults stores nodes lives are

pub returns-clause-new : goal.returns-clause-new
returns-clause-new g c defaults stores nodes lives are new sure =
    as_new g.S.StableStore.stored defaults stores nodes lives are g.met.S.StableStore.settled new sure

pub returns-clause-left : goal.returns-clause-left
returns-clause-left g c defaults stores nodes lives inputs fresh lost are left sure =
    as_left g.S.StableStore.stored defaults stores nodes lives are g.met.S.StableStore.settled inputs fresh lost left sure
