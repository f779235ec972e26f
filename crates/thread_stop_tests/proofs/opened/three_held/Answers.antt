use Rattle.std.proofs.Common.{refl, subst}
use Rattle.mc_model.specs.cluster.Steps.{setup_of}
use Rattle.node_model.specs.Stepped.{opened_new}
use Rattle.node_threads.specs.Actions.{AllBegin}
use Rattle.node_threads.specs.Defaults.{Defaults}
use Rattle.node_threads.specs.Openings.{cluster_of}
use Rattle.thread_stop_tests.proofs.opened.three_held.Goals as goal

pub returns : goal.returns
returns g c =
    let nodes = c.in-Ok.opened.0.items in
    subst (λ (d : Defaults). AllBegin (cluster_of nodes d) (λ node. opened_new (setup_of (cluster_of nodes d) node)) nodes) c.defaults.ensures
    (c.opened_nodes_begin.ensures.new c.defaults.result c.held_stores-stores.result.items nodes c.in-Ok.opened.1.items c.in-Ok.ensures.opened
    c.held_stores-stores.ensures (λ node among. refl))
