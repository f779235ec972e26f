use Rattle.std.proofs.Common.{subst}
use Rattle.node_threads.specs.Actions.{AllBegin}
use Rattle.node_threads.specs.Defaults.{Defaults}
use Rattle.node_threads.specs.Openings.{cluster_of, kept_at}
use Rattle.serve_tests.proofs.served.made.Goals as goal

pub returns-clause-begin : goal.returns-clause-begin
returns-clause-begin g c =
    let nodes = c.opened-nodes.result.0.items in
    subst (λ (d : Defaults). AllBegin (cluster_of nodes d) (kept_at nodes d) nodes) c.defaults_of-defaults.ensures c.opened-nodes.ensures
