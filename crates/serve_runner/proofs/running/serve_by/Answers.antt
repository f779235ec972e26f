use Rattle.std.proofs.Common.{subst}
use Rattle.server.specs.Actions.{AllBegin}
use Rattle.server.specs.Defaults.{Defaults}
use Rattle.server.specs.Openings.{cluster_of, kept_at}
use Rattle.serve_runner.proofs.running.serve_by.Goals as goal

pub serve_over-requires-clause-begin : goal.serve_over-requires-clause-begin
serve_over-requires-clause-begin g c κs within =
    let nodes = c.in_ok-nodes.nodes.items in
    subst (λ (d : Defaults). AllBegin (cluster_of nodes d) (kept_at nodes d) nodes) c.in-Some.ensures.value
    (c.in_ok-nodes.ensures c.in-Some.defaults c.in_ok-stores.stores.items c.in_ok-loaded.ensures)
