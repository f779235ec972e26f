use Rattle.server.proofs.Begun.{kept_by_all}
use Rattle.server.proofs.serving.serve.Goals as goal

pub returns : goal.returns
returns g c = record {
  closed = kept_by_all g.S.StableStore.stored g.L.Begins.cluster g.L.Begins.kept g.L.Begins.numbers c.all_parts_are_one.ensures.promises
      c.serve_over.result.journal c.serve_over.ensures;
}
