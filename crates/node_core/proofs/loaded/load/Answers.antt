use Rattle.synod_acceptor.specs.Records.{entries_of, record_at}
use Rattle.node_core.proofs.Loading.{has_loaded}
use Rattle.node_core.proofs.loaded.load.Goals as goal

pub returns-clause-ok : goal.returns-clause-ok
returns-clause-ok g c =
    let old = g.S.StableStore.stored c.args.store.now in
    let new = g.S.StableStore.stored c.load.new.self in
    let loaded = record_at (entries_of c.in_ok-records.records.items) in
    has_loaded c.args.setup c.of.result loaded c.in_ok-kept.kept old new c.in_ok-kept.ensures c.in_ok-records.ensures.loaded
    (λ sure. g.met.S.StableStore.found c.load.new.self loaded sure c.in_ok-records.ensures.loaded)
    c.in_ok-records.ensures.kept c.in_ok-records.ensures.stop c.in_ok-records.ensures.goes_on
