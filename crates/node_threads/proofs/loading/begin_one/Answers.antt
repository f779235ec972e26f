use Rattle.std.proofs.Common.{sym, ap, subst, ◌∙◌}
use Rattle.mc_model.specs.node.Setup.{Setup}
use Rattle.node_threads.specs.Loadings.{CantBeginOne}
use Rattle.node_threads.proofs.Loadings.{cant_begin}
use Rattle.node_threads.proofs.loading.begin_one.Goals as goal

pub returns-in-Err-clause-fault : goal.returns-in-Err-clause-fault
returns-in-Err-clause-fault g c =
    subst (CantBeginOne g.S.StableStore.stored c.args.loaded) (sym c.fault_of.ensures)
    (cant_begin g.S.StableStore.stored c.args.loaded c.node.result c.in-Err.fault c.in-Err.store
    (c.node.ensures ∙ ap (λ (setup : Setup). setup.node) c.setup-setup.ensures) c.in-Err.ensures.err)
