use Rattle.node_core.proofs.Loading.{found_after, leaves_next, left_after, on_after, open_after}
use Rattle.node_core.proofs.open.begin.Goals as goal

pub returns-clause-ok : goal.returns-clause-ok
returns-clause-ok g c =
    let stored = g.S.StableStore.stored in
    open_after c.args.setup (stored c.args.store.now) (stored c.load.new.store) (stored c.raise.new.store) c.in_ok-kept.kept c.raise.new.kept
    c.in_ok-kept.ensures.ok c.in_ok-raise.ensures.ok

pub returns-clause-found : goal.returns-clause-found
returns-clause-found g c =
    let stored = g.S.StableStore.stored in
    found_after c.args.setup (stored c.args.store.now) (stored c.load.new.store) (stored c.raise.new.store) c.in_ok-kept.kept c.raise.new.kept
    c.in_ok-kept.ensures.ok c.in_ok-raise.ensures.ok

pub returns-clause-left : goal.returns-clause-left
returns-clause-left g c =
    let stored = g.S.StableStore.stored in
    left_after c.args.setup (stored c.args.store.now) (stored c.load.new.store) (stored c.raise.new.store) c.in_ok-kept.kept c.raise.new.kept
    c.in_ok-kept.ensures.ok c.in_ok-raise.ensures.ok

pub returns-clause-goes_on : goal.returns-clause-goes_on
returns-clause-goes_on g c =
    let stored = g.S.StableStore.stored in
    on_after c.args.setup (stored c.args.store.now) (stored c.load.new.store) (stored c.raise.new.store) c.in_ok-kept.kept c.raise.new.kept
    c.in_ok-kept.ensures.ok c.in_ok-raise.ensures.ok

pub returns-in_err-raise-clause-left : goal.returns-in_err-raise-clause-left
returns-in_err-raise-clause-left g c =
    let stored = g.S.StableStore.stored in
    let loaded = c.in_ok-kept.ensures.ok in
    leaves_next (stored c.args.store.now) (stored c.load.new.store) (stored c.raise.new.store) loaded.stays loaded.left c.in_err-raise.ensures.err.left
