use Rattle.node_stores.proofs.store.NodeStore.open.Goals as goal

pub returns-in_ok-open_path-in-Some-clause-on_disk : goal.returns-in_ok-open_path-in-Some-clause-on_disk
returns-in_ok-open_path-in-Some-clause-on_disk c =
    let opened = c.in_ok-open_path-in-Some.ensures in
    rw c.in-Some.is (opened.fresh.0, opened.fresh.1, opened.ours)
