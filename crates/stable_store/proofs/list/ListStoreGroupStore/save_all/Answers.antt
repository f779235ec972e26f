use Rattle.std.proofs.Common.{reverse, refl}
use Rattle.synod_acceptor.specs.Records.{entries_of}
use Rattle.stable_store.specs.Stored.{Listed}
use Rattle.stable_store.proofs.Groups.{group_put, leaves_group, saves_group}
use Rattle.stable_store.proofs.list.ListStoreGroupStore.save_all.Goals as goal

pub returns-clause-ok : goal.returns-clause-ok
returns-clause-ok c =
    let old : Listed = record { entries = entries_of (reverse c.self.inside.saved.items); started = c.self.inside.started } in
    let new : Listed = record { entries = entries_of (reverse c.append.new.self.items); started = c.self.inside.started } in
    rw (← c.self.view_is) (saves_group c.args.changes.now old new 0 0 (group_put c.args.changes.now c.self.inside.saved.items c.in_ok-records.records.items
    c.append.new.self.items c.in_ok-records.ensures c.in_ok-append.ensures.items))

pub returns-clause-stop : goal.returns-clause-stop
returns-clause-stop c =
    let old : Listed = record { entries = entries_of (reverse c.self.inside.saved.items); started = c.self.inside.started } in
    let new : Listed = record { entries = entries_of (reverse c.append.new.self.items); started = c.self.inside.started } in
    rw (← c.self.view_is) (leaves_group c.args.changes.now old new 0 0 (group_put c.args.changes.now c.self.inside.saved.items c.in_ok-records.records.items
    c.append.new.self.items c.in_ok-records.ensures c.in_ok-append.ensures.items) refl)
