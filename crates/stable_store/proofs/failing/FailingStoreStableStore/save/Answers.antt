use Rattle.std.proofs.Common.{refl}
use Rattle.synod_acceptor.specs.Records.{record_at}
use Rattle.stable_store.proofs.failing.FailingStoreStableStore.save.Goals as goal

pub returns-clause-after : goal.returns-clause-after
returns-clause-after c = λ failed after.
    rw c.end_save-2.ensures.store (c.in_ok-save.ensures.ok (record_at c.args.self.now.store.entries) (record { each = λ slot. refl }))
