use Rattle.node_stores.proofs.store.NodeStoreStableStore.save.Goals as goal

pub returns-in-OnDisk-clause-ok : goal.returns-in-OnDisk-clause-ok
returns-in-OnDisk-clause-ok c = rw c.in-OnDisk.is c.save.ensures.ok

pub returns-in-OnDisk-clause-kept : goal.returns-in-OnDisk-clause-kept
returns-in-OnDisk-clause-kept c = rw c.in-OnDisk.is c.save.ensures.kept

pub returns-in-OnDisk-clause-memory : goal.returns-in-OnDisk-clause-memory
returns-in-OnDisk-clause-memory c = rw c.in-OnDisk.is c.save.ensures.memory

pub returns-in-OnDisk-clause-stop : goal.returns-in-OnDisk-clause-stop
returns-in-OnDisk-clause-stop c = rw c.in-OnDisk.is c.save.ensures.stop

pub returns-in-InMemory-clause-ok : goal.returns-in-InMemory-clause-ok
returns-in-InMemory-clause-ok c = rw c.in-InMemory.is c.save-in-InMemory.ensures.ok

pub returns-in-InMemory-clause-kept : goal.returns-in-InMemory-clause-kept
returns-in-InMemory-clause-kept c = rw c.in-InMemory.is c.save-in-InMemory.ensures.kept

pub returns-in-InMemory-clause-memory : goal.returns-in-InMemory-clause-memory
returns-in-InMemory-clause-memory c = rw c.in-InMemory.is c.save-in-InMemory.ensures.memory

pub returns-in-InMemory-clause-stop : goal.returns-in-InMemory-clause-stop
returns-in-InMemory-clause-stop c = rw c.in-InMemory.is c.save-in-InMemory.ensures.stop
