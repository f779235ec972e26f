use Rattle.node_stores.proofs.store.NodeStoreGroupStore.save_all.Goals as goal

pub returns-in-OnDisk-clause-ok : goal.returns-in-OnDisk-clause-ok
returns-in-OnDisk-clause-ok c = rw c.in-OnDisk.is c.save_all.ensures.ok

pub returns-in-OnDisk-clause-kept : goal.returns-in-OnDisk-clause-kept
returns-in-OnDisk-clause-kept c = rw c.in-OnDisk.is c.save_all.ensures.kept

pub returns-in-OnDisk-clause-memory : goal.returns-in-OnDisk-clause-memory
returns-in-OnDisk-clause-memory c = rw c.in-OnDisk.is c.save_all.ensures.memory

pub returns-in-OnDisk-clause-stop : goal.returns-in-OnDisk-clause-stop
returns-in-OnDisk-clause-stop c = rw c.in-OnDisk.is c.save_all.ensures.stop

pub returns-in-InMemory-clause-ok : goal.returns-in-InMemory-clause-ok
returns-in-InMemory-clause-ok c = rw c.in-InMemory.is c.save_all-in-InMemory.ensures.ok

pub returns-in-InMemory-clause-kept : goal.returns-in-InMemory-clause-kept
returns-in-InMemory-clause-kept c = rw c.in-InMemory.is c.save_all-in-InMemory.ensures.kept

pub returns-in-InMemory-clause-memory : goal.returns-in-InMemory-clause-memory
returns-in-InMemory-clause-memory c = rw c.in-InMemory.is c.save_all-in-InMemory.ensures.memory

pub returns-in-InMemory-clause-stop : goal.returns-in-InMemory-clause-stop
returns-in-InMemory-clause-stop c = rw c.in-InMemory.is c.save_all-in-InMemory.ensures.stop
