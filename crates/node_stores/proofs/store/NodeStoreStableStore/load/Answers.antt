use Rattle.node_stores.proofs.store.NodeStoreStableStore.load.Goals as goal

pub returns-in-OnDisk-clause-kept : goal.returns-in-OnDisk-clause-kept
returns-in-OnDisk-clause-kept c = rw c.in-OnDisk.is c.load.ensures.kept

pub returns-in-OnDisk-clause-memory : goal.returns-in-OnDisk-clause-memory
returns-in-OnDisk-clause-memory c = rw c.in-OnDisk.is c.load.ensures.memory

pub returns-in-OnDisk-clause-stop : goal.returns-in-OnDisk-clause-stop
returns-in-OnDisk-clause-stop c = rw c.in-OnDisk.is c.load.ensures.stop

pub returns-in-OnDisk-clause-damaged : goal.returns-in-OnDisk-clause-damaged
returns-in-OnDisk-clause-damaged c = rw c.in-OnDisk.is c.load.ensures.damaged

pub returns-in-InMemory-clause-kept : goal.returns-in-InMemory-clause-kept
returns-in-InMemory-clause-kept c = rw c.in-InMemory.is c.load-in-InMemory.ensures.kept

pub returns-in-InMemory-clause-memory : goal.returns-in-InMemory-clause-memory
returns-in-InMemory-clause-memory c = rw c.in-InMemory.is c.load-in-InMemory.ensures.memory

pub returns-in-InMemory-clause-stop : goal.returns-in-InMemory-clause-stop
returns-in-InMemory-clause-stop c = rw c.in-InMemory.is c.load-in-InMemory.ensures.stop

pub returns-in-InMemory-clause-damaged : goal.returns-in-InMemory-clause-damaged
returns-in-InMemory-clause-damaged c = rw c.in-InMemory.is c.load-in-InMemory.ensures.damaged
