use Rattle.node_stores.proofs.store.NodeStoreNotingStore.load_noted.Goals as goal

pub returns-in-OnDisk-clause-found : goal.returns-in-OnDisk-clause-found
returns-in-OnDisk-clause-found c = rw c.in-OnDisk.is c.load_noted.ensures.found

pub returns-in-OnDisk-clause-ok : goal.returns-in-OnDisk-clause-ok
returns-in-OnDisk-clause-ok c = rw c.in-OnDisk.is c.load_noted.ensures.ok

pub returns-in-OnDisk-clause-memory : goal.returns-in-OnDisk-clause-memory
returns-in-OnDisk-clause-memory c = rw c.in-OnDisk.is c.load_noted.ensures.memory

pub returns-in-OnDisk-clause-damaged : goal.returns-in-OnDisk-clause-damaged
returns-in-OnDisk-clause-damaged c = rw c.in-OnDisk.is c.load_noted.ensures.damaged

pub returns-in-OnDisk-clause-stop : goal.returns-in-OnDisk-clause-stop
returns-in-OnDisk-clause-stop c = rw c.in-OnDisk.is c.load_noted.ensures.stop

pub returns-in-OnDisk-clause-noted : goal.returns-in-OnDisk-clause-noted
returns-in-OnDisk-clause-noted c = rw c.in-OnDisk.is c.load_noted.ensures.noted

pub returns-in-InMemory-clause-found : goal.returns-in-InMemory-clause-found
returns-in-InMemory-clause-found c = rw c.in-InMemory.is c.load_noted-in-InMemory.ensures.found

pub returns-in-InMemory-clause-ok : goal.returns-in-InMemory-clause-ok
returns-in-InMemory-clause-ok c = rw c.in-InMemory.is c.load_noted-in-InMemory.ensures.ok

pub returns-in-InMemory-clause-memory : goal.returns-in-InMemory-clause-memory
returns-in-InMemory-clause-memory c = rw c.in-InMemory.is c.load_noted-in-InMemory.ensures.memory

pub returns-in-InMemory-clause-damaged : goal.returns-in-InMemory-clause-damaged
returns-in-InMemory-clause-damaged c = rw c.in-InMemory.is c.load_noted-in-InMemory.ensures.damaged

pub returns-in-InMemory-clause-stop : goal.returns-in-InMemory-clause-stop
returns-in-InMemory-clause-stop c = rw c.in-InMemory.is c.load_noted-in-InMemory.ensures.stop

pub returns-in-InMemory-clause-noted : goal.returns-in-InMemory-clause-noted
returns-in-InMemory-clause-noted c = rw c.in-InMemory.is c.load_noted-in-InMemory.ensures.noted
