use Rattle.node_stores.proofs.store.NodeStoreNotingStore.note.Goals as goal

pub returns-in-OnDisk-clause-ok : goal.returns-in-OnDisk-clause-ok
returns-in-OnDisk-clause-ok c = rw c.in-OnDisk.is c.note.ensures.ok

pub returns-in-OnDisk-clause-memory : goal.returns-in-OnDisk-clause-memory
returns-in-OnDisk-clause-memory c = rw c.in-OnDisk.is c.note.ensures.memory

pub returns-in-OnDisk-clause-stop : goal.returns-in-OnDisk-clause-stop
returns-in-OnDisk-clause-stop c = rw c.in-OnDisk.is c.note.ensures.stop

pub returns-in-OnDisk-clause-noted : goal.returns-in-OnDisk-clause-noted
returns-in-OnDisk-clause-noted c = rw c.in-OnDisk.is c.note.ensures.noted

pub returns-in-InMemory-clause-ok : goal.returns-in-InMemory-clause-ok
returns-in-InMemory-clause-ok c = rw c.in-InMemory.is c.note-in-InMemory.ensures.ok

pub returns-in-InMemory-clause-memory : goal.returns-in-InMemory-clause-memory
returns-in-InMemory-clause-memory c = rw c.in-InMemory.is c.note-in-InMemory.ensures.memory

pub returns-in-InMemory-clause-stop : goal.returns-in-InMemory-clause-stop
returns-in-InMemory-clause-stop c = rw c.in-InMemory.is c.note-in-InMemory.ensures.stop

pub returns-in-InMemory-clause-noted : goal.returns-in-InMemory-clause-noted
returns-in-InMemory-clause-noted c = rw c.in-InMemory.is c.note-in-InMemory.ensures.noted
