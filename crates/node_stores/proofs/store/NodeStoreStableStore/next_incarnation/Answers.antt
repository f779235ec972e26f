use Rattle.node_stores.proofs.store.NodeStoreStableStore.next_incarnation.Goals as goal

pub returns-in-OnDisk-clause-next : goal.returns-in-OnDisk-clause-next
returns-in-OnDisk-clause-next c = rw c.in-OnDisk.is c.next_incarnation.ensures.next

pub returns-in-OnDisk-clause-records : goal.returns-in-OnDisk-clause-records
returns-in-OnDisk-clause-records c = rw c.in-OnDisk.is c.next_incarnation.ensures.records

pub returns-in-OnDisk-clause-incarnations : goal.returns-in-OnDisk-clause-incarnations
returns-in-OnDisk-clause-incarnations c = rw c.in-OnDisk.is c.next_incarnation.ensures.incarnations

pub returns-in-OnDisk-clause-kept : goal.returns-in-OnDisk-clause-kept
returns-in-OnDisk-clause-kept c = rw c.in-OnDisk.is c.next_incarnation.ensures.kept

pub returns-in-OnDisk-clause-memory : goal.returns-in-OnDisk-clause-memory
returns-in-OnDisk-clause-memory c = rw c.in-OnDisk.is c.next_incarnation.ensures.memory

pub returns-in-OnDisk-clause-stop : goal.returns-in-OnDisk-clause-stop
returns-in-OnDisk-clause-stop c = rw c.in-OnDisk.is c.next_incarnation.ensures.stop

pub returns-in-OnDisk-clause-damaged : goal.returns-in-OnDisk-clause-damaged
returns-in-OnDisk-clause-damaged c = rw c.in-OnDisk.is c.next_incarnation.ensures.damaged

pub returns-in-InMemory-clause-next : goal.returns-in-InMemory-clause-next
returns-in-InMemory-clause-next c = rw c.in-InMemory.is c.next_incarnation-in-InMemory.ensures.next

pub returns-in-InMemory-clause-records : goal.returns-in-InMemory-clause-records
returns-in-InMemory-clause-records c = rw c.in-InMemory.is c.next_incarnation-in-InMemory.ensures.records

pub returns-in-InMemory-clause-incarnations : goal.returns-in-InMemory-clause-incarnations
returns-in-InMemory-clause-incarnations c = rw c.in-InMemory.is c.next_incarnation-in-InMemory.ensures.incarnations

pub returns-in-InMemory-clause-kept : goal.returns-in-InMemory-clause-kept
returns-in-InMemory-clause-kept c = rw c.in-InMemory.is c.next_incarnation-in-InMemory.ensures.kept

pub returns-in-InMemory-clause-memory : goal.returns-in-InMemory-clause-memory
returns-in-InMemory-clause-memory c = rw c.in-InMemory.is c.next_incarnation-in-InMemory.ensures.memory

pub returns-in-InMemory-clause-stop : goal.returns-in-InMemory-clause-stop
returns-in-InMemory-clause-stop c = rw c.in-InMemory.is c.next_incarnation-in-InMemory.ensures.stop

pub returns-in-InMemory-clause-damaged : goal.returns-in-InMemory-clause-damaged
returns-in-InMemory-clause-damaged c = rw c.in-InMemory.is c.next_incarnation-in-InMemory.ensures.damaged
