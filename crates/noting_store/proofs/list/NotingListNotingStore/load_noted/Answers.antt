use Rattle.noting_store.proofs.list.NotingListNotingStore.load_noted.Goals as goal

pub returns-clause-found : goal.returns-clause-found
returns-clause-found c = λ clean. rw (← c.deref.ensures.value) c.newest_of.ensures.found
