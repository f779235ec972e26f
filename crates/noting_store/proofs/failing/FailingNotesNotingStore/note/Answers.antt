use Rattle.noting_store.proofs.failing.FailingNotesNotingStore.note.Goals as goal

pub returns-clause-noted : goal.returns-clause-noted
returns-clause-noted c = rw c.end_call-2.ensures.store c.note.ensures.noted
