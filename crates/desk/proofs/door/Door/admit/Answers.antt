use Rattle.desk.proofs.door.Door.admit.Goals as goal

pub returns-in-Ask-clause-memory : goal.returns-in-Ask-clause-memory
returns-in-Ask-clause-memory c = rw (c.in-Ask.is) c.query.ensures.memory

pub returns-in-Cancel-clause-memory : goal.returns-in-Cancel-clause-memory
returns-in-Cancel-clause-memory c = rw (c.in-Cancel.is) c.cancel.ensures.memory
