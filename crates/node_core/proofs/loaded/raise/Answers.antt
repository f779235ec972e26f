use Rattle.node_core.proofs.loaded.raise.Goals as goal

pub returns-clause-ok : goal.returns-clause-ok
returns-clause-ok g c = record {
  number = c.in_ok-incarnation.incarnation;
  begun = c.begin.ensures;
  next = c.in_ok-incarnation.ensures.next;
  started = c.in_ok-incarnation.ensures.raised;
  kept = c.in_ok-incarnation.ensures.records;
  left = c.in_ok-incarnation.ensures.stop;
  goes_on = c.in_ok-incarnation.ensures.goes_on;
}
