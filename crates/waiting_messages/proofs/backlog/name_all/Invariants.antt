use Rattle.std.proofs.Common.{◌≡◌, ◌++◌, ℕ, ◌≤◌, drop, get_or, length, take}
use Rattle.waiting_messages.specs.Queues.{Queue, all_named}
use Rattle.waiting_messages.specs.Named.{NameableTest, NamesFirst, all_passed_in, firsts_in}
use Rattle.waiting_messages.proofs.backlog.name_all.Given as goal

abbrev pub invariant-loop-queue : goal.invariant-loop-queue
invariant-loop-queue l = record {
  first : NamesFirst l.naming.spread.now l.naming.node l.naming.now l.share l.account l.fn.queues.items l.fn.named l.named;
  named : (test : NameableTest l.naming.spread.now l.naming.node l.naming.now l.account) →
      l.named ≡ all_named l.fn.named (firsts_in test.passes l.naming.now l.share (take l.queue-index l.fn.queues.items));
  passed : (test : NameableTest l.naming.spread.now l.naming.node l.naming.now l.account) →
      l.queue-items ≡ all_passed_in test.passes l.naming.now l.share (take l.queue-index l.fn.queues.items) ++ drop l.queue-index l.fn.queues.items;
  later : (k : ℕ) (d : Queue) → l.queue-index ≤ k → get_or l.queue-items k d ≡ get_or l.fn.queues.items k d;
  size : length l.queue-items ≡ length l.fn.queues.items;
}
