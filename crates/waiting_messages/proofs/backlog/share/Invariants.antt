use Rattle.std.proofs.Common.{◌≡◌, count_by, take}
use Rattle.waiting_messages.specs.Named.{NameableTest}
use Rattle.waiting_messages.proofs.backlog.share.Given as goal

abbrev pub invariant-loop-queue : goal.invariant-loop-queue
invariant-loop-queue l = (test : NameableTest l.naming.spread.now l.naming.node l.naming.now l.account) → l.among ≡ count_by test.passes (take l.queue-index l.queues)
