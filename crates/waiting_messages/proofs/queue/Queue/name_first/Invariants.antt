use Rattle.std.proofs.Common.{◌≡◌, take}
use Rattle.waiting_messages.specs.Queues.{all_named, all_passed}
use Rattle.waiting_messages.proofs.queue.Queue.name_first.Given as goal

abbrev pub invariant-loop-due : goal.invariant-loop-due
invariant-loop-due l = record {
  named : l.named ≡ all_named l.fn.named (take l.due-index l.due-items);
  passed : l.self ≡ all_passed l.now l.fn.self (take l.due-index l.due-items);
}
