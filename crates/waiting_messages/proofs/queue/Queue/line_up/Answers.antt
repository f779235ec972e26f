use Rattle.std.proofs.Common.{◌≡◌, ap, sym, ◌∙◌}
use Rattle.std.specs.BTreeMap.{is_at}
use Rattle.std.specs.Map.{remove_entry}
use Rattle.std.specs.Ordering.{nat_cmp}
use Rattle.waiting_messages.specs.Queues.{Queue, moment_of}
use Rattle.waiting_messages.proofs.Queueing.{remove-insert}
use Rattle.waiting_messages.proofs.Standing.{on_err}
use Rattle.waiting_messages.proofs.queue.Queue.line_up.Goals as goal

pub returns-then-is_err-clause-same : goal.returns-then-is_err-clause-same
returns-then-is_err-clause-same c =
    let absent = ap (λ (queue : Queue). moment_of c.args.id queue) c.self.view_is ∙ c.requires in
    let moments : c.remove.new.self.entries ≡ c.self.inside.moments.entries =
    c.remove.ensures.entries ∙ ap (remove_entry (is_at (nat_cmp c.args.id))) c.in_ok-insert.ensures.entries
    ∙ remove-insert c.args.id c.args.from c.self.inside.moments.entries absent in
    let waiting : c.insert-2.new.self.entries ≡ c.self.inside.waiting.entries =
    on_err c.insert-2.result _ (sym c.is_err.ensures.value ∙ c.if-is_err.true) c.insert-2.ensures.err in
    rw (moments, waiting) c.self.view_is
