use Rattle.std.proofs.Common.{rules}
use Rattle.waiting_messages.proofs.Remembering.{absent_told}
use Rattle.waiting_messages.proofs.presence.Presence.absent.Goals as goal

pub returns-in_err-copy-clause-memory : goal.returns-in_err-copy-clause-memory
returns-in_err-copy-clause-memory c none = absurd (absent_told c.args.up.now.items c.args.self.now c.loop-seen.seen-index c.seen-item.result (search rules) (search rules) none)

pub returns-in_err-push-clause-memory : goal.returns-in_err-push-clause-memory
returns-in_err-push-clause-memory c none = absurd (absent_told c.args.up.now.items c.args.self.now c.loop-seen.seen-index c.seen-item.result (search rules) (search rules) none)
