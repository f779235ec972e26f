use Rattle.std.proofs.Common.{◌≡◌, take}
use Rattle.node_parts.proofs.copies.replies_copied.Given as goal

abbrev pub invariant-loop-reply : goal.invariant-loop-reply
invariant-loop-reply l = l.copies.items ≡ take l.reply-index l.reply-items
