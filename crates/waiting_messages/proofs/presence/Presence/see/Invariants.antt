use Rattle.std.proofs.Common.{◌≡◌, take}
use Rattle.waiting_messages.specs.Presences.{kept_in, seen_all}
use Rattle.waiting_messages.proofs.presence.Presence.see.Given as goal

abbrev pub invariant-loop-account : goal.invariant-loop-account
invariant-loop-account l = l.self ≡ seen_all l.now (kept_in l.now l.linger_seconds l.fn.self) (take l.account-index l.up)
