use Rattle.std.proofs.Common.{ap, ◌==◌}
use Rattle.sessions.proofs.Firsts.{stays}
use Rattle.sessions.proofs.laws.reply_to_another_changes_nothing.Goals as goal

pub returns : goal.returns
returns c session ticket none = ap (λ requests. record session { requests = requests }) (stays (λ request. request.ticket == ticket) session.requests none)
