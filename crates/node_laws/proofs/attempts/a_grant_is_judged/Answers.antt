use Rattle.std.proofs.Common.{subst}
use Rattle.node_laws.proofs.invariant.Judging.{Judged, grant_judged}
use Rattle.node_model.specs.Kept.{message_at}
use Rattle.node_laws.proofs.attempts.a_grant_is_judged.Goals as goal

pub returns-clause-refused : goal.returns-clause-refused
returns-clause-refused c setup k s stands id refusal is =
    let m = message_at k id in
    let on = stands.agrees.message id in
    subst (Judged setup k s.actor stands.agrees.incarnation id m on.attempts on.heard.known) is
    (grant_judged setup k s.actor stands.agrees.incarnation id m on.attempts on.heard.known)

pub returns-clause-given : goal.returns-clause-given
returns-clause-given c setup k s stands id is =
    let m = message_at k id in
    let on = stands.agrees.message id in
    subst (Judged setup k s.actor stands.agrees.incarnation id m on.attempts on.heard.known) is
    (grant_judged setup k s.actor stands.agrees.incarnation id m on.attempts on.heard.known)
