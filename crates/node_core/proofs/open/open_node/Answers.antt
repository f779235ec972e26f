use Rattle.node_core.proofs.Loading.{for_err, for_ok}
use Rattle.node_core.proofs.open.open_node.Goals as goal

pub returns-in-Ok-clause-ok : goal.returns-in-Ok-clause-ok
returns-in-Ok-clause-ok g c =
    for_ok _ _ c.begin.result (λ opened begins. begins c.args.setup c.args.store c.in-Ok.ensures.ok) c.begin.ensures.ok

pub returns-in-Ok-clause-err : goal.returns-in-Ok-clause-err
returns-in-Ok-clause-err g c =
    for_err _ _ c.begin.result (λ failed fails. fails c.args.setup c.args.store c.in-Ok.ensures.ok) c.begin.ensures.err
