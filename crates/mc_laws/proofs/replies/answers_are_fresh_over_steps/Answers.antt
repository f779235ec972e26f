use Rattle.mc_model.specs.node.Replies.{Shown, Unknown}
use Rattle.mc_laws.proofs.step.Behind.{run_by}
use Rattle.mc_laws.proofs.invariant.Answers.{answered, fresh_query, never_unknown}
use Rattle.mc_laws.proofs.replies.answers_are_fresh_over_steps.Goals as goal

pub returns-clause-told : goal.returns-clause-told
returns-clause-told c = λ run newer replying middle beginning older ticket request id chain stating final is begins replies.
    fresh_query (run_by run).nodes (run_by run).serials beginning ticket request id chain older
    (answered (run_by run).nodes (run_by run).serials (run_by run).acts newer replying middle beginning older ticket request id
    (Shown chain) (run_by run).may is begins replies) stating final

pub returns-clause-known : goal.returns-clause-known
returns-clause-known c = λ run newer replying middle beginning older ticket request id accepting taken is begins replies.
    never_unknown (run_by run).nodes (run_by run).serials beginning ticket request id older
    (answered (run_by run).nodes (run_by run).serials (run_by run).acts newer replying middle beginning older ticket request id Unknown
    (run_by run).may is begins replies) accepting taken
