use Rattle.std.proofs.Common.{rules}
use Rattle.std.specs.Option.{option_copied}
use Rattle.node_model.specs.Answers.{answer_to}
use Rattle.waiting_requests.specs.Waiting.{held_of, known_of}
use Rattle.node_kept.proofs.Verdicts.{answered, replied_by, unanswered}
use Rattle.node_kept.proofs.kept.Kept.verdict.Goals as goal

pub returns-in_default : goal.returns-in_default
returns-in_default c =
    let none = unanswered (held_of c.args.held) (answer_to c.nodes.result (known_of (option_copied c.args.known)) (held_of c.args.held))
    c.in_ok-reply.field-0 c.in_ok-reply.ensures.reply c.in_default.is in
    search (rules, none)

pub returns : goal.returns
returns c =
    let given = answered (held_of c.args.held) (answer_to c.nodes.result (known_of (option_copied c.args.known)) (held_of c.args.held))
    c.in_ok-reply.field-0 c.in-Some.reply c.in_ok-reply.ensures.reply c.in-Some.is in
    let replied = replied_by (held_of c.args.held) (answer_to c.nodes.result (known_of (option_copied c.args.known)) (held_of c.args.held))
    c.in_ok-reply.field-0 c.in-Some.reply c.in_ok-reply.ensures.reply c.in-Some.is in
    search (rules, given, replied)
