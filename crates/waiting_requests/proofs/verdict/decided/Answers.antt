use Rattle.std.proofs.Common.{◌≡◌, true, sym, ap, ◌∙◌}
use Rattle.mc_model.specs.message.Decree.{Decree}
use Rattle.node_model.specs.Answers.{is_match}
use Rattle.waiting_requests.proofs.Deciding.{decided_so}
use Rattle.waiting_requests.proofs.verdict.decided.Goals as goal

pub returns : goal.returns
returns c =
    let chain = c.args.chain.now.decrees in
    let matches : is_match c.submission.result.now c.args.account.now c.args.source.now c.args.destination.now ≡ true = sym c.if-not-is_match.ensures in
    c.ended.ensures chain
    ∙ decided_so c.args.account.now c.args.source.now c.args.destination.now chain c.newest.result.now c.submission.result.now _ _
    c.newest.ensures c.submission.ensures matches c.fate.ensures (ap (λ (d : Decree). d.kind) c.behind-chain.view_is)
