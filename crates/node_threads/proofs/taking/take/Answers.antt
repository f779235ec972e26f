use Rattle.std.proofs.Common.{sym, ◌∙◌, inl, inr}
use Rattle.node_threads.proofs.Refused.{copied_refused, neither, not_admitted}
use Rattle.node_threads.proofs.taking.take.Goals as goal

pub returns-in-Err-clause-faults : goal.returns-in-Err-clause-faults
returns-in-Err-clause-faults g c = λ copied.
    let post = c.args.member.now.post in
    let works = neither post.astray post.node.broken (sym c.is_broken.ensures ∙ c.in_ok-claim.ensures.works) in
    elim (copied_refused post.node c.args.step c.in-Err.refusal works copied c.in-Err.ensures.faults) [
      | inl device ↦ inr (inr (inr (inl device)))
      | inr memory ↦ inr (inr (inr (inr memory)))
    ]

pub returns-in_err-claim-clause-faults : goal.returns-in_err-claim-clause-faults
returns-in_err-claim-clause-faults g c = λ copied.
    not_admitted c.from_residual.result c.in_err-claim.field-0.0 c.from_residual.ensures.1 c.in_err-claim.ensures.faults
