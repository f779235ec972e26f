use Rattle.std.proofs.Common.{◌∙◌, sym, ◌-◌, ◌+◌, arith}
use Rattle.std.proofs.lemmas.List.{append-nil}
use Rattle.account_limits.proofs.Rounds.{at_end, goes_on}
use Rattle.account_limits.proofs.hmac.stretched.Goals as goal

pub loop-preserved : goal.loop-preserved
loop-preserved c =
    let one = goes_on c.args.password.now (c.args.rounds - c.loop.counter) (c.args.rounds - (c.loop.counter + 1)) c.loop.last c.loop.sum (omega arith) in
    let all = append-nil c.loop.last in cc

pub returns : goal.returns
returns c = sym (at_end c.args.password.now (c.args.rounds - c.loop.counter) c.loop.last c.loop.sum (omega arith)) ∙ c.loop.invariant
