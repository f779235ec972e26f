use Rattle.std.proofs.Common.{◌∙◌, sym}
use Rattle.node_kept.proofs.Voting.{voted_anew}
use Rattle.node_kept.proofs.kept.Kept.quiet_vote.Goals as goal

pub returns-clause-step : goal.returns-clause-step
returns-clause-step c =
    let test = sym (rw c.id.ensures at c.concerns.ensures) ∙ c.if-not-concerns.false in
    voted_anew c.args.self.now c.args.from c.args.vote.now c.in_ok-counted.counted c.requires test c.in_ok-counted.ensures
