use Rattle.std.proofs.Common.{◌≡◌, true, subst, rules}
use Rattle.node_model.specs.Proposer.{completes}
use Rattle.synod_proposer.specs.Proposing.{Running, as_round}
use Rattle.synod_proposer.specs.Rounds.{running_of}
use Rattle.synod_proposer.proofs.Rounds.{completes_so}
use Rattle.synod_proposer.proofs.round.Round.count.Goals as goal

pub returns-in_err-chain-clause-memory : goal.returns-in_err-chain-clause-memory
returns-in_err-chain-clause-memory c =
    let both = c.completes.ensures.0 c.if-completes.true in
    let most : completes c.args.nodes (as_round c.args.self.now) c.args.from ≡ true =
    subst (λ (r : Running). completes c.args.nodes (as_round r) c.args.from ≡ true) c.self.view_is
    (completes_so c.args.nodes (running_of c.self.inside) c.add.new.self c.args.from c.add.ensures both.0 both.1) in
    search rules
