use Rattle.std.proofs.Common.{◌≡◌, ap, subst, ◌∙◌, arith}
use Rattle.mc_model.specs.synod.Acceptor.{SlotRecord}
use Rattle.mc_model.specs.synod.Ballot.{IsBallot}
use Rattle.synod_acceptor.specs.Votes.{Record}
use Rattle.synod_acceptor.proofs.record.Record.promises.Goals as goal

pub returns-clause-promised : goal.returns-clause-promised
returns-clause-promised c = λ none.
    let same : c.self.inside.promised ≡ 0 = ap (λ (r : Record). r.promised) c.self.view_is ∙ ap (λ (r : SlotRecord). r.promised) none in
    let nothing : IsBallot 0 = subst IsBallot same c.bounds.ensures in
    absurd (omega (arith, nothing.round))
