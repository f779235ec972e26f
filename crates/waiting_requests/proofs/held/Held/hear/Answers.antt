use Rattle.std.proofs.Common.{◌≡◌, refl, ap}
use Rattle.std.specs.Option.{option_copied}
use Rattle.node_model.specs.Requests.{higher_top}
use Rattle.synod_acceptor.specs.Votes.{told_vote}
use Rattle.waiting_requests.specs.Waiting.{Waits}
use Rattle.waiting_requests.specs.contracts.held.Held.{the_view}
use Rattle.waiting_requests.proofs.Hearing.{told_is}
use Rattle.waiting_requests.proofs.held.Held.hear.Goals as goal

pub returns-clause-ok : goal.returns-clause-ok
returns-clause-ok c =
    let old : Waits = the_view c.self.inside in
    let top : told_vote c.raise.new.top ≡ higher_top old.top (told_vote (option_copied c.args.told)) =
    let same : old.top ≡ c.args.self.now.top = ap (λ (w : Waits). w.top) c.self.view_is in
    let raised = c.raise.ensures in
    let higher = c.in_ok-higher.ensures in
    cc
    in
    rw (← c.self.view_is) (told_is old _ c.args.from (told_vote (option_copied c.args.told)) refl c.add.ensures top)
