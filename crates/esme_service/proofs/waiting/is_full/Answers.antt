use Rattle.std.proofs.Common.{◌≤◌, Bool, filter, length, arith}
use Rattle.std.proofs.lemmas.List.Sums.{count_by-le-length, length-filter}
use Rattle.mc_model.specs.message.Chain.{Chain}
use Rattle.esme_service.specs.Reports.{is_for}
use Rattle.node_model.specs.Reported.{receipt_of}
use Rattle.esme_service.proofs.waiting.is_full.Goals as goal

pub returns-else-chains-ge-MOST_WAITING : goal.returns-else-chains-ge-MOST_WAITING
returns-else-chains-ge-MOST_WAITING c =
    let test : Chain → Bool = λ chain. is_for c.args.account.now (receipt_of chain) in
    let count = length-filter test c.args.chains.now in
    let most = count_by-le-length test c.args.chains.now in
    let fewer : length (filter test c.args.chains.now) ≤ length c.args.chains.now = omega (arith, count, most) in
    grind (arith, fewer)
