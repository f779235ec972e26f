use Rattle.std.proofs.Common.{◌≡◌, ◌∙◌, sym, rules, arith}
use Rattle.synod_learner.proofs.Chains.{none_at_next, chain_here}
use Rattle.synod_learner.proofs.learner.chain_place.Goals as goal

pub returns-then-eq : goal.returns-then-eq
returns-then-eq c =
    let same : c.id.result ≡ c.args.id = search rules in
    chain_here c.args.chains.now c.loop-place.place c.index-chains-place.result c.args.id (omega arith) c.index-chains-place.is (sym c.id.ensures ∙ same)

pub loop-place-preserved : goal.loop-place-preserved
loop-place-preserved c =
    let differs : c.id.result ≡ c.args.id → ⊥ = search rules in
    none_at_next c.args.chains.now c.loop-place.place c.index-chains-place.result c.args.id
    (omega arith) c.index-chains-place.is c.loop-place.invariant (λ same. differs (c.id.ensures ∙ same))
