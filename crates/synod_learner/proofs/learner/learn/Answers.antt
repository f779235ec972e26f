use Rattle.std.proofs.Common.{◌≡◌, None, length, ap, sym, ◌∙◌, rules, arith}
use Rattle.std.proofs.lemmas.Option.{slice_get_within}
use Rattle.synod_learner.specs.Counts.{IsChainAt, known_in}
use Rattle.synod_learner.proofs.Chains.{chain_put, chain_pushed, place_none}
use Rattle.synod_learner.proofs.learner.learn.Goals as goal

pub returns-in_default : goal.returns-in_default
returns-in_default c =
    let none : known_in c.args.known.now.items c.args.chain.id ≡ None = rw (← c.deref.ensures.value, ← c.id.ensures)
    (place_none c.deref.result.now c.id.result c.chain_place.result c.chain_place.ensures (search rules)) in
    rw c.push_reserved.ensures.items (chain_pushed c.args.known.now.items c.args.chain none)

pub index_mut-requires : goal.index_mut-requires
index_mut-requires c =
    let found : IsChainAt c.args.known.now.items c.args.chain.id c.in-Some.place = rw (← c.deref.ensures.value, ← c.id.ensures) c.in-Some.ensures in
    let within = slice_get_within c.args.known.now.items c.in-Some.place found.chain found.stands in
    let count = sym (ap (λ chains. length chains) c.deref.ensures.value) ∙ c.deref.ensures.len in
    omega (arith, within, count)

pub returns : goal.returns
returns c =
    let found : IsChainAt c.args.known.now.items c.args.chain.id c.in-Some.place = rw (← c.deref.ensures.value, ← c.id.ensures) c.in-Some.ensures in
    chain_put c.args.known.now.items c.in-Some.place c.args.chain found
