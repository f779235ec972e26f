use Rattle.std.proofs.Common.{rules, Result, ℕ, Ok, Err, sym, subst}
use Rattle.std.proofs.lemmas.List.Sorted.{answers_always}
use Rattle.node_parts.specs.Rising.{IsPlaceOf}
use Rattle.node_parts.specs.Sleeping.{ids_of}
use Rattle.node_parts.proofs.Listings.{place_found}
use Rattle.node_parts.proofs.Looking.{absent, until_none, until_there}
use Rattle.node_parts.proofs.sleepers.until_at.Goals as goal

pub returns-in-Ok : goal.returns-in-Ok
returns-in-Ok c rise =
    let facts = c.binary_search_by_key.ensures in
    let at : IsPlaceOf (ids_of c.args.live.now) c.args.id (Ok c.in-Ok.place) =
    subst (λ (r : Result ℕ ℕ). IsPlaceOf (ids_of c.args.live.now) c.args.id r) c.in-Ok.is
    (place_found c.args.live.now c.args.id rise c.binary_search_by_key.result facts.bound
    (facts.position (λ listing. listing.id) (answers_always _ _ _ (λ f a r g called. search rules)))) in
    until_there c.args.live.now c.in-Ok.place c.args.id _ rise at.1.0

pub returns-in-Err : goal.returns-in-Err
returns-in-Err c rise =
    let facts = c.binary_search_by_key.ensures in
    let at : IsPlaceOf (ids_of c.args.live.now) c.args.id (Err c.in-Err.field-0) =
    subst (λ (r : Result ℕ ℕ). IsPlaceOf (ids_of c.args.live.now) c.args.id r) c.in-Err.is
    (place_found c.args.live.now c.args.id rise c.binary_search_by_key.result facts.bound
    (facts.position (λ listing. listing.id) (answers_always _ _ _ (λ f a r g called. search rules)))) in
    sym (until_none c.args.live.now c.args.id (absent (ids_of c.args.live.now) c.args.id c.in-Err.field-0 rise at))
