use Rattle.std.proofs.Common.{rules}
use Rattle.std.proofs.lemmas.List.Sorted.{answers_always}
use Rattle.shelf.proofs.Searches.{searched_in}
use Rattle.shelf.proofs.shelf.place_of.Goals as goal

-- the closure gives an entry's key
pub returns : goal.returns
returns g c ascends =
    let facts = c.binary_search_by_key.ensures in
    searched_in c.args.entries.now c.args.key ascends c.binary_search_by_key.result facts.bound
    (facts.position (λ entry. entry.0) (answers_always _ _ _ (λ f a r g called. search rules)))
