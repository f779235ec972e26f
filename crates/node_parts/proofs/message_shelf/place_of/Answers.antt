use Rattle.std.proofs.Common.{rules}
use Rattle.std.proofs.lemmas.List.Sorted.{answers_always}
use Rattle.node_parts.proofs.Listings.{place_found}
use Rattle.node_parts.proofs.message_shelf.place_of.Goals as goal

-- the closure gives an id's number
pub returns : goal.returns
returns c =
    let facts = c.binary_search_by_key.ensures in
    place_found c.args.live.now c.args.id c.requires c.binary_search_by_key.result facts.bound
    (facts.position (λ listing. listing.id) (answers_always _ _ _ (λ f a r g called. search rules)))
