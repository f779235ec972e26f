use Rattle.std.proofs.Common.{rules}
use Rattle.std.proofs.lemmas.List.Sorted.{answers_always}
use Rattle.node_parts.proofs.IdLists.{searched}
use Rattle.node_parts.proofs.awake.place_of.Goals as goal

-- the closure gives an id's number
pub returns : goal.returns
returns c =
    let facts = c.binary_search_by_key.ensures in
    searched c.args.ids.now c.args.id c.requires c.binary_search_by_key.result facts.bound
    (facts.position (λ id. id) (answers_always _ _ _ (λ f a r g called. search rules)))
