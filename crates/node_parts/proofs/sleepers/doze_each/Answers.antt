use Rattle.std.proofs.Common.{rules, ◌<◌, length, ◌∙◌, arith}
use Rattle.std.proofs.lemmas.List.{places, with_items_is}
use Rattle.shelf.proofs.Visited.{all_changed}
use Rattle.node_parts.specs.Sleeping.{dozed, reach_noted}
use Rattle.node_parts.proofs.Listings.{changed_one}
use Rattle.node_parts.proofs.sleepers.doze_each.Goals as goal

pub loop-listing-preserved : goal.loop-listing-preserved
loop-listing-preserved c =
    let f = dozed c.args.shelf.now.entries c.args.noted.now.me (reach_noted c.args.noted.now) c.args.clock.now in
    let within : c.loop-listing.listing-index < length c.loop-listing.listing-items =
    omega (arith, c.loop-listing-test.true, c.loop-listing.auto.listing-items) in
    changed_one f c.args.live.now.items c.loop-listing.listing-items c.loop-listing.listing-index c.listing-item.result c.doze.new.listing
    within c.loop-listing.invariant c.doze.ensures

pub returns-clause-live : goal.returns-clause-live
returns-clause-live c =
    let f = dozed c.args.shelf.now.entries c.args.noted.now.me (reach_noted c.args.noted.now) c.args.clock.now in
    rw (with_items_is c.args.live.now c.loop-listing.listing-items (search (rules, places)))
    (c.loop-listing.invariant ∙ all_changed f c.loop-listing.listing-index c.args.live.now.items (search (rules, places)))
