use Rattle.std.proofs.Common.{◌≡◌, ◌++◌, ◌∷◌, [], rules, arith}
use Rattle.node_kept.proofs.Putting.{putting_goes_on, room_left}
use Rattle.node_kept.proofs.kept.put_each.Goals as goal

pub put-requires-clause-room : goal.put-requires-clause-room
put-requires-clause-room c =
    let split : c.loop-put.messages.items ≡ c.pop.new.self.items ++ c.in-Some.put ∷ [] = search rules in
    (room_left _ _ _ c.loop-put.kept c.loop-put.messages.items c.pop.new.self.items c.in-Some.put split c.loop-put.invariant).0

pub put-requires-clause-listings : goal.put-requires-clause-listings
put-requires-clause-listings c =
    let split : c.loop-put.messages.items ≡ c.pop.new.self.items ++ c.in-Some.put ∷ [] = search rules in
    (room_left _ _ _ c.loop-put.kept c.loop-put.messages.items c.pop.new.self.items c.in-Some.put split c.loop-put.invariant).1

pub loop-put-preserved : goal.loop-put-preserved
loop-put-preserved c =
    let split : c.loop-put.messages.items ≡ c.pop.new.self.items ++ c.in-Some.put ∷ [] = search rules in
    putting_goes_on _ _ _ c.loop-put.kept c.put.new.self c.loop-put.messages.items c.pop.new.self.items c.in-Some.put split
    c.put.ensures.entries c.put.ensures.room c.put.ensures.listings c.loop-put.invariant

pub returns-clause-left : goal.returns-clause-left
returns-clause-left c = let taken = c.loop-put.invariant.taken in omega (arith, taken)

pub returns-clause-listings_left : goal.returns-clause-listings_left
returns-clause-listings_left c = let taken = c.loop-put.invariant.lists_taken in omega (arith, taken)
