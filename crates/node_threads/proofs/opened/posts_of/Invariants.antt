use Rattle.std.proofs.Common.{◌≡◌, ◌+◌, ◌++◌, ◌≤◌, length, map}
use Rattle.std.specs.Vec.{vec_capacity, vec_len}
use Rattle.journal_parts.specs.Members.{posted}
use Rattle.node_threads.proofs.opened.posts_of.Given as goal

abbrev pub invariant-loop-member : goal.invariant-loop-member
invariant-loop-member g l =
    (map posted l.posts.items ++ map (λ member. member.post) l.members.items ≡ map (λ member. member.post) l.fn.members.items)
    × (vec_len l.posts + length l.members.items ≤ vec_capacity l.posts)

abbrev pub decreases-loop-member : goal.decreases-loop-member
decreases-loop-member g l = length l.members.items
