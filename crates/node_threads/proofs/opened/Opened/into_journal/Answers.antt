use Rattle.std.proofs.Common.{List, length, ap, arith}
use Rattle.sim_net.proofs.Numbers.{map_length}
use Rattle.journal_parts.specs.Members.{Posted, posted}
use Rattle.node_threads.proofs.opened.Opened.into_journal.Goals as goal

pub close-requires-clause-count : goal.close-requires-clause-count
close-requires-clause-count g c =
    let same = ap (λ (posts : List (Posted _)). length posts) c.posts_of.ensures in
    let posts = map_length posted c.posts_of.result.items in
    let members = map_length (λ member. member.post) c.args.self.members.items in
    let own = c.args.self.members.ok in
    let count = c.args.self.count in
    omega (arith, same, posts, members, own, count)
