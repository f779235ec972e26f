use Rattle.std.proofs.Common.{drop, map}
use Rattle.journal_parts.specs.Closing.{AllFound}
use Rattle.node_threads.proofs.opened.finds_all.Given as goal

abbrev pub invariant-loop-place : goal.invariant-loop-place
invariant-loop-place g l =
    AllFound g.S.StableStore.stored g.L.Begins.cluster g.L.Begins.kept l.register.entries l.place (map (λ member. member.post) (drop l.place l.members)) →
    AllFound g.S.StableStore.stored g.L.Begins.cluster g.L.Begins.kept l.register.entries 0 (map (λ member. member.post) l.members)
