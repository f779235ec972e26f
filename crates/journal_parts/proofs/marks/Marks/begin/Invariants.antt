use Rattle.std.proofs.Common.{◌≡◌, false, replicate}
use Rattle.std.specs.Vec.{vec_capacity, vec_len}
use Rattle.journal_parts.proofs.marks.Marks.begin.Given as goal

abbrev pub invariant-loop : goal.invariant-loop
invariant-loop l =
    (l.self-inside.marks.items ≡ replicate l.counter false)
    × (vec_len l.self-inside.marks ≡ l.counter)
    × (vec_capacity l.self-inside.marks ≡ l.fn.self.most)
