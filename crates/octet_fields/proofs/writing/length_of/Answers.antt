use Rattle.std.proofs.Common.{List, [], ℕ, Bor, arith}
use Rattle.std.proofs.lemmas.List.Folds.{length-flat_map-take}
use Rattle.octet_fields.proofs.writing.length_of.Goals as goal

pub overflow_add-count : goal.overflow_add-count
overflow_add-count c =
    let none : Bor (List ℕ) = record { ref_ptr = (0, 0); now = [] } in
    omega (arith, length-flat_map-take (λ (piece : Bor (List ℕ)). piece.now) c.args.pieces.now c.loop-piece.piece-index none c.loop-piece-test.true)
