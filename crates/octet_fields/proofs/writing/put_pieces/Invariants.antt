use Rattle.std.proofs.Common.{◌≡◌, ◌+◌, ◌≤◌, ◌++◌, length, take, drop, vec_capacity}
use Rattle.octet_fields.specs.Texts.{joined}
use Rattle.octet_fields.proofs.writing.put_pieces.Given as goal

abbrev pub invariant-loop-piece : goal.invariant-loop-piece
invariant-loop-piece l = record {
  octets : l.out.items ≡ l.fn.out.items ++ joined (take l.piece-index l.pieces);
  left : length l.out.items + length (joined (drop l.piece-index l.pieces)) ≤ vec_capacity l.out;
  room : vec_capacity l.fn.out ≤ vec_capacity l.out;
}
