use Rattle.std.proofs.Common.{◌≡◌, length, take}
use Rattle.octet_fields.specs.Texts.{joined, AreOctets}
use Rattle.octet_fields.proofs.writing.length_of.Given as goal

abbrev pub invariant-loop-piece : goal.invariant-loop-piece
invariant-loop-piece l = record {
  count : l.count ≡ length (joined (take l.piece-index l.pieces));
  octets : AreOctets (take l.piece-index l.pieces);
}
