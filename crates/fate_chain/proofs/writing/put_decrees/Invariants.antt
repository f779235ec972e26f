use Rattle.std.proofs.Common.{◌≡◌, ◌++◌, reverse, take}
use Rattle.fate_chain.specs.Bytes.{decrees_octets, DecreesFit}
use Rattle.fate_chain.specs.declared.format.Format.TheVariants.{Second}
use Rattle.fate_chain.proofs.writing.put_decrees.Given as goal

abbrev pub invariant-loop-decree : goal.invariant-loop-decree
invariant-loop-decree l = record {
  octets : l.out.items ≡ l.fn.out.items ++ decrees_octets Second (reverse (take l.decree-index l.decrees));
  fit : DecreesFit Second (reverse (take l.decree-index l.decrees));
}
