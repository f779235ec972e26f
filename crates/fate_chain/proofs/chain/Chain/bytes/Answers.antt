use Rattle.std.proofs.Common.{length, reverse, ap, arith}
use Rattle.std.proofs.lemmas.List.{length-reverse}
use Rattle.mc_parts.proofs.Lengths.{most_decrees}
use Rattle.fate_chain.proofs.chain.Chain.bytes.Goals as goal

pub overflow_cast-decrees : goal.overflow_cast-decrees
overflow_cast-decrees c =
    omega (
      arith,
      ap length c.list-decrees.ensures,
      most_decrees c.self.inside.id (reverse c.self.inside.decrees) c.self.invariant,
      length-reverse c.self.inside.decrees,
    )

pub returns-clause-fits : goal.returns-clause-fits
returns-clause-fits c =
    rw (← c.self.view_is) (record {
      id = c.in_ok-put_chain_head.ensures.id;
      count = omega (arith, most_decrees c.self.inside.id (reverse c.self.inside.decrees) c.self.invariant);
      decrees = rw c.list-decrees.ensures at c.in_ok-put_decrees.ensures.fit;
    })
