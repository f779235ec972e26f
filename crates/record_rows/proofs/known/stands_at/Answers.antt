use Rattle.record_rows.proofs.KnownSchemas.{found_at, is_of}
use Rattle.record_rows.proofs.known.stands_at.Goals as goal

pub returns : goal.returns
returns c = (
  λ yes. found_at c.args.tables.now c.args.at c.args.name.now c.args.tree c.index-tables-at.result c.if-at-tables.false c.index-tables-at.is (c.is_of.ensures.0 yes),
  λ there. c.is_of.ensures.1 (is_of c.args.tables.now c.args.at c.args.name.now c.args.tree c.index-tables-at.result c.if-at-tables.false
      c.index-tables-at.is there),
)
