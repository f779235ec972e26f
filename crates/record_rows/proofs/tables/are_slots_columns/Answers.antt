use Rattle.std.proofs.Common.{refl, sym, ◌∙◌}
use Rattle.record_rows.proofs.TableLemmas.{five_are, five_parts, five_same}
use Rattle.record_rows.proofs.tables.are_slots_columns.Goals as goal

pub returns : goal.returns
returns c =
    let whole = five_are c.args.columns.now c.id-item.result c.place-item.result c.promised-item.result c.voted-item.result c.chain-item.result
    c.in-len5.len_at_least c.in-len5.len_below c.id-item.is c.place-item.is c.promised-item.is c.voted-item.is c.chain-item.is in (
      λ so. whole ∙ five_same _ _ _ _ _ _ _ _ _ _ (c.if-not-is_column.ensures.0 refl) (c.if-not-is_column-2.ensures.0 refl)
          (c.if-not-is_column-3.ensures.0 refl) (c.if-not-is_column-4.ensures.0 refl) (c.is_column-5.ensures.0 so),
      λ is. c.is_column-5.ensures.1 (five_parts _ _ _ _ _ _ _ _ _ _ (sym whole ∙ is)).4,
    )
