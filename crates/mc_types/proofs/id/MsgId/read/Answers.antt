use Rattle.std.proofs.Common.{rules, None, Some}
use Rattle.mc_types.proofs.Texts.{named, not_digits, no_id, ids_and_texts, only_named}
use Rattle.mc_types.proofs.id.MsgId.read.Goals as goal

pub returns-then-not-is_ten_digits-clause-only : goal.returns-then-not-is_ten_digits-clause-only
returns-then-not-is_ten_digits-clause-only c id is spells =
    let none = only_named c.args.text.now None (not_digits c.args.text.now (search rules)) id is spells in absurd (cc)

pub returns-then-not-is_id-clause-only : goal.returns-then-not-is_id-clause-only
returns-then-not-is_id-clause-only c id is spells =
    let none = only_named c.args.text.now None (no_id c.args.text.now _ c.number_of-value.ensures (search rules)) id is spells in absurd (cc)

pub returns-clause-spelled : goal.returns-clause-spelled
returns-clause-spelled c =
    ((ids_and_texts c.args.text.now c.number_of-value.result).0 (named c.args.text.now _ (search rules) c.number_of-value.ensures (search rules))).1

pub returns-clause-only : goal.returns-clause-only
returns-clause-only c id is spells =
    let same = only_named c.args.text.now (Some c.number_of-value.result)
    (named c.args.text.now _ (search rules) c.number_of-value.ensures (search rules)) id is spells in cc
