use Rattle.std.proofs.Common.{◌<◌, ◌+◌, ◌-◌, length, drop, ap, ◌∙◌, sym, arith}
use Rattle.std.specs.List.{slice_get}
use Rattle.std.proofs.lemmas.Option.{slice_get_read}
use Rattle.shelf.specs.Parted.{all_in}
use Rattle.shelf.proofs.Parting.{all_drop, at_front, at_rest}
use Rattle.shelf.proofs.parts.item_at.Goals as goal

pub returns-then-left-len : goal.returns-then-left-len
returns-then-left-len g c =
    let within : c.loop-part.part-index < length c.args.parts.now = omega arith in
    let all = all_drop c.args.parts.now c.loop-part.part-index c.part-item.result within c.part-item.is in
    sym (slice_get_read c.part-item.result.items c.part-item.result.len c.loop-part.left c.index.result.now c.part-item.result.ok.0 (omega arith) c.index.ensures)
    ∙ sym (at_front c.part-item.result.items (all_in (drop (c.loop-part.part-index + 1) c.args.parts.now)) c.loop-part.left (omega arith))
    ∙ sym (ap (λ items. slice_get items c.loop-part.left) all)
    ∙ c.loop-part.invariant

pub loop-part-preserved : goal.loop-part-preserved
loop-part-preserved g c =
    let within : c.loop-part.part-index < length c.args.parts.now = omega arith in
    let all = all_drop c.args.parts.now c.loop-part.part-index c.part-item.result within c.part-item.is in
    ap (λ n. slice_get (all_in (drop (c.loop-part.part-index + 1) c.args.parts.now)) (c.loop-part.left - n)) (c.len-left.ensures ∙ c.part-item.result.ok.0)
    ∙ sym (at_rest c.part-item.result.items (all_in (drop (c.loop-part.part-index + 1) c.args.parts.now)) c.loop-part.left (omega arith))
    ∙ sym (ap (λ items. slice_get items c.loop-part.left) all)
    ∙ c.loop-part.invariant
