use Rattle.std.proofs.Common.{◌+◌, ◌++◌, drop, length, sym, ap, ◌∙◌, arith}
use Rattle.std.proofs.lemmas.List.{append_assoc, length-append}
use Rattle.shelf.specs.Parted.{all_in}
use Rattle.shelf.proofs.Parting.{all_drop}
use Rattle.node_parts.specs.Waking.{awake_in}
use Rattle.node_parts.proofs.Rolled.{awake_joined}
use Rattle.node_parts.proofs.roll.gather_all.Goals as goal

pub gather-requires : goal.gather-requires
gather-requires c =
    let parts = c.args.parts.now in
    let part = c.part-item.result in
    let rest = all_in (drop (c.loop-part.part-index + 1) parts) in
    let all = ap length (all_drop parts c.loop-part.part-index part c.loop-part-test.true c.part-item.is) in
    let sum = length-append part.items rest in
    let seen = ap length c.deref.ensures.value in
    omega (arith, all, sum, seen)

pub loop-part-preserved : goal.loop-part-preserved
loop-part-preserved c =
    let parts = c.args.parts.now in
    let part = c.part-item.result in
    let rest = all_in (drop (c.loop-part.part-index + 1) parts) in
    let all = all_drop parts c.loop-part.part-index part c.loop-part-test.true c.part-item.is in
    record {
      ids =
          ap (λ ids. ids ++ awake_in rest) (c.gather.ensures.ids ∙ ap (λ ls. c.loop-part.ids.items ++ awake_in ls) c.deref.ensures.value)
          ∙ append_assoc c.loop-part.ids.items (awake_in part.items) (awake_in rest)
          ∙ ap (λ ids. c.loop-part.ids.items ++ ids) (sym (awake_joined part.items rest) ∙ sym (ap awake_in all))
          ∙ c.loop-part.invariant.ids;
      len = let many = ap length all in let sum = length-append part.items rest in let seen = ap length c.deref.ensures.value in
          omega (arith, many, sum, seen, c.gather.ensures.len, c.loop-part.invariant.len);
      capacity = c.gather.ensures.capacity ∙ c.loop-part.invariant.capacity;
    }
