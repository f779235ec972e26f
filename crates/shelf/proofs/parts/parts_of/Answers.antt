use Rattle.std.proofs.Common.{◌≡◌, ◌∙◌, subst, sym, arith, ◌+◌}
use Rattle.shelf.specs.Parted.{free_in}
use Rattle.shelf.proofs.Rooms.{AreAllOf, all_made, all_wide, each_wide, one_made}
use Rattle.shelf.proofs.parts.parts_of.Goals as goal

pub loop-preserved : goal.loop-preserved
loop-preserved g c =
    let part = c.in-Ok.part in
    let free : free_in part ≡ c.args.room = omega (arith, c.in-Ok.ensures.exact, c.in-Ok.ensures.len) in
    let made : AreAllOf c.args.room c.loop.parts.items c.loop.counter = c.loop.invariant.0 in (
      subst (λ items. AreAllOf c.args.room items (c.loop.counter + 1)) (sym c.push_reserved.ensures.items)
          (one_made c.args.room c.loop.parts.items c.loop.counter part made c.in-Ok.ensures.items free c.in-Ok.ensures.exact),
      c.push_reserved.ensures.capacity ∙ c.loop.invariant.1,
    )

pub returns-clause-room : goal.returns-clause-room
returns-clause-room g c = all_made c.args.room c.loop.parts.items c.loop.counter c.loop.invariant.0 (omega arith)

pub returns-clause-width : goal.returns-clause-width
returns-clause-width g c = all_wide c.args.room c.loop.parts.items c.loop.counter c.loop.invariant.0 (omega arith)

pub returns-clause-each : goal.returns-clause-each
returns-clause-each g c = each_wide c.args.room c.loop.parts.items c.loop.counter c.loop.invariant.0
