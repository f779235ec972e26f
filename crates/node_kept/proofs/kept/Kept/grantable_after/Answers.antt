use Rattle.std.proofs.Common.{◌∙◌, ◌≤◌, sym, arith}
use Rattle.std.proofs.lemmas.Bool.{true≢false}
use Rattle.node_kept.specs.Granting.{number_behind}
use Rattle.node_kept.proofs.Grantable.{behind_refused, none_before, none_left}
use Rattle.node_kept.proofs.kept.Kept.grantable_after.Goals as goal

pub returns-then-is_grantable : goal.returns-then-is_grantable
returns-then-is_grantable c =
    let id = c.in-Some-next_live.id in
    let live = c.in-Some-next_live.ensures in
    let from : number_behind c.args.after ≤ id = omega (arith, live.1.0) in (
      c.is_grantable.ensures.0 c.if-is_grantable.true,
      (from, λ other given above. none_before c.args.self.now c.loop-id.from id live other given (c.loop-id.invariant.passed other given above)),
    )

pub loop-id-preserved : goal.loop-id-preserved
loop-id-preserved c =
    let k = c.args.self.now in
    let id = c.in-Some-next_live.id in
    let live = c.in-Some-next_live.ensures in
    let number = c.number-from.ensures.value in
    record {
      above = omega (arith, live.1.0);
      passed = λ other given above.
          let behind = behind_refused k c.loop-id.from id live other given (c.loop-id.invariant.passed other given above)
          (λ grantable. true≢false (sym (c.is_grantable.ensures.1 grantable) ∙ c.if-is_grantable.false)) in
          omega arith;
    }

pub returns : goal.returns
returns c = none_left c.args.self.now (number_behind c.args.after) c.loop-id.from c.loop-id.invariant.passed c.in_default.ensures
