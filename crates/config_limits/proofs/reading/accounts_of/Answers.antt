use Rattle.std.proofs.Common.{arith, map, sym, subst}
use Rattle.toml.specs.View.{view}
use Rattle.config_limits.specs.declared.fault.LimitsFault.{LimitsFault}
use Rattle.config_limits.specs.Reading.{IsFaultIn, IsLimited}
use Rattle.config_limits.proofs.Says.{fault_there, says_more, seen_at}
use Rattle.config_limits.proofs.reading.accounts_of.Goals as goal

pub loop-place-preserved : goal.loop-place-preserved
loop-place-preserved c = rw c.in_ok-push-in-Ok.ensures.items
    (says_more IsLimited view c.args.rows.now c.loop-place.place c.index-rows-place.result c.loop-place.accounts.items c.in-Ok.account (omega arith)
    c.index-rows-place.is c.in-Ok.ensures.ok c.loop-place.invariant)

pub returns-in-Err-clause-err : goal.returns-in-Err-clause-err
returns-in-Err-clause-err c =
    let there = seen_at view c.args.rows.now c.loop-place.place c.index-rows-place.result (omega arith) c.index-rows-place.is in
    let bad = fault_there (map view c.args.rows.now) c.loop-place.place (view c.index-rows-place.result) c.in-Err.fault there c.in-Err.ensures.err in
    subst (λ (fault : LimitsFault). IsFaultIn (map view c.args.rows.now) fault) (sym c.fault_at.ensures) bad
