use Rattle.std.proofs.Common.{◌≡◌, [], IsTrue, arith, rules}
use Rattle.sqlite.specs.State.{HasCleanDisk, IsUnchanged}
use Rattle.sqlite.specs.Held.{state}
use Rattle.record_rows.specs.Ours.{IsSettled}
use Rattle.stable_store.specs.declared.fault.StoreFault.TheVariants as stored
use Rattle.sql_store.proofs.Asking.{asked_again_stands}
use Rattle.sql_store.proofs.filling.ask.Goals as goal

pub returns-clause-kept : goal.returns-clause-kept
returns-clause-kept g c clean told =
    let old = state g.S.Store c.args.conn.now in
    let mid = state g.S.Store c.answer.new.conn in
    let new = state g.S.Store c.answer-2.new.conn in
    let early : HasCleanDisk mid = omega (arith, c.answer-2.ensures.survives.clean) in
    let is : c.refusal_of.result ≡ stored.Memory = cc in
    let up : IsTrue c.is_ok-answers.result = c.refusal_of.ensures.memory is in
    let settled : IsSettled old = search rules in
    let same : IsUnchanged mid new = search rules in
    asked_again_stands [] [] old mid new c.in-Err.error settled (c.in-Err.ensures.err early []) same
