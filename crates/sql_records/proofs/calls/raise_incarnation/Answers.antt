use Rattle.std.proofs.Common.{◌≡◌, pos, ℤ, subst, arith}
use Rattle.std.proofs.lemmas.Int.{ints}
use mir.Syntax.{w64}
use mir.Val.{to_z}
use Rattle.sqlite.specs.State.{HasCleanDisk, Survives}
use Rattle.sqlite.specs.Held.{state}
use Rattle.record_rows.specs.Ours.{HasPutLife, PutsLife}
use Rattle.sql_records.proofs.NextLemmas.{has_put_next, survives_next}
use Rattle.sql_records.proofs.calls.raise_incarnation.Goals as goal

pub returns-in-Ok-put_incarnation-clause-ok : goal.returns-in-Ok-put_incarnation-clause-ok
returns-in-Ok-put_incarnation-clause-ok g c clean =
    let number : to_z w64 c.number.result ≡ pos c.in_ok-next.next = omega (arith, ints) in
    let mid = state g.S.Store c.read_incarnation.new.conn in
    let new = state g.S.Store c.put_incarnation.new.conn in
    let early : HasCleanDisk mid = omega (arith, c.put_incarnation.ensures.survives.clean) in
    has_put_next (state g.S.Store c.args.conn.now) mid c.in-Ok.last c.in_ok-next.next (c.in-Ok.ensures.read early) c.in_ok-next.ensures.next
    c.number.ensures.range new (c.in-Ok.ensures.kept early (λ is. cc)) (subst (λ (n : ℤ). HasPutLife c.in-Ok.last n mid new)
    number (c.in-Ok-put_incarnation.ensures.ok clean))

pub returns-in-Ok-put_incarnation-clause-survives : goal.returns-in-Ok-put_incarnation-clause-survives
returns-in-Ok-put_incarnation-clause-survives g c =
    let number : to_z w64 c.number.result ≡ pos c.in_ok-next.next = omega (arith, ints) in
    let mid = state g.S.Store c.read_incarnation.new.conn in
    let new = state g.S.Store c.put_incarnation.new.conn in
    survives_next (state g.S.Store c.args.conn.now) mid c.in-Ok.last c.in_ok-next.next c.in-Ok.ensures.read c.in_ok-next.ensures.next
    c.number.ensures.range new (λ clean. c.in-Ok.ensures.kept clean (λ is. cc)) c.in-Ok.ensures.survives (subst
    (λ (n : ℤ). Survives mid new (PutsLife c.in-Ok.last n mid)) number c.put_incarnation.ensures.survives)

pub returns-in-Err-clause-survives : goal.returns-in-Err-clause-survives
returns-in-Err-clause-survives g c =
    let number : to_z w64 c.number.result ≡ pos c.in_ok-next.next = omega (arith, ints) in
    let mid = state g.S.Store c.read_incarnation.new.conn in
    let new = state g.S.Store c.put_incarnation.new.conn in
    survives_next (state g.S.Store c.args.conn.now) mid c.in-Ok.last c.in_ok-next.next c.in-Ok.ensures.read c.in_ok-next.ensures.next
    c.number.ensures.range new (λ clean. c.in-Ok.ensures.kept clean (λ is. cc)) c.in-Ok.ensures.survives (subst
    (λ (n : ℤ). Survives mid new (PutsLife c.in-Ok.last n mid)) number c.put_incarnation.ensures.survives)
