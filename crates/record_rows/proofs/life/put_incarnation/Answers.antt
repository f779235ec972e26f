use Rattle.std.proofs.Common.{Ok, ◌≡◌, ◌∙◌, [], ◌∷◌, ap, sym, subst, arith, to_z-of_z}
use Rattle.sqlite.specs.State.{HasCleanDisk, Executes, Survives, CommitsBy}
use Rattle.sqlite.specs.Held.{state}
use Rattle.sqlite.specs.Order.{Row}
use Rattle.sqlite.specs.Values.{bound_value}
use Rattle.sqlite.specs.Value.{owned}
use Rattle.sqlite.specs.declared.types.Value.TheVariants.{Int}
use Rattle.record_rows.specs.Ours.{PutsLife}
use Rattle.record_rows.proofs.LifeStates.{text_for, has_put_life, may_put_life}
use Rattle.record_rows.proofs.StateLemmas.{error_stands, stands_then, survives_as, survives_probed}
use Rattle.record_rows.proofs.life.put_incarnation.Goals as goal
use Rattle.record_rows.proofs.life.put_incarnation.Goals.{in-Some, in-None}

pub returns-in-Ok-clause-ok : goal.returns-in-Ok-clause-ok
returns-in-Ok-clause-ok g c clean =
    let old = state g.S.Store c.args.conn.now in
    let new = state g.S.Store c.execute.new.self in
    let text : c.match-last.text.now ≡ text_for c.args.last = elim c.match-last.branch [
      | in-Some w ↦ ap (λ r. r.now) w.text-is
          ∙ ap text_for (sym w.in-Some.is)
      | in-None w ↦ ap (λ r. r.now) w.text-is ∙ ap text_for (sym w.in-None.is)
    ] in
    let value = c.to_sql-value.ensures ∙ ap Int (to_z-of_z c.ranges.incarnation) in
    let given : ◌≡◌ {A = Row} (bound_value (owned c.to_sql-value.result) ∷ []) (Int c.args.incarnation ∷ []) = ap (λ v. bound_value v ∷ []) value in
    has_put_life c.args.last c.args.incarnation old new c.in-Ok.field-0 (subst (λ t. Executes t (Int c.args.incarnation ∷ []) old new
    (Ok c.in-Ok.field-0)) text (subst (λ ps. Executes c.match-last.text.now ps old new (Ok c.in-Ok.field-0)) given (c.in-Ok.ensures.runs clean)))

pub returns-in-Ok-clause-survives : goal.returns-in-Ok-clause-survives
returns-in-Ok-clause-survives g c =
    let old = state g.S.Store c.args.conn.now in
    let new = state g.S.Store c.execute.new.self in
    let text : c.match-last.text.now ≡ text_for c.args.last = elim c.match-last.branch [
      | in-Some w ↦ ap (λ r. r.now) w.text-is
          ∙ ap text_for (sym w.in-Some.is)
      | in-None w ↦ ap (λ r. r.now) w.text-is ∙ ap text_for (sym w.in-None.is)
    ] in
    let value = c.to_sql-value.ensures ∙ ap Int (to_z-of_z c.ranges.incarnation) in
    let given : ◌≡◌ {A = Row} (bound_value (owned c.to_sql-value.result) ∷ []) (Int c.args.incarnation ∷ []) = ap (λ v. bound_value v ∷ []) value in
    survives_as old new (CommitsBy (text_for c.args.last) (Int c.args.incarnation ∷ []) old) (PutsLife c.args.last c.args.incarnation old)
    (may_put_life c.args.last c.args.incarnation old)
    (subst (λ t. Survives old new (CommitsBy t (Int c.args.incarnation ∷ []) old)) text (subst (λ ps. Survives old new
    (CommitsBy c.match-last.text.now ps old)) given c.in-Ok.ensures.survives))

pub returns-in-Err-clause-kept : goal.returns-in-Err-clause-kept
returns-in-Err-clause-kept g c clean not settled =
    let old = state g.S.Store c.args.conn.now in
    let mid = state g.S.Store c.execute.new.self in
    let new = state g.S.Store c.fault_after.new.conn in
    let early : HasCleanDisk mid = omega (arith, c.fault_after.ensures.survives.clean) in
    let probed = c.fault_after.ensures.open clean not in
    stands_then old mid new (error_stands c.match-last.text.now _ old mid c.in-Err.error settled probed.0.was_open (c.in-Err.ensures.runs early)) probed

pub returns-in-Err-clause-survives : goal.returns-in-Err-clause-survives
returns-in-Err-clause-survives g c =
    let old = state g.S.Store c.args.conn.now in
    let mid = state g.S.Store c.execute.new.self in
    let new = state g.S.Store c.fault_after.new.conn in
    let text : c.match-last.text.now ≡ text_for c.args.last = elim c.match-last.branch [
      | in-Some w ↦ ap (λ r. r.now) w.text-is
          ∙ ap text_for (sym w.in-Some.is)
      | in-None w ↦ ap (λ r. r.now) w.text-is ∙ ap text_for (sym w.in-None.is)
    ] in
    let value = c.to_sql-value.ensures ∙ ap Int (to_z-of_z c.ranges.incarnation) in
    let given : ◌≡◌ {A = Row} (bound_value (owned c.to_sql-value.result) ∷ []) (Int c.args.incarnation ∷ []) = ap (λ v. bound_value v ∷ []) value in
    let left = survives_as old mid (CommitsBy (text_for c.args.last) (Int c.args.incarnation ∷ []) old)
    (PutsLife c.args.last c.args.incarnation old) (may_put_life c.args.last c.args.incarnation old)
    (subst (λ t. Survives old mid (CommitsBy t (Int c.args.incarnation ∷ []) old)) text (subst (λ ps. Survives old mid
    (CommitsBy c.match-last.text.now ps old)) given c.in-Err.ensures.survives)) in
    survives_probed old mid new (PutsLife c.args.last c.args.incarnation old) left c.fault_after.ensures.survives
