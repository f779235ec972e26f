use Rattle.std.proofs.Common.{rules, ◌≡◌, ◌∙◌, OnOk, Ok, Err, Result, subst, ap, arith, true}
use Rattle.sqlite.specs.declared.error.Error.{Error}
use Rattle.sqlite.specs.State.{HasCleanDisk, Survives}
use Rattle.sqlite.specs.Held.{Held, state}
use Rattle.sqlite.proofs.Callers.{survives_begin}
use Rattle.record_rows.specs.Added.{AddsBoth, HasAddedBoth}
use Rattle.record_rows.specs.Tables.{schema_in, neither}
use Rattle.record_rows.proofs.MakeLemmas.{AreMade, life_begun, both_made, both_committed, survives_both}
use Rattle.record_rows.proofs.making.make_both.Goals as goal

on_ok : {P Q : Type 0} (r : Result (Unit {0}) Error) → (P → Q) → OnOk r P → OnOk r Q
on_ok (Ok done) f h = f h
on_ok (Err e) f h = tt

-- inside the transaction both tables are made
made_inside : (g : _) (c : goal.After-conn-2-1 g) → HasCleanDisk (state g.S.Store c.execute-2.new.self.conn.now)
    → c.args.conn.now.schema ≡ schema_in neither → AreMade (state g.S.Store c.execute-2.new.self.conn.now)
made_inside g c clean has =
    let begun = c.transaction-work.ensures.begun in
    let early : HasCleanDisk (state g.S.Store c.execute.new.self.conn.now) = omega (arith, c.in_ok-execute-2.ensures.survives.clean) in
    let first = c.in_ok-execute.ensures.runs early (ap (λ (h : Held _). h.in_transaction) begun) in
    let second = c.in_ok-execute-2.ensures.runs clean first.1.mode in
    both_made (state g.S.Store c.execute.new.self.conn.now) (state g.S.Store c.execute-2.new.self.conn.now) c.in_ok-execute-2.field-0
    (life_begun (state g.S.Store c.transaction-work.result.conn.now) (state g.S.Store c.execute.new.self.conn.now) c.in_ok-execute.field-0
    (ap (λ (h : Held _). h.schema) begun ∙ has) first) second

pub returns-clause-ok : goal.returns-clause-ok
returns-clause-ok g c =
    let is : c.commit.new.self.0 ≡ c.conn-2-1.given.0 = search rules in
    let P : Held _ → Type 0 = λ s. HasCleanDisk (state g.S.Store s) → OnOk c.commit.result (HasAddedBoth (state g.S.Store c.args.conn.now) (state g.S.Store s)) in
    let last = state g.S.Store c.commit.new.self.0 in
    subst P is (λ clean. on_ok c.commit.result (λ done has autocommit.
    both_committed (state g.S.Store c.execute-2.new.self.conn.now) last
    (made_inside g c (omega (arith, c.commit.ensures.survives.clean)) has) done.1) (c.commit.ensures.ok clean))

pub returns-clause-survives : goal.returns-clause-survives
returns-clause-survives g c =
    let is : c.commit.new.self.0 ≡ c.conn-2-1.given.0 = search rules in
    let old = state g.S.Store c.args.conn.now in
    let begun = state g.S.Store (record c.args.conn.now { in_transaction = true }) in
    let mid = state g.S.Store c.execute.new.self.conn.now in
    let last = state g.S.Store c.commit.new.self.0 in
    let first : Survives begun mid (λ _. ⊥) = subst (λ (s : Held _). Survives (state g.S.Store s) mid (λ _. ⊥)) c.transaction-work.ensures.begun
    c.in_ok-execute.ensures.survives in
    subst (λ (s : Held _). Survives old (state g.S.Store s) (AddsBoth old)) is (survives_begin g.S.Store c.args.conn.now last (AddsBoth old)
    (survives_both begun mid (state g.S.Store c.execute-2.new.self.conn.now) last (AddsBoth old) first c.in_ok-execute-2.ensures.survives
    c.commit.ensures.survives (λ clean has. (made_inside g c clean has).added)))
