use Rattle.std.proofs.Common.{rules, ◌≡◌, OnOk, Ok, Err, Result, sym, subst, ap, arith, true}
use Rattle.sqlite.specs.declared.error.Error.{Error}
use Rattle.sqlite.specs.Tree.{Trees}
use Rattle.sqlite.specs.State.{HasCleanDisk, Survives}
use Rattle.sqlite.specs.Held.{Held, state}
use Rattle.sqlite.proofs.Callers.{survives_begin}
use Rattle.sqlite.proofs.StateLemmas.{survives_then}
use Rattle.record_rows.specs.Known.{HasPutInside, HasPutKnown, PutsKnown}
use Rattle.record_rows.proofs.KnownStates.{has_put_known, puts_known}
use Rattle.record_rows.proofs.known.put_together.Goals as goal

on_ok : {P Q : Type 0} (r : Result (Unit {0}) Error) → (P → Q) → OnOk r P → OnOk r Q
on_ok (Ok done) f h = f h
on_ok (Err e) f h = tt

-- the database of the transaction as it begins is that of the connection
begins : (g : _) (c : goal.After-conn-2-1 g) → (state g.S.Store c.args.conn.now).now ≡ (state g.S.Store c.transaction-work.result.conn.now).now
begins g c = sym (ap (λ (h : Held _). (state g.S.Store h).now) c.transaction-work.ensures.begun)

-- inside the transaction the rows were put
put_amid : (g : _) (c : goal.After-conn-2-1 g) → HasCleanDisk (state g.S.Store c.put_rows.new.work.conn.now)
    → HasPutInside c.args.rows.now (state g.S.Store c.transaction-work.result.conn.now) (state g.S.Store c.put_rows.new.work.conn.now)
put_amid g c clean = c.in_ok-put_rows.ensures.ok clean (ap (λ (h : Held _). h.in_transaction) c.transaction-work.ensures.begun)

pub returns-clause-ok : goal.returns-clause-ok
returns-clause-ok g c =
    let is : c.commit.new.self.0 ≡ c.conn-2-1.given.0 = search rules in
    let old = state g.S.Store c.args.conn.now in
    let last = state g.S.Store c.commit.new.self.0 in
    let P : Held _ → Type 0 = λ s. HasCleanDisk (state g.S.Store s) → OnOk c.commit.result (HasPutKnown c.args.rows.now old (state g.S.Store s)) in
    subst P is (λ clean. on_ok c.commit.result (λ done.
    has_put_known c.args.rows.now old (state g.S.Store c.transaction-work.result.conn.now) (state g.S.Store c.put_rows.new.work.conn.now) (begins g c)
    (put_amid g c (omega (arith, c.commit.ensures.survives.clean))) last done.1) (c.commit.ensures.ok clean))

pub returns-clause-survives : goal.returns-clause-survives
returns-clause-survives g c =
    let is : c.commit.new.self.0 ≡ c.conn-2-1.given.0 = search rules in
    let old = state g.S.Store c.args.conn.now in
    let begun = state g.S.Store (record c.args.conn.now { in_transaction = true }) in
    let mid = state g.S.Store c.put_rows.new.work.conn.now in
    let last = state g.S.Store c.commit.new.self.0 in
    let P : Trees → Type 0 = PutsKnown c.args.rows.now old in
    let first : Survives begun mid (λ _. ⊥) = subst (λ (s : Held _). Survives (state g.S.Store s) mid (λ _. ⊥)) c.transaction-work.ensures.begun
    c.put_rows.ensures.survives in
    subst (λ (s : Held _). Survives old (state g.S.Store s) P) is (survives_begin g.S.Store c.args.conn.now last P
    (survives_then begun mid last (λ _. ⊥) (λ db. db ≡ mid.now.trees) P (λ _ db none. absurd none) (λ clean db same. subst P (sym same)
    (puts_known c.args.rows.now old (state g.S.Store c.transaction-work.result.conn.now) mid (begins g c)
    (put_amid g c (omega (arith, c.commit.ensures.survives.clean))))) first c.commit.ensures.survives))
