use Rattle.sqlite.specs.Held.{state}
use Rattle.record_rows.specs.Added.{AddsBoth, AddsSlots}
use Rattle.record_rows.specs.Tables.{both, life_alone, life_first, neither, slots_alone, slots_first}
use Rattle.record_rows.proofs.StateLemmas.{survives_as}
use Rattle.sql_store.specs.Adopted.{Adds}
use Rattle.record_rows.proofs.BesideLemmas.{none_beside, schema_told}
use Rattle.sql_store.proofs.Tables.{adds_at, adds_life, adds_neither, laid_at}
use Rattle.sql_store.proofs.filling.fill.Goals as goal

pub returns-in_err-make_tables-in-Neither-clause-survives : goal.returns-in_err-make_tables-in-Neither-clause-survives
returns-in_err-make_tables-in-Neither-clause-survives g c =
    let old = state g.S.Store c.args.conn.now in
    survives_as old (state g.S.Store c.make_tables.new.conn) (AddsBoth old) (Adds old) (adds_neither old (rw c.in-Neither.is at c.requires))
    c.make_tables.ensures.survives

pub returns-in_ok-make_tables-in-Neither-clause-survives : goal.returns-in_ok-make_tables-in-Neither-clause-survives
returns-in_ok-make_tables-in-Neither-clause-survives g c =
    let old = state g.S.Store c.args.conn.now in
    survives_as old (state g.S.Store c.make_tables.new.conn) (AddsBoth old) (Adds old) (adds_neither old (rw c.in-Neither.is at c.requires))
    c.make_tables.ensures.survives

pub returns-in_ok-make_tables-in-Neither-clause-ok : goal.returns-in_ok-make_tables-in-Neither-clause-ok
returns-in_ok-make_tables-in-Neither-clause-ok g c clean up settled =
    let old = state g.S.Store c.args.conn.now in
    let is = rw c.in-Neither.is at c.requires in
    let done = c.in_ok-make_tables-in-Neither.ensures.ok clean is settled.autocommit in
    record { ours = done.ours; adds = adds_neither old is _ (λ _. done.adds); laid = laid_at neither old is }

pub returns-in_err-add_slots-in-LifeAlone-clause-survives : goal.returns-in_err-add_slots-in-LifeAlone-clause-survives
returns-in_err-add_slots-in-LifeAlone-clause-survives g c =
    let old = state g.S.Store c.args.conn.now in
    survives_as old (state g.S.Store c.add_slots.new.conn) (AddsSlots old) (Adds old) (adds_life old (rw c.in-LifeAlone.is at c.requires))
    c.add_slots.ensures.survives

pub returns-in_ok-add_slots-in-LifeAlone-clause-survives : goal.returns-in_ok-add_slots-in-LifeAlone-clause-survives
returns-in_ok-add_slots-in-LifeAlone-clause-survives g c =
    let old = state g.S.Store c.args.conn.now in
    survives_as old (state g.S.Store c.add_slots.new.conn) (AddsSlots old) (Adds old) (adds_life old (rw c.in-LifeAlone.is at c.requires))
    c.add_slots.ensures.survives

pub returns-in_ok-add_slots-in-LifeAlone-clause-ok : goal.returns-in_ok-add_slots-in-LifeAlone-clause-ok
returns-in_ok-add_slots-in-LifeAlone-clause-ok g c clean up settled =
    let old = state g.S.Store c.args.conn.now in
    let is = rw c.in-LifeAlone.is at c.requires in
    let done = c.in_ok-add_slots-in-LifeAlone.ensures.ok clean is settled.autocommit in
    record { ours = done.ours; adds = adds_life old is _ (λ _. done.adds); laid = laid_at life_alone old is }

pub returns-in-LifeFirst-clause-known : goal.returns-in-LifeFirst-clause-known
returns-in-LifeFirst-clause-known g c = let it = rw c.in-LifeFirst.is at c.requires in (both life_first it.0, record { schema = it.2; beside = it.1 })

pub returns-in-SlotsFirst-clause-known : goal.returns-in-SlotsFirst-clause-known
returns-in-SlotsFirst-clause-known g c = let it = rw c.in-SlotsFirst.is at c.requires in (both slots_first it.0, record { schema = it.2; beside = it.1 })

pub returns-in_ok-make_tables-in-Neither-clause-known : goal.returns-in_ok-make_tables-in-Neither-clause-known
returns-in_ok-make_tables-in-Neither-clause-known g c = (neither, record { schema = rw c.in-Neither.is at c.requires; beside = none_beside })

pub returns-in_ok-add_slots-in-LifeAlone-clause-known : goal.returns-in_ok-add_slots-in-LifeAlone-clause-known
returns-in_ok-add_slots-in-LifeAlone-clause-known g c = (life_alone, record { schema = rw c.in-LifeAlone.is at c.requires; beside = none_beside })

pub returns-in_ok-add_life-in-SlotsAlone-clause-known : goal.returns-in_ok-add_life-in-SlotsAlone-clause-known
returns-in_ok-add_life-in-SlotsAlone-clause-known g c = (slots_alone, record { schema = rw c.in-SlotsAlone.is at c.requires; beside = none_beside })

pub returns-in-LifeFirst-clause-ok : goal.returns-in-LifeFirst-clause-ok
returns-in-LifeFirst-clause-ok g c clean up settled =
    let old = state g.S.Store c.args.conn.now in
    let it = rw c.in-LifeFirst.is at c.requires in
    record {
      ours = record {
        is_open = up;
        schema = schema_told life_first old.now.schema it.0 it.1 it.2;
        autocommit = settled.autocommit;
        committed = settled.committed up;
      };
      adds = adds_at (both life_first it.0) old old.now.trees it.2 (record { records = λ records found. found; started = λ started found. found });
      laid = laid_at (both life_first it.0) old it.2;
    }

pub returns-in-SlotsFirst-clause-ok : goal.returns-in-SlotsFirst-clause-ok
returns-in-SlotsFirst-clause-ok g c clean up settled =
    let old = state g.S.Store c.args.conn.now in
    let it = rw c.in-SlotsFirst.is at c.requires in
    record {
      ours = record {
        is_open = up;
        schema = schema_told slots_first old.now.schema it.0 it.1 it.2;
        autocommit = settled.autocommit;
        committed = settled.committed up;
      };
      adds = adds_at (both slots_first it.0) old old.now.trees it.2 (record { records = λ records found. found; started = λ started found. found });
      laid = laid_at (both slots_first it.0) old it.2;
    }
