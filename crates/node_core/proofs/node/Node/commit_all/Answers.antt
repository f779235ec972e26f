use Rattle.std.proofs.Common.{rules, ◌≡◌, ◌≢◌, [], Bool, true, false, is_ok, refl, sym, ap, subst, ◌∙◌}
use Rattle.std.proofs.lemmas.Bool.{true≢false}
use Rattle.node_kept.specs.declared.kept.Kept.{Kept as Holding}
use Rattle.node_core.specs.Nodes.{AreGiven, HasStoppedAll, HasTakenAll, IsStored, Standing, packets_waiting, seen}
use Rattle.node_core.proofs.Together.{after_all, all_taken, either, stored_all, unknown}
use Rattle.node_core.proofs.node.Node.commit_all.Goals as goal

pub invariant_of-self : goal.invariant_of-self
invariant_of-self g c =
    let stored = g.S.StableStore.stored in
    let works : c.self.inside.broken ≡ false = search rules in
    let once : IsStored false (stored c.save_all.new.self) c.self.inside.unfinished c.self.inside.waiting c.install_all.new.self =
    stored_all c.self.inside.kept c.install_all.new.self c.args.group.changes c.changes.result.now c.self.inside.unfinished c.self.inside.waiting
    (stored c.self.inside.store) (stored c.save_all.new.self) c.changes.ensures c.install_all.ensures.records c.install_all.ensures.own
    c.in-Ok.ensures.ok (g.met.S.StableStore.settled c.save_all.new.self)
    (subst (λ (b : Bool). IsStored b (stored c.self.inside.store) c.self.inside.unfinished c.self.inside.waiting c.self.inside.kept) works c.self.invariant) in
    subst (λ (b : Bool). IsStored b (stored c.save_all.new.self) c.self.inside.unfinished c.self.inside.waiting c.install_all.new.self) (sym works) once

pub returns-in-Ok-clause-ok : goal.returns-in-Ok-clause-ok
returns-in-Ok-clause-ok g c =
    let before : Standing g.row.S.Denot = record {
      kept = c.self.inside.kept;
      broken = c.self.inside.broken;
      store = c.self.inside.store;
      unfinished = c.self.inside.unfinished;
      waiting = packets_waiting c.self.inside.waiting;
      stopped = c.self.inside.stopped;
    } in
    let new : Standing g.row.S.Denot = record {
      kept = c.install_all.new.self;
      broken = c.self.inside.broken;
      store = c.save_all.new.self;
      unfinished = c.self.inside.unfinished;
      waiting = packets_waiting c.self.inside.waiting;
      stopped = c.self.inside.stopped;
    } in
    let works : c.self.inside.broken ≡ false = search rules in
    subst (λ (old : Standing g.row.S.Denot). HasTakenAll old c.args.group.packets c.install_all.result.items new) c.self.view_is
    (all_taken before new c.args.group.packets c.install_all.result.items c.install_all.ensures.taken works works refl refl refl)

pub returns-in-Ok-clause-gives : goal.returns-in-Ok-clause-gives
returns-in-Ok-clause-gives g c =
    subst (λ (k : Holding). AreGiven k c.args.group.packets c.install_all.result.items) c.requires c.install_all.ensures.gives

pub invariant_of-self-in-Err : goal.invariant_of-self-in-Err
invariant_of-self-in-Err g c =
    let stored = g.S.StableStore.stored in
    let works : c.self.inside.broken ≡ false = search rules in
    let was : c.args.group.was ≡ c.self.inside.kept = c.requires ∙ sym (ap (λ (n : Standing g.row.S.Denot). n.kept) c.self.view_is) in
    let some : c.args.group.packets ≢ [] =
    λ none. true≢false (sym (ap is_ok (c.save_all.ensures.none (c.changes.ensures ∙ c.saves.ensures.none none)).0) ∙ ap is_ok c.in-Err.is) in
    let found = either c.self.inside.kept c.args.group.was c.args.group.packets c.args.group.changes c.changes.result.now (stored c.self.inside.store)
    (stored c.save_all.new.self) was c.changes.ensures c.saves.ensures.leaves (c.self.invariant.saved works)
    (g.met.S.StableStore.settled c.self.inside.store) c.save_all.ensures.stop in
    record {
      saved = λ works. absurd (true≢false works);
      own = c.self.invariant.own;
      finished = λ works. absurd (true≢false works);
      settled = λ works. absurd (true≢false works);
      pending = record { was = was; some = some };
      halted = λ left may. unknown c.self.inside.kept left c.self.inside.unfinished c.args.group.packets some (found left may);
    }

pub returns-in-Err-clause-device : goal.returns-in-Err-clause-device
returns-in-Err-clause-device g c = λ device.
    let stored = g.S.StableStore.stored in
    let new : Standing g.row.S.Denot = record {
      kept = c.self.inside.kept;
      broken = true;
      store = c.save_all.new.self;
      unfinished = c.self.inside.unfinished;
      waiting = c.args.group.packets;
      stopped = c.self.inside.stopped;
    } in
    let works : c.self.inside.broken ≡ false = search rules in
    let was : c.args.group.was ≡ c.self.inside.kept = c.requires ∙ sym (ap (λ (n : Standing g.row.S.Denot). n.kept) c.self.view_is) in
    let found = either c.self.inside.kept c.args.group.was c.args.group.packets c.args.group.changes c.changes.result.now (stored c.self.inside.store)
    (stored c.save_all.new.self) was c.changes.ensures c.saves.ensures.leaves (c.self.invariant.saved works)
    (g.met.S.StableStore.settled c.self.inside.store) c.save_all.ensures.stop in
    subst (λ (old : Standing g.row.S.Denot). HasStoppedAll (seen stored old) c.args.group.packets (seen stored new)) c.self.view_is
    (record {
      kept = refl;
      broken = refl;
      found = found;
      started = c.save_all.ensures.stop.started;
      some = λ none. true≢false (sym (ap is_ok (c.save_all.ensures.none (c.changes.ensures ∙ c.saves.ensures.none none)).0) ∙ ap is_ok c.in-Err.is);
      unfinished = refl;
      waiting = refl;
      stopped = refl;
    })

pub returns-in-Ok-clause-same : goal.returns-in-Ok-clause-same
returns-in-Ok-clause-same g c =
    let is = after_all c.self.inside.kept c.install_all.new.self c.args.group.packets c.install_all.result.items c.install_all.ensures.taken in
    let kept = ap (λ (n : Standing g.row.S.Denot). n.kept) c.self.view_is in
    record {
      setup = is.setup ∙ ap (λ (k : Holding). k.setup) kept;
      incarnation = is.incarnation ∙ ap (λ (k : Holding). k.incarnation) kept;
    }
