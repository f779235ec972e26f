use Rattle.std.proofs.Common.{rules, ◌≡◌, refl, sym, ap, subst, ◌∙◌, Bool, Option, true, false}
use Rattle.std.proofs.lemmas.Bool.{true≢false}
use Rattle.stable_store.specs.Stored.{Stays}
use Rattle.node_kept.specs.Grouping.{Grouped}
use Rattle.node_core.specs.Nodes.{HasStopped, HasTaken, IsStored, IsUnmoved, Standing, packets_waiting, records_in, seen}
use Rattle.node_core.specs.Pendings.{Awaited}
use Rattle.node_core.specs.Stops.{IsUnknown}
use Rattle.node_core.proofs.Committing.{taken}
use Rattle.node_core.proofs.Stopping.{cut}
use Rattle.node_core.proofs.Storing.{at_rest, stored_once}
use Rattle.node_core.proofs.Unsaved.{saved_for}
use Rattle.node_core.proofs.node.Node.commit.Goals as goal

pub returns-in-Ok-clause-ok : goal.returns-in-Ok-clause-ok
returns-in-Ok-clause-ok g c =
    let new : Standing g.row.S.Denot = record {
      kept = c.install.new.self;
      broken = c.self.inside.broken;
      store = c.save.new.store;
      unfinished = c.self.inside.unfinished;
      waiting = packets_waiting c.self.inside.waiting;
      stopped = c.self.inside.stopped;
    } in
    let before : Standing g.row.S.Denot = record {
      kept = c.self.inside.kept;
      broken = c.self.inside.broken;
      store = c.self.inside.store;
      unfinished = c.self.inside.unfinished;
      waiting = packets_waiting c.self.inside.waiting;
      stopped = c.self.inside.stopped;
    } in
    let works : c.self.inside.broken ≡ false = search rules in
    let kept : c.pending.inside.was.value ≡ c.self.inside.kept =
    ap (λ (p : Awaited). p.was) c.pending.view_is ∙ c.requires ∙ sym (ap (λ (n : Standing g.row.S.Denot). n.kept) c.self.view_is) in
    subst (λ (old : Standing g.row.S.Denot). HasTaken old c.args.pending.input new c.pending.inside.step.outputs) c.self.view_is
    (taken before new c.pending.inside.was.value c.args.pending.input c.pending.inside.given.value c.pending.inside.step kept
    (ap (λ (p : Awaited). p.input) c.pending.view_is) c.pending.invariant.is c.install.ensures works refl refl refl)

pub invariant_of-self-in-Err-Device : goal.invariant_of-self-in-Err-Device
invariant_of-self-in-Err-Device g c =
    let stored = g.S.StableStore.stored in
    let works : c.self.inside.broken ≡ false = search rules in
    let kept : c.pending.inside.was.value ≡ c.self.inside.kept =
    ap (λ (p : Awaited). p.was) c.pending.view_is ∙ c.requires ∙ sym (ap (λ (n : Standing g.row.S.Denot). n.kept) c.self.view_is) in
    let is = cut c.self.inside.kept c.pending.inside.was.value c.args.pending.input c.pending.inside.given.value
    c.pending.inside.step c.pending.inside.packet
    (stored c.self.inside.store) (stored c.save.new.store) kept (ap (λ (p : Awaited). p.input) c.pending.view_is) c.pending.invariant
    (c.self.invariant.saved works) (g.met.S.StableStore.settled c.self.inside.store) c.in-Err-Device.ensures.change c.save.ensures.left in
    record {
      saved = λ works. absurd (true≢false works);
      own = c.self.invariant.own;
      finished = λ works. absurd (true≢false works);
      settled = λ works. absurd (true≢false works);
      pending = c.self.invariant.pending;
      halted = λ left may. subst (λ (w : Option Grouped). IsUnknown c.self.inside.kept left c.pending.inside.packet (packets_waiting w))
          (sym (c.self.invariant.settled works)) (is.halted left may);
    }

pub returns-in-Err-Device-clause-device : goal.returns-in-Err-Device-clause-device
returns-in-Err-Device-clause-device g c = λ device.
    let stored = g.S.StableStore.stored in
    let new : Standing g.row.S.Denot = record {
      kept = c.self.inside.kept;
      broken = true;
      store = c.save.new.store;
      unfinished = c.pending.inside.packet;
      waiting = packets_waiting c.self.inside.waiting;
      stopped = c.self.inside.stopped;
    } in
    let works : c.self.inside.broken ≡ false = search rules in
    let kept : c.pending.inside.was.value ≡ c.self.inside.kept =
    ap (λ (p : Awaited). p.was) c.pending.view_is ∙ c.requires ∙ sym (ap (λ (n : Standing g.row.S.Denot). n.kept) c.self.view_is) in
    let is = cut c.self.inside.kept c.pending.inside.was.value c.args.pending.input c.pending.inside.given.value
    c.pending.inside.step c.pending.inside.packet
    (stored c.self.inside.store) (stored c.save.new.store) kept (ap (λ (p : Awaited). p.input) c.pending.view_is) c.pending.invariant
    (c.self.invariant.saved works) (g.met.S.StableStore.settled c.self.inside.store) c.in-Err-Device.ensures.change c.save.ensures.left in
    subst (λ (old : Standing g.row.S.Denot). HasStopped (seen stored old) c.args.pending.input (seen stored new)) c.self.view_is
    (record {
      kept = refl;
      broken = refl;
      found = is.found;
      started = c.save.ensures.left.started;
      packet = is.packet;
      came = is.came;
      unfinished = is.is;
      waiting = refl;
      stopped = refl;
    })

pub invariant_of-self-in-Err : goal.invariant_of-self-in-Err
invariant_of-self-in-Err g c =
    let stored = g.S.StableStore.stored in
    let kept = c.self.inside.kept in
    let works : c.self.inside.broken ≡ false = search rules in
    let stays : Stays (stored c.self.inside.store) (stored c.save.new.store) = c.in-Err.ensures.memory (search rules) in
    let holds = stays.records (records_in kept) (c.self.invariant.saved works) in
    record {
      saved = λ works. holds;
      own = c.self.invariant.own;
      finished = c.self.invariant.finished;
      settled = c.self.invariant.settled;
      pending = c.self.invariant.pending;
      halted = λ left may. at_rest kept left c.self.inside.unfinished c.self.inside.waiting (c.self.invariant.finished works)
          (c.self.invariant.settled works) (g.met.S.StableStore.settled c.save.new.store (records_in kept) left holds may);
    }

pub returns-clause-broken : goal.returns-clause-broken
returns-clause-broken g c = search rules

pub returns-clause-memory : goal.returns-clause-memory
returns-clause-memory g c = λ wanted.
    let stored = g.S.StableStore.stored in
    let new : Standing g.row.S.Denot = record {
      kept = c.self.inside.kept;
      broken = c.self.inside.broken;
      store = c.save.new.store;
      unfinished = c.self.inside.unfinished;
      waiting = packets_waiting c.self.inside.waiting;
      stopped = c.self.inside.stopped;
    } in
    subst (λ (old : Standing g.row.S.Denot). IsUnmoved (seen stored old) (seen stored new)) c.self.view_is
    (record { kept = refl; broken = refl; stored = c.in-Err.ensures.memory (search rules); unfinished = refl; waiting = refl; stopped = refl })

pub returns-clause-device : goal.returns-clause-device
returns-clause-device g c = search rules

pub returns-clause-wants : goal.returns-clause-wants
returns-clause-wants g c = λ wanted.
    saved_for c.pending.inside.was.value c.args.pending.input c.pending.inside.given.value c.pending.inside.step c.pending.inside.packet
    (ap (λ (p : Awaited). p.input) c.pending.view_is) c.pending.invariant c.in-Err.ensures.change

pub returns-clause-stays : goal.returns-clause-stays
returns-clause-stays g c = λ broken. absurd (search rules)

pub invariant_of-self : goal.invariant_of-self
invariant_of-self g c =
    let stored = g.S.StableStore.stored in
    let works : c.self.inside.broken ≡ false = search rules in
    let kept : c.pending.inside.was.value ≡ c.self.inside.kept =
    ap (λ (p : Awaited). p.was) c.pending.view_is ∙ c.requires ∙ sym (ap (λ (n : Standing g.row.S.Denot). n.kept) c.self.view_is) in
    let input : c.pending.inside.given.value ≡ c.args.pending.input = ap (λ (p : Awaited). p.input) c.pending.view_is in
    let once : IsStored false (stored c.save.new.store) c.self.inside.unfinished c.self.inside.waiting c.install.new.self =
    stored_once c.self.inside.kept c.pending.inside.was.value c.install.new.self c.args.pending.input c.pending.inside.given.value
    c.pending.inside.step c.pending.inside.packet c.self.inside.unfinished c.self.inside.waiting (stored c.self.inside.store) (stored c.save.new.store)
    kept input
    c.pending.invariant c.install.ensures c.in-Ok.ensures.ok (g.met.S.StableStore.settled c.save.new.store)
    (subst (λ (b : Bool). IsStored b (stored c.self.inside.store) c.self.inside.unfinished c.self.inside.waiting c.self.inside.kept) works c.self.invariant) in
    subst (λ (b : Bool). IsStored b (stored c.save.new.store) c.self.inside.unfinished c.self.inside.waiting c.install.new.self) (sym works) once
