use Rattle.std.proofs.Common.{◌≡◌, refl, sym, ap, subst, ◌∙◌, Bool, false}
use Rattle.node_core.specs.Nodes.{HasTaken, IsStored, Standing, packets_waiting}
use Rattle.node_core.specs.Pendings.{Awaited}
use Rattle.node_core.proofs.Committing.{taken}
use Rattle.node_core.proofs.Storing.{saves_none, stored_once}
use Rattle.node_core.proofs.node.Node.commit_unsaved.Goals as goal

pub invariant_of-self : goal.invariant_of-self
invariant_of-self g c =
    let kept : c.pending.inside.was.value ≡ c.self.inside.kept =
    ap (λ (p : Awaited). p.was) c.pending.view_is ∙ c.requires.was ∙ sym (ap (λ (n : Standing g.row.S.Denot). n.kept) c.self.view_is) in
    let works : c.self.inside.broken ≡ false = ap (λ (n : Standing g.row.S.Denot). n.broken) c.self.view_is ∙ c.requires.works in
    let input : c.pending.inside.given.value ≡ c.args.pending.input = ap (λ (p : Awaited). p.input) c.pending.view_is in
    let store = c.self.inside.store in
    let now = g.S.StableStore.stored store in
    let stored : IsStored false now c.self.inside.unfinished c.self.inside.waiting c.install.new.self =
    stored_once c.self.inside.kept c.pending.inside.was.value c.install.new.self c.args.pending.input c.pending.inside.given.value
    c.pending.inside.step c.pending.inside.packet c.self.inside.unfinished c.self.inside.waiting now now kept input c.pending.invariant
    c.install.ensures
    (saves_none c.self.inside.kept c.pending.inside.was.value c.args.pending.input c.pending.inside.given.value c.pending.inside.step
    c.pending.inside.packet now kept input c.pending.invariant c.requires.unsaved)
    (g.met.S.StableStore.settled store)
    (subst (λ (b : Bool). IsStored b now c.self.inside.unfinished c.self.inside.waiting c.self.inside.kept) works c.self.invariant) in
    subst (λ (b : Bool). IsStored b now c.self.inside.unfinished c.self.inside.waiting c.install.new.self) (sym works) stored

pub returns-clause-taken : goal.returns-clause-taken
returns-clause-taken g c =
    let new : Standing g.row.S.Denot = record {
      kept = c.install.new.self;
      broken = c.self.inside.broken;
      store = c.self.inside.store;
      unfinished = c.self.inside.unfinished;
      waiting = packets_waiting c.self.inside.waiting;
      stopped = c.self.inside.stopped;
    } in
    let before : Standing g.row.S.Denot = record {
      kept = c.self.inside.kept;
      broken = c.self.inside.broken;
      store = c.self.inside.store;
      unfinished = c.self.inside.unfinished;
      waiting = packets_waiting c.self.inside.waiting;
      stopped = c.self.inside.stopped;
    } in
    let works : c.self.inside.broken ≡ false = ap (λ (n : Standing g.row.S.Denot). n.broken) c.self.view_is ∙ c.requires.works in
    let kept : c.pending.inside.was.value ≡ c.self.inside.kept =
    ap (λ (p : Awaited). p.was) c.pending.view_is ∙ c.requires.was ∙ sym (ap (λ (n : Standing g.row.S.Denot). n.kept) c.self.view_is) in
    subst (λ (old : Standing g.row.S.Denot). HasTaken old c.args.pending.input new c.pending.inside.step.outputs) c.self.view_is
    (taken before new c.pending.inside.was.value c.args.pending.input c.pending.inside.given.value c.pending.inside.step kept
    (ap (λ (p : Awaited). p.input) c.pending.view_is) c.pending.invariant.is c.install.ensures works refl refl refl)
