use Rattle.std.proofs.Common.{◌≡◌, refl, ap, subst, sym, ◌∙◌, Bool, false, List, [], Option}
use Rattle.std.proofs.lemmas.Bool.{true≢false}
use Rattle.mc_model.specs.node.Setup.{Setup}
use Rattle.stable_store.specs.Stored.{LeavesNext, Stored}
use Rattle.stable_store.specs.declared.fault.StoreFault.{StoreFault}
use Rattle.synod_acceptor.specs.declared.packet.Packet.{Packet as Sent}
use Rattle.node_kept.specs.Grouping.{Grouped}
use Rattle.node_kept.specs.Keeping.{IsOpen}
use Rattle.node_kept.specs.declared.kept.Kept.{Kept}
use Rattle.node_kept.specs.Finding.{IsFound}
use Rattle.node_core.specs.Nodes.{IsStored, OpensOver, Standing, StaysAt, breaks, packets_waiting, records_in}
use Rattle.node_core.specs.Stops.{IsTold, IsUnknown}
use Rattle.node_core.proofs.Opening.{opened, stays_if}
use Rattle.node_core.proofs.Stopping.{tells}
use Rattle.node_core.proofs.node.Node.reopen.Goals.{then-self, else-self}
use Rattle.node_core.proofs.node.Node.reopen.Goals as goal

pub returns-in-Ok-clause-ok : goal.returns-in-Ok-clause-ok
returns-in-Ok-clause-ok g c =
    let stored = g.S.StableStore.stored in
    let new : Standing g.row.S.Denot = record {
      kept = c.in-Ok.kept;
      broken = false;
      store = c.begin.new.store;
      unfinished = c.take.new.self;
      waiting = packets_waiting c.self.inside.waiting;
      stopped = c.told.result;
    } in
    let setup = c.self.inside.kept.setup in
    let number = c.node.ensures ∙ ap (λ (s : Setup). s.node) c.setup-setup.ensures in
    subst (λ (old : Standing g.row.S.Denot). OpensOver (stored old.store) old.kept.setup (stored c.begin.new.store) new c.of.result) c.self.view_is
    (record {
      opened = opened setup (records_in c.in-Ok.kept) c.in-Ok.kept.incarnation new c.of.result
          (subst (λ (s : Setup). IsOpen s c.in-Ok.kept.incarnation (records_in c.in-Ok.kept) c.in-Ok.kept) c.setup-setup.ensures c.in-Ok.ensures.ok)
          refl
          (c.of.ensures.node ∙ number)
          (c.of.ensures.incarnation ∙ c.incarnation.ensures);
      found = c.in-Ok.ensures.found;
      left = c.in-Ok.ensures.left;
      goes_on = c.in-Ok.ensures.goes_on;
    })

pub returns-in-Ok-clause-told : goal.returns-in-Ok-clause-told
returns-in-Ok-clause-told g c = λ none.
    let kept = c.in-Ok.kept in
    let found : IsFound (records_in kept) c.self.inside.unfinished c.told.result =
    subst (λ (o : Option Sent). IsFound (records_in kept) o c.told.result) c.take.ensures.value c.told.ensures in
    let settled : packets_waiting c.self.inside.waiting ≡ [] =
    ap (λ (n : Standing g.row.S.Denot). n.waiting) c.self.view_is ∙ c.waits.ensures.0 c.if-waits.false in
    let is = tells c.self.inside.kept (records_in kept) c.self.inside.unfinished c.told.result
    (subst (λ (packets : List Sent). IsUnknown c.self.inside.kept (records_in kept) c.self.inside.unfinished packets) settled
    (c.self.invariant.halted (records_in kept) (c.in-Ok.ensures.found.found none))) found in
    subst (λ (old : Standing g.row.S.Denot). IsTold old.kept (records_in kept) old.unfinished c.told.result) c.self.view_is is

still_stored : (old new : Bool) (fault : StoreFault) (before after : Stored) (unfinished : Option Sent) (waiting : Option Grouped) (k : Kept) →
    (new ≡ false → old ≡ false) → (new ≡ false → breaks fault ≡ false) → StaysAt fault before after → LeavesNext before after →
    IsStored old before unfinished waiting k → IsStored new after unfinished waiting k
still_stored old new fault before after unfinished waiting k works kind stays leaves is = record {
  saved = λ sound. (stays_if fault before after (kind sound) stays).records (records_in k) (is.saved (works sound));
  own = is.own;
  finished = λ sound. is.finished (works sound);
  settled = λ sound. is.settled (works sound);
  pending = is.pending;
  halted = λ left may. is.halted left (leaves.records left may);
}

pub invariant_of-self-in-Err : goal.invariant_of-self-in-Err
invariant_of-self-in-Err g c =
    let works : c.if-self.self ≡ false → c.self.inside.broken ≡ false =
    λ (sound : c.if-self.self ≡ false). elim c.if-self.branch [
      | then-self w ↦ sym w.self-is ∙ sound
      | else-self w ↦ w.if-self.false
    ] in
    let kind : c.if-self.self ≡ false → breaks c.in-Err.fault ≡ false =
    λ (sound : c.if-self.self ≡ false). elim c.if-self.branch [
      | then-self w ↦ absurd (true≢false (sym w.if-self.true ∙ sym w.self-is ∙ sound))
      | else-self w ↦ sym w.breaks-self-inside.ensures ∙ sym w.self-is ∙ sound
    ] in
    still_stored c.self.inside.broken c.if-self.self c.in-Err.fault (g.S.StableStore.stored c.self.inside.store)
    (g.S.StableStore.stored c.begin.new.store) c.self.inside.unfinished c.self.inside.waiting c.self.inside.kept works kind c.in-Err.ensures.stays
    c.in-Err.ensures.left
    c.self.invariant
