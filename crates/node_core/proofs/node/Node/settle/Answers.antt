use Rattle.std.proofs.Common.{rules, ◌≡◌, List, Option, Some, inl, inr, refl, sym, ap, subst, ◌∙◌, true, false}
use Rattle.std.specs.Prelude.{IfSome, is_some}
use Rattle.std.proofs.lemmas.Bool.{cases_Bool, true≢false}
use Rattle.synod_acceptor.specs.Records.{entries_of, record_at}
use Rattle.synod_acceptor.specs.Votes.{Record}
use Rattle.node_kept.specs.Grouping.{Grouped}
use Rattle.node_kept.specs.declared.kept.Kept.{Kept as Holding}
use Rattle.node_core.specs.Nodes.{AreGiven, HasSettled, IsPending, Standing, packets_waiting, unbroken}
use Rattle.node_core.specs.Stops.{IsUnknown}
use Rattle.node_core.proofs.Together.{after_all, all_taken, halted_after, halted_before, stored_then}
use Rattle.node_core.proofs.node.Node.settle.Goals as goal

pub invariant_of-self-then-not-is_saved_in : goal.invariant_of-self-then-not-is_saved_in
invariant_of-self-then-not-is_saved_in g c =
    let stored = g.S.StableStore.stored in
    let k = c.self.inside.kept in
    let group = c.in-Some.group in
    let waits : c.self.inside.waiting ≡ Some group = sym c.take.ensures.value ∙ c.in-Some.is in
    let pending : IsPending k group = subst (λ (w : Option Grouped). IfSome w (IsPending k)) waits c.self.invariant.pending in
    let halted : c.self.inside.broken ≡ false → ⊥ =
    λ (works : c.self.inside.broken ≡ false). true≢false (ap is_some (sym waits ∙ c.self.invariant.settled works)) in
    let unsaved : c.is_saved_in.result ≡ false = search rules in
    stored_then c.self.inside.broken (stored c.load.new.self) c.into_first.result c.take.new.self k halted c.take.ensures.after c.self.invariant.own
    (halted_before k group.was group.packets c.self.inside.unfinished (stored c.self.inside.store) (stored c.load.new.self)
    (record_at (entries_of c.in-Ok.records.items)) pending.was c.saves.ensures.changes pending.some
    (λ left may. subst (λ (w : Option Grouped). IsUnknown k left c.self.inside.unfinished (packets_waiting w)) waits (c.self.invariant.halted left may))
    c.load.ensures.stop.records (g.met.S.StableStore.settled c.load.new.self) c.in-Ok.ensures.loaded c.into_first.result c.into_first.ensures.0
    c.into_first.ensures.1
    (λ same. c.is_saved_in.ensures.unsaved unsaved (ap (λ (records : List Record). record_at (entries_of records)) c.deref.ensures.value ∙ same)))

pub invariant_of-self-in-Ok : goal.invariant_of-self-in-Ok
invariant_of-self-in-Ok g c =
    let stored = g.S.StableStore.stored in
    let k = c.self.inside.kept in
    let group = c.in-Some.group in
    let waits : c.self.inside.waiting ≡ Some group = sym c.take.ensures.value ∙ c.in-Some.is in
    let pending : IsPending k group = subst (λ (w : Option Grouped). IfSome w (IsPending k)) waits c.self.invariant.pending in
    let halted : c.self.inside.broken ≡ false → ⊥ =
    λ (works : c.self.inside.broken ≡ false). true≢false (ap is_some (sym waits ∙ c.self.invariant.settled works)) in
    let saved : c.is_saved_in.result ≡ true = search rules in
    stored_then c.self.inside.broken (stored c.load.new.self) c.split_last-firsts.result.1 c.take.new.self c.install_all.new.self halted
    c.take.ensures.after c.install_all.ensures.own
    (halted_after k group.was group.packets c.self.inside.unfinished (stored c.self.inside.store) (stored c.load.new.self)
    (record_at (entries_of c.in-Ok.records.items)) pending.was c.saves.ensures.changes pending.some
    (λ left may. subst (λ (w : Option Grouped). IsUnknown k left c.self.inside.unfinished (packets_waiting w)) waits (c.self.invariant.halted left may))
    c.load.ensures.stop.records (g.met.S.StableStore.settled c.load.new.self) c.in-Ok.ensures.loaded c.install_all.new.self
    c.split_last-firsts.result.0.packets c.split_last-firsts.result.1 c.install_all.result.items c.split_last-firsts.ensures.packets
    c.install_all.ensures.taken
    (λ same. c.is_saved_in.ensures.saved saved (ap (λ (records : List Record). record_at (entries_of records)) c.deref.ensures.value ∙ same)))

pub returns-else-not-is_saved_in-clause-settled : goal.returns-else-not-is_saved_in-clause-settled
returns-else-not-is_saved_in-clause-settled g c = λ some.
    let group = c.in-Some.group in
    let before : Standing g.row.S.Denot = record {
      kept = c.self.inside.kept;
      broken = c.self.inside.broken;
      store = c.self.inside.store;
      unfinished = c.self.inside.unfinished;
      waiting = packets_waiting c.self.inside.waiting;
      stopped = c.self.inside.stopped;
    } in
    let new : Standing g.row.S.Denot = record {
      kept = c.install_all.new.self;
      broken = c.self.inside.broken;
      store = c.load.new.self;
      unfinished = Some c.split_last-firsts.result.1;
      waiting = packets_waiting c.take.new.self;
      stopped = c.self.inside.stopped;
    } in
    let waits : c.self.inside.waiting ≡ Some group = sym c.take.ensures.value ∙ c.in-Some.is in
    let pending : IsPending c.self.inside.kept group = subst (λ (w : Option Grouped). IfSome w (IsPending c.self.inside.kept)) waits c.self.invariant.pending in
    let broken : c.self.inside.broken ≡ true = elim (cases_Bool c.self.inside.broken) [
      | inl halted ↦ halted
      | inr works ↦ absurd (true≢false (ap is_some (sym waits ∙ c.self.invariant.settled works)))
    ] in
    subst (λ (old : Standing g.row.S.Denot). HasSettled old c.install_all.result.items new) c.self.view_is
    (record {
      found = inr (record {
        firsts = c.split_last-firsts.result.0.packets;
        packet = c.split_last-firsts.result.1;
        packets = ap packets_waiting waits ∙ c.split_last-firsts.ensures.packets;
        taken = all_taken (unbroken before) (unbroken new) c.split_last-firsts.result.0.packets c.install_all.result.items c.install_all.ensures.taken
            refl refl refl refl refl;
        gives = subst (λ (h : Holding). AreGiven h c.split_last-firsts.result.0.packets c.install_all.result.items)
            (c.split_last-firsts.ensures.was ∙ pending.was) c.install_all.ensures.gives;
        unfinished = refl;
      });
      broken = broken;
      waiting = ap packets_waiting c.take.ensures.after;
      stopped = refl;
    })

pub returns-else-not-is_saved_in-clause-same : goal.returns-else-not-is_saved_in-clause-same
returns-else-not-is_saved_in-clause-same g c =
    let is = after_all c.self.inside.kept c.install_all.new.self c.split_last-firsts.result.0.packets c.install_all.result.items c.install_all.ensures.taken in
    let kept = ap (λ (n : Standing g.row.S.Denot). n.kept) c.self.view_is in
    record {
      setup = is.setup ∙ ap (λ (k : Holding). k.setup) kept;
      incarnation = is.incarnation ∙ ap (λ (k : Holding). k.incarnation) kept;
    }
