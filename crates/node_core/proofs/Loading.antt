-- A node that is loaded over its store, and begins later.
use Rattle.std.proofs.Common.{◌≡◌, ℕ, false, sym, ap, subst, ◌∙◌, inl, inr, arith, Result, Ok, Err, IfOk, IfErr}
use Rattle.std.proofs.Math.Path.{fun_ext}
use Rattle.mc_model.specs.synod.Acceptor.{Records}
use Rattle.mc_model.specs.node.Setup.{Setup}
use Rattle.stable_store.specs.Stored.{GoesOn, Leaves, LeavesNext, Stays, Stored}
use Rattle.stable_store.specs.declared.fault.StoreFault.{StoreFault}
use Rattle.stable_store.specs.declared.fault.StoreFault.TheVariants as faults
use Rattle.node_kept.specs.declared.kept.Kept.{Kept}
use Rattle.node_kept.specs.Keeping.{IsOpen}
use Rattle.node_core.specs.declared.life.Life.{Life}
use Rattle.node_core.specs.Loadings.{HasLoaded, HasRaised, IsReady}
use Rattle.node_core.specs.Nodes.{FailsToOpen, HasFound, IsCaused, OpensOver, Standing, StaysAt, records_in}
use Rattle.node_core.proofs.Opening.{opened, opens_with}

-- what was loaded
pub has_loaded : (with : Setup) (starts : ℕ) (records : Records) (k : Kept) (old new : Stored) → IsOpen with starts records k → new.holds records →
    (new.doubt ≡ 0 → new.may_hold records) → Stays old new → Leaves old new → GoesOn old new → HasLoaded with old new k
has_loaded with starts records k old new is holds found stays left goes_on =
    let same : records_in k ≡ records = fun_ext is.kept in record {
      setup = is.setup;
      ready = record {
        holds = subst new.holds (sym same) holds;
        opens = subst (λ (s : Setup). IsOpen s k.incarnation (records_in k) k) (sym is.setup) (opens_with with starts records k is);
      };
      found = λ sure. subst old.may_hold (sym same) (left.records records (found sure));
      stays = stays;
      left = left;
      goes_on = goes_on;
    }

-- ---- what is so of a store after two calls

still : (old mid new : Stored) → Stays old mid → Stays mid new → Stays old new
still old mid new before after = record {
  records = λ rs held. after.records rs (before.records rs held);
  started = λ n has. after.started n (before.started n has);
}

pub on : (old mid new : Stored) → GoesOn old mid → GoesOn mid new → GoesOn old new
on old mid new before after = record {
  doubt = let first = before.doubt in let next = after.doubt in omega (arith, first, next);
  failed = let first = before.failed in let next = after.failed in omega (arith, first, next);
}

pub leaves_next : (old mid new : Stored) → Stays old mid → Leaves old mid → LeavesNext mid new → LeavesNext old new
leaves_next old mid new stays before after = record {
  records = λ rs may. before.records rs (after.records rs may);
  started = λ left may. elim (after.started left may) [
    | inl had ↦ inl (before.started left had)
    | inr next ↦ inr (λ started has. next started (stays.started started has))
  ];
}

stays_behind : (fault : StoreFault) (old mid new : Stored) → Stays old mid → StaysAt fault mid new → StaysAt fault old new
stays_behind faults.Device old mid new before after = tt
stays_behind faults.Damaged old mid new before after = tt
stays_behind faults.Incarnations old mid new before after = still old mid new before after
stays_behind faults.Memory old mid new before after = still old mid new before after

cause_behind : (fault : StoreFault) (old mid new : Stored) → Stays old mid → GoesOn old mid → IsCaused fault mid new → IsCaused fault old new
cause_behind faults.Device old mid new stays goes_on cause = let rose = goes_on.failed in grind (arith, rose, cause)
cause_behind faults.Damaged old mid new stays goes_on cause = λ rs n held has. cause rs n (stays.records rs held) (stays.started n has)
cause_behind faults.Incarnations old mid new stays goes_on cause = λ n none has. cause n none (stays.started n has)
cause_behind faults.Memory old mid new stays goes_on cause = tt

pub fails_behind : (fault : StoreFault) (old mid new : Stored) → Stays old mid → Leaves old mid → GoesOn old mid → FailsToOpen fault mid new →
    FailsToOpen fault old new
fails_behind fault old mid new stays left goes_on fails = record {
  stays = stays_behind fault old mid new stays fails.stays;
  left = leaves_next old mid new stays left fails.left;
  cause = cause_behind fault old mid new stays goes_on fails.cause;
  goes_on = on old mid new goes_on fails.goes_on;
}

-- ---- the result of a call

pub for_ok : {A E : Type 0} (P Q : A → Type 0) (result : Result A E) → ((x : A) → P x → Q x) → IfOk result P → IfOk result Q
for_ok P Q (Ok x) turn is = turn x is
for_ok P Q (Err e) turn is = tt

pub for_err : {A E : Type 0} (P Q : E → Type 0) (result : Result A E) → ((e : E) → P e → Q e) → IfErr result P → IfErr result Q
for_err P Q (Ok x) turn is = tt
for_err P Q (Err e) turn is = turn e is

-- ---- the next incarnation of what was loaded

module _ (with : Setup) (old mid new : Stored) (before after : Kept) (loaded : HasLoaded with old mid before) (raised : HasRaised mid new before after) where
  open_there : IsOpen before.setup raised.number (records_in before) after
  open_there = raised.begun before.setup before.incarnation (records_in before) loaded.ready.opens

  pub open_after : IsOpen with after.incarnation (records_in after) after
  open_after =
      subst (λ (s : Setup). IsOpen s after.incarnation (records_in after) after) loaded.setup
      (opens_with before.setup raised.number (records_in before) after open_there)

  pub found_after : HasFound old new after
  found_after =
      let same : records_in after ≡ records_in before = fun_ext open_there.kept in
      let number : after.incarnation ≡ raised.number = open_there.incarnation in
      let sure : new.doubt ≡ 0 → mid.doubt ≡ 0 = λ (none : new.doubt ≡ 0). let less = raised.goes_on.doubt in omega (arith, none, less) in
      record {
        found = λ none. subst old.may_hold (sym same) (loaded.found (sure none));
        holds = subst new.holds (sym same) (raised.kept (records_in before) loaded.ready.holds);
        next = λ n none has. number ∙ raised.next n none (loaded.stays.started n has);
        started = subst new.has_started (sym number) raised.started;
        kept = λ rs held. raised.kept rs (loaded.stays.records rs held);
      }

  pub left_after : LeavesNext old new
  left_after = leaves_next old mid new loaded.stays loaded.left raised.left

  pub on_after : GoesOn old new
  on_after = on old mid new loaded.goes_on raised.goes_on

-- what is kept then is stored
module _ (mid new : Stored) (before after : Kept) (ready : IsReady mid before) (raised : HasRaised mid new before after) where
  ready_there : IsOpen before.setup raised.number (records_in before) after
  ready_there = raised.begun before.setup before.incarnation (records_in before) ready.opens

  pub holds_after : new.holds (records_in after)
  holds_after = subst new.holds (sym (fun_ext ready_there.kept)) (raised.kept (records_in before) ready.holds)

  pub own_after : IsOpen before.setup raised.number (records_in before) after
  own_after = ready_there

pub opens_over : {S : Type 0} (stored : S → Stored) (with : Setup) (store mid new : S) (before after : Kept) (node : Standing S) (life : Life) →
    HasLoaded with (stored store) (stored mid) before → HasRaised (stored mid) (stored new) before after → node.kept ≡ after → node.broken ≡ false →
    node.store ≡ new → life.node ≡ after.setup.node → life.incarnation ≡ after.incarnation → OpensOver (stored store) with (stored node.store) node life
opens_over {S} stored with store mid new before after node life loaded raised kept_is works store_is number start =
    let old = stored store in
    let is = open_after with old (stored mid) (stored new) before after loaded raised in record {
      opened = opened with (records_in node.kept) node.kept.incarnation node life
          (subst (λ (k : Kept). IsOpen with k.incarnation (records_in k) k) (sym kept_is) is)
          works
          (number ∙ ap (λ (s : Setup). s.node) is.setup)
          (start ∙ ap (λ (k : Kept). k.incarnation) (sym kept_is));
      found = subst (λ (k : Kept). HasFound old (stored node.store) k) (sym kept_is)
          (subst (λ (s : S). HasFound old (stored s) after) (sym store_is)
          (found_after with old (stored mid) (stored new) before after loaded raised));
      left = subst (λ (s : S). LeavesNext old (stored s)) (sym store_is)
          (left_after with old (stored mid) (stored new) before after loaded raised);
      goes_on = subst (λ (s : S). GoesOn old (stored s)) (sym store_is)
          (on_after with old (stored mid) (stored new) before after loaded raised);
    }
