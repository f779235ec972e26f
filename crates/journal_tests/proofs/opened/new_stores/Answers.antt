use Rattle.std.proofs.Common.{◌≡◌, Bool, true, false, List, [], ◌∷◌, ◌++◌, sym, subst, inl, inr}
use Rattle.std.specs.Prelude.{if◌then◌else◌}
use Rattle.mc_model.specs.synod.Lists.{In}
use Rattle.mc_parts.proofs.Membership.{in_two}
use Rattle.stable_store.specs.Stored.{stored_in}
use Rattle.journal_laws.specs.Openings.{IsNew}
use Rattle.node_threads.specs.Openings.{AreNew}
use Rattle.journal_tests.specs.declared.unsteady_store.UnsteadyStore.{UnsteadyStore}
use Rattle.journal_tests.proofs.opened.new_stores.Goals as goal

pushed : (ok : Bool) (stores : List UnsteadyStore) (one : UnsteadyStore) (after : List UnsteadyStore) →
    after ≡ (if ok then stores ++ one ∷ [] else stores) → AreNew (λ store. stored_in store.store store.failed) stores →
    IsNew (stored_in one.store one.failed) → AreNew (λ store. stored_in store.store store.failed) after
pushed true stores one after is all new = λ store among. elim (in_two store stores one (subst (λ (ss : List UnsteadyStore). In store ss) is among)) [
  | inl before ↦ all store before
  | inr same ↦ subst (λ (s : UnsteadyStore). IsNew (stored_in s.store s.failed)) (sym same) new
]
pushed false stores one after is all new = λ store among. all store (subst (λ (ss : List UnsteadyStore). In store ss) is among)

pub loop-place-preserved : goal.loop-place-preserved
loop-place-preserved g c = pushed _ c.loop-place.stores.items c.make.result c.push-put.new.self.items c.push-put.ensures.items c.loop-place.invariant c.make.ensures
