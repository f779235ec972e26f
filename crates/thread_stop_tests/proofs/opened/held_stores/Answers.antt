use Rattle.std.proofs.Common.{◌≡◌, Bool, true, false, List, [], ◌∷◌, ◌++◌, sym, subst, inl, inr}
use Rattle.std.specs.Prelude.{if◌then◌else◌}
use Rattle.mc_model.specs.synod.Lists.{In}
use Rattle.mc_parts.proofs.Membership.{in_two}
use Rattle.stable_store.specs.Stored.{Stored, stored_in}
use Rattle.journal_laws.specs.Openings.{IsNew}
use Rattle.node_threads.specs.Openings.{AreNew}
use Rattle.thread_stop_tests.proofs.opened.held_stores.Goals as goal

pushed : {S : Type 0} (stored : S → Stored) (ok : Bool) (stores : List S) (one : S) (after : List S) → after ≡ (if ok then stores ++ one ∷ [] else stores) →
    AreNew stored stores → IsNew (stored one) → AreNew stored after
pushed {S} stored true stores one after is all new = λ store among. elim (in_two store stores one (subst (λ (ss : List S). In store ss) is among)) [
  | inl before ↦ all store before
  | inr same ↦ subst (λ (s : S). IsNew (stored s)) (sym same) new
]
pushed {S} stored false stores one after is all new = λ store among. all store (subst (λ (ss : List S). In store ss) is among)

pub loop-save-preserved : goal.loop-save-preserved
loop-save-preserved g c =
    pushed (λ store. stored_in store.store 0) _ c.loop-save.stores.items c.held_store.result c.push-put.new.self.items c.push-put.ensures.items
    c.loop-save.invariant c.held_store.ensures
