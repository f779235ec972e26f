use Rattle.std.proofs.Common.{◌≡◌, Bool, true, false, List, [], ◌∷◌, ◌++◌, sym, ap, subst, inl, inr}
use Rattle.std.specs.Prelude.{if◌then◌else◌}
use Rattle.mc_model.specs.synod.Acceptor.{SlotRecord}
use Rattle.mc_model.specs.synod.Lists.{In}
use Rattle.mc_model.specs.synod.Packet.{Slot}
use Rattle.mc_parts.proofs.Membership.{in_two}
use Rattle.stable_store.specs.Stored.{Listed, stored_in}
use Rattle.synod_acceptor.specs.Records.{record_at}
use Rattle.journal_laws.specs.Openings.{IsNew}
use Rattle.node_threads.specs.Openings.{AreNew}
use Rattle.thread_tests.proofs.openings.new_stores.Goals as goal

pushed : (ok : Bool) (stores : List Listed) (one : Listed) (after : List Listed) → after ≡ (if ok then stores ++ one ∷ [] else stores) →
    AreNew (λ list. stored_in list 0) stores → IsNew (stored_in one 0) → AreNew (λ list. stored_in list 0) after
pushed true stores one after is all new = λ store among. elim (in_two store stores one (subst (λ (ss : List Listed). In store ss) is among)) [
  | inl before ↦ all store before
  | inr same ↦ subst (λ (s : Listed). IsNew (stored_in s 0)) (sym same) new
]
pushed false stores one after is all new = λ store among. all store (subst (λ (ss : List Listed). In store ss) is among)

pub loop-preserved : goal.loop-preserved
loop-preserved g c =
    pushed _ c.loop.stores.items c.make.result c.push-put.new.self.items c.push-put.ensures.items c.loop.invariant (record {
      records = record { each = λ slot. ap (λ (entries : List (Slot × SlotRecord)). record_at entries slot) c.make.ensures.entries };
      started = c.make.ensures.started;
    })
