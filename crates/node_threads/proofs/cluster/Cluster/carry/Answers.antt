use Rattle.std.proofs.Common.{rules, ℕ, List, inl, inr, sym, subst}
use Rattle.mc_model.specs.synod.Lists.{In}
use Rattle.node_threads.proofs.CarriedSlips.{carries_both, come_before, come_later}
use Rattle.node_threads.proofs.cluster.Cluster.carry.Goals as goal

pub returns-in_err-take_saving-clause-carries : goal.returns-in_err-take_saving-clause-carries
returns-in_err-take_saving-clause-carries g c =
    carries_both c.args.node c.args.seat.now.slips c.take_each.new.seat.slips c.take_saving.new.seat.slips c.in_ok-take_each.ensures.carries
    c.take_saving.ensures.carries

pub returns-clause-carries : goal.returns-clause-carries
returns-clause-carries g c =
    carries_both c.args.node c.args.seat.now.slips c.take_each.new.seat.slips c.take_saving.new.seat.slips c.in_ok-take_each.ensures.carries
    c.take_saving.ensures.carries

pub returns-clause-all : goal.returns-clause-all
returns-clause-all g c = λ number above below.
    elim (c.in_ok-batch.ensures number above (search rules)) [
      | inl saving ↦ come_later c.args.node number c.args.seat.now.slips c.take_each.new.seat.slips c.take_saving.new.seat.slips
          c.in_ok-take_each.ensures.carries (c.in_ok-take_saving.ensures.all number (subst (λ (ns : List ℕ). In number ns) (sym c.as_slice-2.ensures.value) saving))
      | inr others ↦ come_before c.args.node number c.args.seat.now.slips c.take_each.new.seat.slips c.take_saving.new.seat.slips
          (c.in_ok-take_each.ensures.all number (subst (λ (ns : List ℕ). In number ns) (sym c.as_slice.ensures.value) others)) c.take_saving.ensures.carries
    ]
