use Rattle.std.proofs.Common.{◌≡◌, None, Option, rules, inl, refl, sym, subst}
use Rattle.mc_model.specs.node.Input.{Delivery}
use Rattle.node_model.specs.Stepped.{stepped}
use Rattle.synod_acceptor.specs.Packets.{packet_of}
use Rattle.node_kept.specs.declared.join_fault.JoinFault.{JoinFault}
use Rattle.node_kept.specs.declared.join_fault.JoinFault.TheVariants.{Idle}
use Rattle.node_kept.specs.Grouping.{IsJoinFault}
use Rattle.node_kept.proofs.Together.{leaves_others, leaves_same, none_is}
use Rattle.node_kept.proofs.kept.Kept.join.Goals as goal

pub returns-then-is_none-clause-faults : goal.returns-then-is_none-clause-faults
returns-then-is_none-clause-faults c =
    let k = c.args.self.now in
    let none : c.in-Ok-asked_step.step.next.change ≡ None = none_is c.in-Ok-asked_step.step.next.change (search rules) in
    subst (λ (f : Option JoinFault). IsJoinFault k c.args.packet f Idle) (sym c.in-Ok.ensures.allowed)
    (inl (
      refl,
      leaves_same c.in-Ok.id k (λ setup kept. stepped setup kept (Delivery (packet_of c.args.packet))) c.in-Ok-asked_step.step
          (c.in-Ok-asked_step.ensures c.in-Ok.id c.in-Ok.ensures.asked) c.ascends.ensures none,
    ))

pub returns-clause-changes : goal.returns-clause-changes
returns-clause-changes c =
    let k = c.args.self.now in
    leaves_others c.in-Ok.id k (λ setup kept. stepped setup kept (Delivery (packet_of c.args.packet))) c.in-Ok-asked_step.step
    (c.in-Ok-asked_step.ensures c.in-Ok.id c.in-Ok.ensures.asked) c.ascends.ensures (search rules)
