use Rattle.std.proofs.Common.{◌≡◌, ◌+◌, ℕ, Result, Ok, ap, subst, ◌∙◌}
use Rattle.std.specs.Prelude.{IfOk}
use Rattle.mc_model.specs.node.Setup.{Setup}
use Rattle.mc_types.specs.declared.fault.TypeFault.{TypeFault}
use Rattle.node_runs.specs.Setups.{setup_with}
use Rattle.world.specs.Members.{IsOpened}
use Rattle.world.proofs.Starting.{pushed}
use Rattle.world.proofs.world.opened.Goals as goal

made : (result : Result Setup TypeFault) (setup one : Setup) → result ≡ Ok setup → IfOk result (λ made. made ≡ one) → setup ≡ one
made result setup one is value = subst (λ (r : Result Setup TypeFault). IfOk r (λ made. made ≡ one)) is value

pub loop-place-preserved : goal.loop-place-preserved
loop-place-preserved c =
    let setup : c.unwrap-setup.result ≡ setup_with (c.loop-place.place + 1) c.args.nodes c.args.first_serial c.args.default_validity =
    made c.make.result c.unwrap-setup.result (setup_with c.of.result c.args.nodes c.args.first_serial c.args.default_validity) c.unwrap-setup.ensures
    c.make.ensures.value
    ∙ ap (λ (n : ℕ). setup_with n c.args.nodes c.args.first_serial c.args.default_validity) c.of.ensures in
    pushed c.args.nodes c.args.first_serial c.args.default_validity c.loop-place.place c.loop-place.members.items c.in_ok-open.field-0 c.push.new.self.items
    c.loop-place.invariant (subst (λ (s : Setup). IsOpened s c.in_ok-open.field-0) setup c.in_ok-open.ensures) c.in_ok-push.ensures.items
