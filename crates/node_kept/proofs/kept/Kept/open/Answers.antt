use Rattle.std.proofs.Common.{◌≤◌, ap, subst, refl}
use Rattle.mc_model.specs.node.Setup.{Setup}
use Rattle.waiting_requests.specs.Waiting.{held_in}
use Rattle.node_kept.specs.declared.kept.Kept.{Kept as Holding}
use Rattle.node_kept.proofs.Opening.{opens_empty}
use Rattle.node_kept.proofs.kept.Kept.open.Goals as goal

pub returns : goal.returns
returns c =
    let empty : Holding = record {
      alloc = c.args.alloc;
      setup = c.args.setup;
      incarnation = c.args.incarnation;
      clock = c.least.result;
      serial = c.setup.inside.first_serial;
      given = 0;
      queue = c.in_ok-make.field-0;
      messages = c.empty.result;
    } in
    let first : 1 ≤ c.args.setup.first_serial = subst (λ (s : Setup). 1 ≤ s.first_serial) c.setup.view_is c.setup.invariant.serial.least in
    c.in_ok-file_all.ensures c.args.setup c.args.incarnation
    (opens_empty c.args.setup c.args.incarnation empty refl refl c.least.ensures (ap (λ (s : Setup). s.first_serial) c.setup.view_is) refl
    (ap held_in c.in_ok-make.ensures) c.empty.ensures first)
