use Rattle.std.proofs.Common.{Err, subst}
use Rattle.world.specs.Runs.{Leads}
use Rattle.world.specs.declared.fault.WorldFault.{WorldFault}
use Rattle.world.specs.Step.TheVariants as steps
use Rattle.script_site.proofs.Concluding.{closed_goes, concluded_so}
use Rattle.script_site.proofs.steps.conclude.Goals as goal

pub returns-in-Ok : goal.returns-in-Ok
returns-in-Ok c =
    concluded_so c.args.node c.args.slot c.args.outcome c.args.world.now c.step.new.self c.in-Ok.given
    (record { leads = c.in-Ok.ensures.leads; up = c.in-Ok.ensures.up })

pub returns-in-Err-NotGranted : goal.returns-in-Err-NotGranted
returns-in-Err-NotGranted c = closed_goes c.args.node c.args.slot c.args.outcome c.args.world.now c.step.new.self
    (subst (λ (fault : WorldFault). Leads c.args.world.now (steps.Answered c.args.node c.args.slot c.args.outcome) (Err fault) c.step.new.self)
    c.in-Err-NotGranted.field-0-is c.in-Err-NotGranted.ensures.leads)
