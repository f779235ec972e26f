use Rattle.std.proofs.Common.{Err, subst}
use Rattle.world.specs.Runs.{Leads}
use Rattle.world.specs.declared.fault.WorldFault.{WorldFault}
use Rattle.world.specs.Step.TheVariants as steps
use Rattle.script_site.proofs.Granting.{grants_so, refuses_so}
use Rattle.script_site.proofs.steps.grant.Goals as goal

pub returns-in-Some : goal.returns-in-Some
returns-in-Some c =
    grants_so c.args.node c.args.id c.args.world.now c.step.new.self c.in-Ok.given c.in-Some.chain
    (record { leads = c.in-Ok.ensures.leads; up = c.in-Ok.ensures.up }) c.in-Some.is

pub returns-in-Err-Grant : goal.returns-in-Err-Grant
returns-in-Err-Grant c =
    refuses_so c.args.node c.args.id c.args.world.now c.step.new.self c.in-Err-Grant.refusal c.number.result
    (subst (λ (fault : WorldFault). Leads c.args.world.now (steps.Grant c.args.node c.args.id) (Err fault) c.step.new.self) c.in-Err-Grant.field-0-is
    c.in-Err-Grant.ensures.leads) c.number.ensures
