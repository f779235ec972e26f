use Rattle.std.proofs.Common.{◌∙◌, sym}
use Rattle.script_site.proofs.Concluding.{answer_goes_on, end_goes_on}
use Rattle.script_site.proofs.steps.conclude_heeded.Goals as goal

pub returns-in-Answer : goal.returns-in-Answer
returns-in-Answer c =
    answer_goes_on c.args.node c.args.world.now c.conclude_by.new.world c.conclude_by.result c.args.heeded c.in-Answer.pushed c.in-Answer.pdu
    c.outcome_of-outcome.result c.in-Answer.is (rw c.pdu.ensures at c.outcome_of-outcome.ensures) c.conclude_by.ensures

pub returns-in-Gone : goal.returns-in-Gone
returns-in-Gone c =
    end_goes_on c.args.node c.args.world.now c.give_up.new.world c.give_up.result c.args.heeded _ c.in-Gone.abandoned _ c.in-Gone.is c.as_slice.ensures
    c.give_up.ensures
