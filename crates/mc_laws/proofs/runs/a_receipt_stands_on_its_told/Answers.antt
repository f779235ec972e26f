use Rattle.mc_laws.proofs.invariant.Receipts.{report_chosen, report_known, reported}
use Rattle.mc_laws.proofs.runs.a_receipt_stands_on_its_told.Goals as goal

pub returns-clause-told : goal.returns-clause-told
returns-clause-told c = λ run. reported run.nodes run.serials run.acts run.may

pub returns-clause-chosen : goal.returns-clause-chosen
returns-clause-chosen c = λ run. report_chosen run.nodes run.serials run.acts run.may

pub returns-clause-known : goal.returns-clause-known
returns-clause-known c = λ run. report_known run.nodes run.serials run.acts run.may
