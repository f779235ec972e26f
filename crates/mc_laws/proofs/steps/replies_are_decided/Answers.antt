use Rattle.mc_laws.proofs.step.Decided.{settles_once, asks_once, abandons_once, late_once, replies_once, reports_once}
use Rattle.mc_laws.proofs.steps.replies_are_decided.Goals as goal

pub returns-clause-settles : goal.returns-clause-settles
returns-clause-settles c = settles_once

pub returns-clause-asks : goal.returns-clause-asks
returns-clause-asks c = asks_once

pub returns-clause-abandons : goal.returns-clause-abandons
returns-clause-abandons c = abandons_once

pub returns-clause-late : goal.returns-clause-late
returns-clause-late c = late_once

pub returns-clause-replies : goal.returns-clause-replies
returns-clause-replies c = replies_once

pub returns-clause-reports : goal.returns-clause-reports
returns-clause-reports c = reports_once
