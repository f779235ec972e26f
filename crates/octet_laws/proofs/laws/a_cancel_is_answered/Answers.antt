use Rattle.octet_laws.proofs.Example.{cancel_answered}
use Rattle.octet_laws.proofs.laws.a_cancel_is_answered.Goals as goal

pub returns : goal.returns
returns c = cancel_answered
