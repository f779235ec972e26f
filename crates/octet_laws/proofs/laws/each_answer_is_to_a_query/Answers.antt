use Rattle.octet_laws.proofs.Queried.{answers_a_query}
use Rattle.octet_laws.proofs.laws.each_answer_is_to_a_query.Goals as goal

pub returns : goal.returns
returns c = answers_a_query
