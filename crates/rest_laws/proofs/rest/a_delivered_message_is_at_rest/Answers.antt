use Rattle.rest_laws.proofs.without.Delivered.{delivered_rests}
use Rattle.rest_laws.proofs.rest.a_delivered_message_is_at_rest.Goals as goal

pub returns : goal.returns
returns c = delivered_rests
