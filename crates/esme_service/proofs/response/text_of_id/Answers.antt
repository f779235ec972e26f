use Rattle.std.proofs.Common.{arith}
use Rattle.esme_service.proofs.Ids.{IsText-decimal}
use Rattle.esme_service.proofs.response.text_of_id.Goals as goal

pub of-requires : goal.of-requires
of-requires c = (omega arith, rw c.text.ensures.text (IsText-decimal c.args.id c.text.ensures.id))
