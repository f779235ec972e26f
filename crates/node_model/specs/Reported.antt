-- The receipt of a message, by its chain (own).
use Rattle.mc_model.specs.message.Chain.{Chain}
use Rattle.mc_model.specs.node.Outputs.{Receipt}

abbrev pub receipt_of : Chain → Receipt
receipt_of chain = record { id = chain.id; chain = chain.decrees }
