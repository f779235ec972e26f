-- Outputs that are the same.
use Rattle.std.specs.Prelude.{◌≡◌}
use Rattle.node_parts.specs.declared.outputs.Outputs.{Outputs}

pub record AreAlike (one other : Outputs) : Type 0 where
  pub ticket : other.ticket ≡ one.ticket
  pub refused : other.refused ≡ one.refused
  pub packets : other.packets.items ≡ one.packets.items
  pub replies : other.replies.items ≡ one.replies.items
  pub receipts : other.receipts.items ≡ one.receipts.items
  pub granted : other.granted ≡ one.granted
