-- What a step leaves and gives out.
use Rattle.std.specs.Prelude.{List, [], None}
use Rattle.mc_model.specs.synod.Packet.{Packet}
use Rattle.mc_model.specs.node.Outputs.{Outputs, Receipt, Reply}
use Rattle.node_model.specs.Kept.{Kept}

pub record Stepped : Type 0 where
  pub kept : Kept
  pub outputs : Outputs

abbrev pub nothing : Outputs
nothing = record { ticket = None; refused = None; packets = []; replies = []; receipts = []; granted = None }

-- nothing goes out
abbrev pub leaves : Kept → Stepped
leaves k = record { kept = k; outputs = nothing }

-- packets, replies and receipts go out
abbrev pub sends : Kept → List Packet → List Reply → List Receipt → Stepped
sends k packets replies receipts = record {
  kept = k;
  outputs = record nothing { packets = packets; replies = replies; receipts = receipts };
}
