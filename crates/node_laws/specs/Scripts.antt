-- One node by itself: what it answers to a list of inputs, with its packets delivered to itself after each.
use Rattle.std.specs.Prelude.{ℕ, zero, suc, List, [], ◌∷◌, ◌++◌}
use Rattle.mc_model.specs.synod.Packet.{Packet}
use Rattle.mc_model.specs.node.Input.{Delivery, Input}
use Rattle.mc_model.specs.node.Outputs.{Receipt, Reply}
use Rattle.mc_model.specs.node.Setup.{Setup}
use Rattle.node_model.specs.Kept.{Kept}
use Rattle.node_model.specs.Outputs.{Stepped}
use Rattle.node_model.specs.Stepped.{stepped}

-- what a node keeps, and the packets, replies and receipts that it gave, the oldest first
pub record Played : Type 0 where
  pub kept : Kept
  pub packets : List Packet
  pub replies : List Reply
  pub receipts : List Receipt

abbrev pub begins_with : Kept → Played
begins_with k = record { kept = k; packets = []; replies = []; receipts = [] }

abbrev pub added : Played → Stepped → Played
added played step = record {
  kept = step.kept;
  packets = played.packets ++ step.outputs.packets;
  replies = played.replies ++ step.outputs.replies;
  receipts = played.receipts ++ step.outputs.receipts;
}

-- the packets that wait are delivered in their order, those that they lead to after them; so many deliveries are made at most
abbrev pub settled : Setup → ℕ → Played → List Packet → Played
settled setup zero played packets = played
settled setup (suc most) played [] = played
settled setup (suc most) played (packet ∷ others) =
    let step : Stepped = stepped setup played.kept (Delivery packet) in settled setup most (added played step) (others ++ step.outputs.packets)

abbrev pub played_then : Setup → Played → Stepped → Played
played_then setup played step = settled setup 20 (added played step) step.outputs.packets

abbrev pub played : Setup → Played → List Input → Played
played setup before [] = before
played setup before (input ∷ others) = played setup (played_then setup before (stepped setup before.kept input)) others
