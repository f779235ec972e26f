-- A node by itself settles: each packet that it sends is delivered once, to itself, in the order of sending (own).
use Rattle.std.specs.Prelude.{◌≡◌, ◌⊎◌, ℕ, zero, suc, List, [], ◌∷◌, ◌++◌, length, Some, ◌+◌, ◌*◌, ◌≤◌}
use Rattle.mc_model.specs.message.Decree.{Decree}
use Rattle.mc_model.specs.synod.Packet.{Packet}
use Rattle.mc_model.specs.node.Input.{Delivery}
use Rattle.mc_model.specs.node.Outputs.{Receipt, Reply}
use Rattle.mc_model.specs.node.Setup.{Setup}
use Rattle.node_model.specs.Kept.{Kept}
use Rattle.node_model.specs.Attempts.{concluded_then}
use Rattle.node_model.specs.Outputs.{Stepped}
use Rattle.node_model.specs.Proposer.{started}
use Rattle.node_model.specs.Stepped.{stepped}
use Rattle.table_laws.specs.Tables.{TableNode}
use Rattle.table_laws.specs.Resting.{IsResting}

-- what a node keeps, the packets that are still to be delivered, and what it gave out; all lists have the oldest first
pub record Settling : Type 0 where
  pub kept : Kept
  pub packets : List Packet
  pub replies : List Reply
  pub receipts : List Receipt

abbrev pub begins_with : Stepped → Settling
begins_with step = record {
  kept = step.kept;
  packets = step.outputs.packets;
  replies = step.outputs.replies;
  receipts = step.outputs.receipts;
}

-- the packets that a step sends come behind these
abbrev pub goes_on : Settling → List Packet → Stepped → Settling
goes_on s others step = record {
  kept = step.kept;
  packets = others ++ step.outputs.packets;
  replies = s.replies ++ step.outputs.replies;
  receipts = s.receipts ++ step.outputs.receipts;
}

-- the first of these packets is delivered
abbrev pub first_delivered : Setup → Settling → List Packet → Settling
first_delivered setup s [] = s
first_delivered setup s (packet ∷ others) = goes_on s others (stepped setup s.kept (Delivery packet))

-- so many are
abbrev pub delivered : Setup → ℕ → Settling → Settling
delivered setup zero s = s
delivered setup (suc more) s = delivered setup more (first_delivered setup s s.packets)

-- a round takes four deliveries, that of a Told behind it four more, and a question two
abbrev pub most_deliveries : TableNode → ℕ
most_deliveries t = 10 + 8 * length t.table

-- No reply comes behind a receipt: after each number of deliveries no receipt was given out yet, or all of these replies were.
abbrev pub IsOrderly : Setup → Settling → List Reply → Type 0
IsOrderly setup s replies = (n : ℕ) → ((delivered setup n s).receipts ≡ []) ⊎ ((delivered setup n s).replies ≡ replies)

-- After a step, which by itself answers nobody and gives out no receipt, a node settles on a table: after so many deliveries no packet
-- is left, it is at rest on that table, and it gave out these replies and receipts, and no reply behind a receipt.
pub record SettlesOn (setup : Setup) (step : Stepped) (t : TableNode) (replies : List Reply) (receipts : List Receipt) : Type 0 where
  pub replies_later : step.outputs.replies ≡ []
  pub receipts_later : step.outputs.receipts ≡ []
  pub deliveries : ℕ
  pub few : deliveries ≤ most_deliveries t
  pub left : (delivered setup deliveries (begins_with step)).packets ≡ []
  pub resting : IsResting (delivered setup deliveries (begins_with step)).kept t
  pub replies_are : (delivered setup deliveries (begins_with step)).replies ≡ replies
  pub receipts_are : (delivered setup deliveries (begins_with step)).receipts ≡ receipts
  pub ordered : IsOrderly setup (begins_with step) replies

-- a round starts for the next decree on a chain
abbrev pub round_begun : Setup → Kept → ℕ → Decree → List Decree → Stepped
round_begun setup k id decree chain =
    concluded_then (started setup k id (Some (record { place = length chain; chain = decree ∷ chain })))
