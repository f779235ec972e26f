-- What a node does with a vote that concerns it, or does not.
use Rattle.std.specs.Prelude.{◌≡◌, ℕ, Bool, ◌==◌, ◌||◌, not, Some, if◌then◌else◌}
use Rattle.mc_model.specs.message.Ids.{node_of}
use Rattle.mc_model.specs.synod.OneSlot.{Vote}
use Rattle.mc_model.specs.synod.Packet.{Slot}
use Rattle.mc_model.specs.node.Setup.{Setup}
use Rattle.node_model.specs.Kept.{Kept}
use Rattle.node_model.specs.Outputs.{Stepped, leaves}
use Rattle.node_model.specs.Packets.{on_voted, vote_concerns, was_given}
use Rattle.shelf.specs.Shelved.{value_at}
use Rattle.synod_acceptor.specs.declared.vote.Vote.{Vote as Cast}
use Rattle.node_parts.specs.declared.message.Message.{Message as Filed}
use Rattle.node_parts.specs.Counting.{IsHeardAnew}
use Rattle.node_kept.specs.declared.kept.Kept.{Kept as Holding}
use Rattle.node_kept.specs.declared.step.Counted.{Counted}

-- of a vote in the slot of its chain
abbrev pub id_concerns : Setup → Kept → ℕ → Bool
id_concerns setup k id = not (node_of id == setup.node) || was_given k id

abbrev pub voted_in : Setup → Kept → ℕ → Slot → Vote → Stepped
voted_in setup k voter slot vote = if vote_concerns setup k slot vote then on_voted setup k voter slot vote else leaves k

-- the vote of which a node tells is counted so, and nothing becomes known
pub record IsCountedSo (k : Holding) (sender : ℕ) (vote : Cast) (c : Counted) : Type 0 where
  pub about : c.id ≡ vote.chain.id
  pub message : Filed
  pub kept : value_at k.messages.entries vote.chain.id ≡ Some message
  pub heard : IsHeardAnew message sender vote c.recount
