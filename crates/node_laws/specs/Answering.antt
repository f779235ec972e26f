-- What an acceptor answers is what the actor of the model answers.
use Rattle.std.specs.Prelude.{◌≡◌, ℕ, [], ◌∷◌}
use Rattle.mc_model.specs.synod.Packet.{Packet, Slot}
use Rattle.mc_model.specs.synod.Acceptor.{Records, with_record}
use Rattle.mc_model.specs.node.Act.{Act}
use Rattle.mc_model.specs.node.Actor.{Actor}
use Rattle.mc_model.specs.node.Core.{AcceptorReplies}
use Rattle.mc_model.specs.node.Effect.{packets_by, records_by}
use Rattle.node_model.specs.Acceptor.{Judgement}

-- By one act the actor answers a packet with what is judged, and leaves the record of it.
pub record IsAnswered (node : ℕ) (a : Actor) (records : Records) (packet : Packet) (slot : Slot) (judged : Judgement) : Type 0 where
  pub act : Act
  pub answers : AcceptorReplies records packet (act ∷ [])
  pub sends : packets_by node a records act ≡ judged.answer ∷ []
  pub leaves : (other : Slot) → records_by records act other ≡ with_record records slot judged.after other
