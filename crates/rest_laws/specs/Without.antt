-- A node without the messages that it dropped (own).
use Rattle.std.specs.Prelude.{◌≡◌, ℕ, Bool, false, not, filter, List, [], ◌∷◌, if◌then◌else◌}
use Rattle.mc_model.specs.node.Actor.{id_in}
use Rattle.mc_model.specs.node.Input.{Arrival, Crash, Delivery, Grant, Input, Refusal, Response, Restart, Tick}
use Rattle.mc_model.specs.node.Setup.{Setup}
use Rattle.mc_model.specs.synod.Acceptor.{blank}
use Rattle.mc_model.specs.synod.Packet.{Ask, Packet, Prepare, Promise, Propose, Refused, Tell, Voted}
use Rattle.node_model.specs.Kept.{Kept}
use Rattle.node_model.specs.Outputs.{Stepped}
use Rattle.node_laws.specs.Runs.{kept_after, kept_outputs}
use Rattle.rest_laws.specs.AtRest.{AreAtRest}

-- what a node keeps without the messages that are gone: neither what it knew of them, nor their records
abbrev pub without : (ℕ → Bool) → Kept → Kept
without gone k = record k {
  records = λ slot. if gone slot.id then blank else k.records slot;
  messages = filter (λ entry. not (gone entry.0)) k.messages;
}

-- a step that leaves just that
abbrev pub step_without : (ℕ → Bool) → Stepped → Stepped
step_without gone s = record { kept = without gone s.kept; outputs = s.outputs }

-- ---- what comes is not about a message that is gone

-- what is told to a question is told to a request that waits
abbrev pub SparesPacket : (ℕ → Bool) → Packet → Type 0
SparesPacket gone (Prepare sender slot ballot) = gone slot.id ≡ false
SparesPacket gone (Promise sender slot ballot report) = gone slot.id ≡ false
SparesPacket gone (Propose sender slot vote) = gone slot.id ≡ false
SparesPacket gone (Voted sender slot vote) = gone slot.id ≡ false
SparesPacket gone (Refused sender slot ballot promised) = gone slot.id ≡ false
SparesPacket gone (Ask sender id name) = gone id ≡ false
SparesPacket gone (Tell sender name told) = Unit {0}

-- a start anew is none of these: it is about all
abbrev pub Spares : (ℕ → Bool) → Input → Type 0
Spares gone (Delivery packet) = SparesPacket gone packet
Spares gone (Crash packet after) = SparesPacket gone packet
Spares gone (Arrival request) = gone (id_in request) ≡ false
Spares gone (Refusal status) = Unit {0}
Spares gone (Tick moment reach) = Unit {0}
Spares gone (Grant slot) = gone slot.id ≡ false
Spares gone (Response slot outcome) = gone slot.id ≡ false
Spares gone (Restart lost) = ⊥

-- nothing that comes, the newest first, is about them
abbrev pub AllSpare : (ℕ → Bool) → List Input → Type 0
AllSpare gone [] = Unit {0}
AllSpare gone (newest ∷ older) = Spares gone newest × AllSpare gone older

-- Without them the node gives out the same by these inputs, and keeps the same but for them, and they are at rest then.
pub record DoesWithout (setup : Setup) (gone : ℕ → Bool) (k : Kept) (inputs : List Input) : Type 0 where
  pub kept : kept_after setup (without gone k) inputs ≡ without gone (kept_after setup k inputs)
  pub given : kept_outputs setup (without gone k) inputs ≡ kept_outputs setup k inputs
  pub rest : AreAtRest gone (kept_after setup k inputs)
