-- A node that forgot what it heard and did of messages that are over, but for the chains that it knows (own).
use Rattle.std.specs.Prelude.{◌≡◌, ℕ, Bool, true, false, List, map, Some, None, if◌then◌else◌}
use Rattle.mc_model.specs.message.Decree.{Decree}
use Rattle.mc_model.specs.node.Actor.{id_in}
use Rattle.mc_model.specs.node.Input.{Arrival, Crash, Delivery, Grant, Input, Refusal, Response, Restart, Tick}
use Rattle.mc_model.specs.node.Setup.{Setup}
use Rattle.mc_model.specs.synod.Lists.{In}
use Rattle.mc_model.specs.synod.Packet.{Packet, Propose, Tell, Voted}
use Rattle.node_model.specs.Acceptor.{told_of}
use Rattle.node_model.specs.Granted.{is_open_in}
use Rattle.node_model.specs.Kept.{Held, Kept, message_at}
use Rattle.node_model.specs.Learner.{is_shorter}
use Rattle.node_model.specs.Message.{Message, unseen}
use Rattle.node_model.specs.Outputs.{Stepped}
use Rattle.node_model.specs.Packets.{is_own_name, tells_about}
use Rattle.node_model.specs.Requests.{asks, held_at, id_of}
use Rattle.node_model.specs.Starts.{follow, is_ahead}
use Rattle.rest_laws.specs.AtRest.{is_over}

-- what is known of a message, and its round
abbrev pub cooled : Message → Message
cooled m = record unseen { known = m.known; round = m.round }

abbrev pub cooled_if : Bool → Message → Message
cooled_if cold m = if cold then cooled m else m

-- no more is left of the messages that are cold, and their records
abbrev pub cool : (ℕ → Bool) → Kept → Kept
cool cold k = record k { messages = map (λ entry. (entry.0, cooled_if (cold entry.0) entry.1)) k.messages }

-- a step that leaves just that
abbrev pub cool_step : (ℕ → Bool) → Stepped → Stepped
cool_step cold s = record { kept = cool cold s.kept; outputs = s.outputs }

-- ---- what may be cold

-- A chain that is over is known, and nothing stands beyond it: no own vote, and nothing that was told to a request that waits. No round runs, and no submit_sm
-- of it waits.
pub record IsCalm (k : Kept) (id : ℕ) : Type 0 where
  pub chain : List Decree
  pub known : (message_at k id).known ≡ Some chain
  pub over : is_over chain ≡ true
  pub round : (message_at k id).round ≡ None
  pub reached : follow (Some chain) (told_of k.records id) ≡ None
  pub asking : (h : Held) → In h k.held → id_of h ≡ id → asks h.waiting.request ≡ true
  pub told : (h : Held) → In h k.held → id_of h ≡ id → follow (Some chain) h.top ≡ None

-- all that are cold are so
abbrev pub AreCalm : (ℕ → Bool) → Kept → Type 0
AreCalm cold k = (id : ℕ) → cold id ≡ true → IsCalm k id

-- and no attempt is open
abbrev pub AreShut : (ℕ → Bool) → Kept → Type 0
AreShut cold k = (id : ℕ) → cold id ≡ true → (place : ℕ) → is_open_in (message_at k id) place ≡ false

-- ---- what may come then

-- no vote of such a message is beyond its chain, and no Tell to a question of the node's own
abbrev pub SuitsPacket : Setup → (ℕ → Bool) → Kept → Packet → Type 0
SuitsPacket setup cold k (Voted sender slot vote) = cold slot.id ≡ true → is_shorter (message_at k slot.id).known vote.chain ≡ false
SuitsPacket setup cold k (Tell sender name told) =
    is_own_name setup k name ≡ true → (h : Held) → held_at k.held name.ticket ≡ Some h → cold (id_of h) ≡ true → tells_about told (id_of h) ≡ true →
    follow (message_at k (id_of h)).known told ≡ None
SuitsPacket setup cold k packet = Unit {0}

-- it was taken before, and no attempt of it is granted or answered
abbrev pub Suits : Setup → (ℕ → Bool) → Kept → Input → Type 0
Suits setup cold k (Delivery packet) = SuitsPacket setup cold k packet
Suits setup cold k (Crash packet after) = Unit {0}
Suits setup cold k (Arrival request) = asks request ≡ false → cold (id_in request) ≡ false
Suits setup cold k (Refusal status) = Unit {0}
Suits setup cold k (Tick moment reach) = Unit {0}
Suits setup cold k (Grant slot) = cold slot.id ≡ false
Suits setup cold k (Response slot outcome) = cold slot.id ≡ false
Suits setup cold k (Restart lost) = Unit {0}

-- ---- by what it stays calm

-- nothing is proposed beyond its chain
abbrev pub KeepsCalmPacket : (ℕ → Bool) → Kept → Packet → Type 0
KeepsCalmPacket cold k (Propose sender slot vote) = cold slot.id ≡ true → is_ahead (message_at k slot.id).known slot.place ≡ false
KeepsCalmPacket cold k packet = Unit {0}

-- and the node does not start anew
abbrev pub KeepsCalm : (ℕ → Bool) → Kept → Input → Type 0
KeepsCalm cold k (Delivery packet) = KeepsCalmPacket cold k packet
KeepsCalm cold k (Crash packet after) = KeepsCalmPacket cold k packet
KeepsCalm cold k (Restart lost) = ⊥
KeepsCalm cold k input = Unit {0}
