-- What a node does if an attempt is asked for, and if its outcome comes.
use Rattle.std.specs.Prelude.{ℕ, true, ◌==◌, ◌&&◌, not, is_some, List, [], ◌∷◌, length, Option, Some, None, if◌then◌else◌}
use Rattle.mc_model.specs.message.Decree.{Attempt, Decree, Failed, Fate, Kind, Taken, Told}
use Rattle.mc_model.specs.message.Chain.{taken_in}
use Rattle.mc_model.specs.synod.Packet.{Slot, same_slot, slot_of}
use Rattle.mc_model.specs.node.Grant.{AlreadyGranted, Closed, GrantRefusal, NotChosen, NotMine, OlderIncarnation}
use Rattle.mc_model.specs.node.Outcome.{Outcome, decree_of}
use Rattle.mc_model.specs.node.Setup.{Setup}
use Rattle.node_model.specs.Message.{Message}
use Rattle.node_model.specs.Kept.{Kept, message_at, with_message}
use Rattle.node_model.specs.Proposer.{Prepared, Start, started}
use Rattle.node_model.specs.Starts.{start_behind}
use Rattle.node_model.specs.Outputs.{Stepped, nothing, sends}

-- ---- a grant

-- why it is refused, by the newest decree of what is known and its place
abbrev pub own_refusal : Message → ℕ → Option GrantRefusal
own_refusal m place =
    if m.granted place then Some AlreadyGranted else if is_some (m.closed place) then Some Closed else None

abbrev pub attempt_refusal : Setup → Kept → Message → Decree → ℕ → Option GrantRefusal
attempt_refusal setup k m newest place =
    if not (newest.author.node == setup.node) then Some NotMine
    else if not (newest.author.incarnation == k.incarnation) then Some OlderIncarnation
    else own_refusal m place

abbrev pub newest_refusal : Setup → Kept → Message → Decree → ℕ → Kind → Option GrantRefusal
newest_refusal setup k m newest place (Taken message) = Some NotChosen
newest_refusal setup k m newest place (Attempt number) = attempt_refusal setup k m newest place
newest_refusal setup k m newest place (Failed error) = Some NotChosen
newest_refusal setup k m newest place (Fate final error) = Some NotChosen
newest_refusal setup k m newest place Told = Some NotChosen

abbrev pub known_refusal : Setup → Kept → Message → Option (List Decree) → Option GrantRefusal
known_refusal setup k m None = Some NotChosen
known_refusal setup k m (Some []) = Some NotChosen
known_refusal setup k m (Some (newest ∷ older)) = newest_refusal setup k m newest (length older) newest.kind

abbrev pub grant_refusal : Setup → Kept → ℕ → Option GrantRefusal
grant_refusal setup k id = known_refusal setup k (message_at k id) (message_at k id).known

abbrev pub on_grant : Kept → Slot → Stepped
on_grant k slot = record {
  kept = with_message k slot.id (record (message_at k slot.id) {
    granted = λ other. if other == slot.place then true else (message_at k slot.id).granted other;
  });
  outputs = record nothing { granted = Some slot };
}

-- ---- an outcome

abbrev pub closed_by : Kept → Slot → Outcome → Kept
closed_by k slot outcome = with_message k slot.id (record (message_at k slot.id) {
  closed = λ other. if other == slot.place then Some outcome else (message_at k slot.id).closed other;
})

-- its decree is due if the attempt is the newest that is known
abbrev pub concluded : Setup → Kept → Slot → Outcome → Option (List Decree) → Option Start
concluded setup k slot outcome None = None
concluded setup k slot outcome (Some []) = None
concluded setup k slot outcome (Some (newest ∷ older)) =
    if same_slot slot (slot_of slot.id (newest ∷ older)) && is_some (taken_in (newest ∷ older))
    then Some (start_behind setup k newest older (decree_of outcome))
    else None

abbrev pub concluded_then : Prepared → Stepped
concluded_then prepared = sends prepared.kept prepared.packets [] []

abbrev pub on_response : Setup → Kept → Slot → Outcome → Stepped
on_response setup k slot outcome =
    concluded_then (started setup (closed_by k slot outcome) slot.id (concluded setup k slot outcome (message_at k slot.id).known))
