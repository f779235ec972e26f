-- A worked row: the first message of a node alone, whose receipt it told in its first life, and its note (own).
use Rattle.std.specs.Prelude.{ℕ, Bool, ◌==◌, [], ◌∷◌}
use Rattle.mc_model.specs.synod.OneSlot.{vote_at}
use Rattle.mc_model.specs.synod.Packet.{slot_of}
use Rattle.mc_parts.specs.FirstMessage.{first_id, told}
use Rattle.node_laws.specs.Examples.{first_ballot}
use Rattle.rest_laws.specs.Notes.{Note}

abbrev pub first_note : Note
first_note = record { slot = slot_of first_id told; vote = vote_at first_ballot told; voters = 1 ∷ [] }

abbrev pub first_gone : ℕ → Bool
first_gone id = id == first_id
