-- What an acceptor answers, and the record that it leaves (Paxos Made Simple, 2.2 and 2.5).
use Rattle.std.specs.Prelude.{◌≡◌, ℕ, zero, suc, ◌<◌, nat_le, nat_lt, Option, Some, None, if◌then◌else◌}
use Rattle.mc_model.specs.synod.OneSlot.{Vote}
use Rattle.mc_model.specs.synod.Packet.{Packet, Promise, Refused, Slot, TopVote, Voted, slot_at, top_at}
use Rattle.mc_model.specs.synod.Acceptor.{Records, SlotRecord, after_promise, after_vote}
use Rattle.node_model.specs.Message.{most_places}

pub record Judgement : Type 0 where
  pub answer : Packet
  pub after : SlotRecord

-- a promise is given at a ballot above the one promised
abbrev pub prepare_judged : ℕ → Slot → ℕ → SlotRecord → Judgement
prepare_judged node slot ballot r =
    if nat_lt r.promised ballot
    then record { answer = Promise node slot ballot r.vote; after = after_promise r ballot }
    else record { answer = Refused node slot ballot r.promised; after = r }

-- a vote at one that is not below it
abbrev pub propose_judged : ℕ → Slot → Vote → SlotRecord → Judgement
propose_judged node slot vote r =
    if nat_le r.promised vote.ballot
    then record { answer = Voted node slot vote; after = after_vote vote }
    else record { answer = Refused node slot vote.ballot r.promised; after = r }

-- the vote at the highest place of a message, below this one, at which there is one
abbrev pub told_with : Slot → Option Vote → Option TopVote → Option TopVote
told_with slot None lower = lower
told_with slot (Some vote) lower = Some (top_at slot vote)

abbrev pub told_below : Records → ℕ → ℕ → Option TopVote
told_below records id zero = None
told_below records id (suc place) =
    told_with (slot_at id place) (records (slot_at id place)).vote (told_below records id place)

abbrev pub told_of : Records → ℕ → Option TopVote
told_of records id = told_below records id most_places

-- each vote stands at one of the places of a chain
abbrev pub ArePlaced : Records → Type 0
ArePlaced records = (slot : Slot) (vote : Vote) → (records slot).vote ≡ Some vote → slot.place < most_places
