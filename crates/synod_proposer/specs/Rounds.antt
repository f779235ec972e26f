-- A round of the code, as a round.
use Rattle.std.specs.Prelude.{◌≡◌, Option, IfSome, option_map}
use Rattle.mc_model.specs.synod.OneSlot.{Vote}
use Rattle.mc_model.specs.synod.Packet.{Slot, slot_of}
use Rattle.synod_acceptor.specs.Votes.{slot_in, vote_of}
use Rattle.synod_acceptor.specs.declared.vote.Vote.{Vote as Cast}
use Rattle.synod_proposer.specs.Proposing.{Running}
use Rattle.synod_proposer.specs.declared.round.Round.TheInside.{Inside}

abbrev pub votes_of : Option Cast → Option Vote
votes_of vote = option_map vote_of vote

abbrev pub running_of : Inside → Running
running_of r = record {
  slot = slot_of r.own.id r.own.decrees;
  ballot = r.ballot;
  own = r.own.decrees;
  promised = r.promised;
  highest = votes_of r.highest;
}

-- a vote, if there is one, is of this slot
abbrev pub IsIn : Slot → Option Cast → Type 0
IsIn slot vote = IfSome vote (λ cast. slot_in cast ≡ slot)
