-- Steps of a node by itself: what they share, and a node at which nothing waits.
use Rattle.std.specs.Prelude.{ℕ, List, [], ◌∷◌, true, false, Bool}
use Rattle.mc_model.specs.message.Decree.{Decree, Kind}
use Rattle.mc_model.specs.message.Submission.{Submission}
use Rattle.mc_model.specs.node.Actor.{Actor, opened}
use Rattle.mc_model.specs.node.Alone.{Node}
use Rattle.mc_model.specs.node.Outcome.{Outcome}
use Rattle.mc_model.specs.node.Setup.{Setup}
use Rattle.mc_model.specs.synod.Acceptor.{Records, blank}
use Rattle.mc_model.specs.synod.Ballot.{ballot_of}
use Rattle.mc_model.specs.synod.OneSlot.{vote_at}
use Rattle.mc_model.specs.synod.Packet.{Slot, slot_of, Voted}
use Rattle.mc_model.specs.node.Reach.{Reach, of_all}
use Rattle.mc_laws.specs.Stories.{attempted_chain, first_ballot, first_id}

-- every account has a session that may receive, or none has
abbrev pub all_up : Reach
all_up = of_all (λ account. true)

abbrev pub none_up : Reach
none_up = of_all (λ account. false)

-- every account has one, and an attempt may begin of no message
abbrev pub none_begin : Reach
none_begin = record { up = λ account. true; may = λ id. false }

abbrev pub no_records : Records
no_records = λ slot. blank

-- a node that knows a chain of its first message to be chosen, in an incarnation and at a clock, and has granted and closed these
-- attempts
abbrev pub knowing : ℕ → ℕ → List Decree → List Slot → List (Slot × Outcome) → Actor
knowing incarnation clock chain granted closed = record {
  up = true;
  incarnation = incarnation;
  clock = clock;
  serial = 2;
  ticket = 1;
  received = Voted 1 (slot_of first_id chain) (vote_at first_ballot chain) ∷ [];
  waiting = [];
  sent = [];
  before_tick = 0;
  offers = [];
  granted = granted;
  closed = closed;
}

abbrev pub node_of_actor : Actor → Node
node_of_actor a = record { actor = a; records = no_records; began = no_records }

-- the ballot of its first round for a slot in an incarnation
abbrev pub opening_ballot : ℕ → ℕ
opening_ballot incarnation = ballot_of 1 incarnation 1

-- a decree of the node in an incarnation
abbrev pub decreed_in : ℕ → ℕ → Kind → Decree
decreed_in incarnation moment kind =
    record { author = record { node = 1; incarnation = incarnation }; moment = moment; kind = kind }

abbrev pub among_three : Setup
among_three = record { node = 1; nodes = 3; first_serial = 1; default_validity = 259200 }

-- a node that has given all its serials
abbrev pub used_up : Actor
used_up = record (opened 1 1) { serial = 100000 }

-- the attempt of the first message
abbrev pub first_attempt : Submission → Slot
first_attempt message = slot_of first_id (attempted_chain message)
