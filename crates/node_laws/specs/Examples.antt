-- Worked rows of a cluster of one node, and of one of three.
use Rattle.std.specs.Prelude.{ℕ, Bool, true, false, List, [], ◌∷◌, ◌++◌}
use Rattle.mc_model.specs.node.Reach.{Reach, of_all}
use Rattle.mc_model.specs.message.Decree.{Attempt, Decree, Deleted, Delivered, Failed, Fate, Kind}
use Rattle.mc_model.specs.synod.Packet.{Slot, slot_at}
use Rattle.mc_model.specs.node.Actor.{Cancel, Query, Submit}
use Rattle.mc_model.specs.node.Input.{Arrival, Grant, Input, Response, Restart, Tick}
use Rattle.mc_model.specs.node.Outcome.{Concluded}
use Rattle.mc_model.specs.node.Setup.{Setup}
use Rattle.mc_parts.specs.FirstMessage.{account, attempted, decreed, first_id, message, midnight, sender, taken}
use Rattle.node_model.specs.Stepped.{opened_new}
use Rattle.node_laws.specs.Scripts.{Played, begins_with, played}

abbrev pub first_slot : Slot
first_slot = slot_at first_id 0

-- round 1 of node 1 in its first incarnation
abbrev pub first_ballot : ℕ
first_ballot = 262161

abbrev pub deleted : List Decree
deleted = decreed (Fate Deleted 0) ∷ taken

abbrev pub alone : Setup
alone = record { node = 1; nodes = 1; first_serial = 1; default_validity = 259200 }

-- every account is up, or none
abbrev pub all_up : Reach
all_up = of_all (λ text. true)

abbrev pub none_up : Reach
none_up = of_all (λ text. false)

-- all are up, and an attempt may begin of no message
abbrev pub none_begin : Reach
none_begin = record { up = λ text. true; may = λ id. false }

-- the submit_sm comes at midnight
abbrev pub submits : List Input
submits = Tick midnight none_up ∷ Arrival (Submit first_id message) ∷ []

abbrev pub queries : Input
queries = Arrival (Query first_id account sender)

abbrev pub cancels : Input
cancels = Arrival (Cancel first_id account sender [])

abbrev pub played_alone : List Input → Played
played_alone inputs = played alone (begins_with (opened_new alone)) inputs

-- ---- an attempt

abbrev pub attempt_slot : Slot
attempt_slot = slot_at first_id 1

-- it is begun at a tick, granted, and answered ESME_ROK
abbrev pub attempts : List Input
attempts = submits ++ Tick midnight all_up ∷ []

abbrev pub grants : List Input
grants = attempts ++ Grant attempt_slot ∷ []

abbrev pub delivers : List Input
delivers = grants ++ Response attempt_slot (Concluded Delivered 0) ∷ []

-- ---- a restart while an attempt is open

abbrev pub restarts : List Input
restarts = attempts ++ Restart 0 ∷ Tick midnight none_up ∷ []

abbrev pub decreed_again : ℕ → Kind → Decree
decreed_again moment kind = record { author = record { node = 1; incarnation = 2 }; moment = moment; kind = kind }

abbrev pub lost : List Decree
lost = decreed_again midnight (Failed 999) ∷ attempted

abbrev pub loses : List Input
loses = restarts ++ Tick midnight all_up ∷ []

abbrev pub tried_again : List Decree
tried_again = decreed_again 1706659260 (Attempt 2) ∷ lost

-- ---- three nodes, of which no other answers

abbrev pub of_three : Setup
of_three = record { node = 1; nodes = 3; first_serial = 1; default_validity = 259200 }

abbrev pub played_of_three : List Input → Played
played_of_three inputs = played of_three (begins_with (opened_new of_three)) inputs

-- node 3 promised at its round 2
abbrev pub other_ballot : ℕ
other_ballot = 524307

-- node 1 begins its round 3 then
abbrev pub third_ballot : ℕ
third_ballot = 786449
