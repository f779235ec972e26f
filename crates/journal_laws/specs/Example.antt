-- A worked journal, of a node alone that took the request of a submit_sm before (own).
use Rattle.std.specs.Prelude.{◌≡◌, ℕ, length, List, [], ◌∷◌, None, Some}
use Rattle.mc_model.specs.synod.OneSlot.{vote_at}
use Rattle.mc_model.specs.synod.Packet.{Packet, Prepare, Promise, Propose, Refused}
use Rattle.mc_model.specs.node.Actor.{Submit}
use Rattle.mc_model.specs.node.Input.{Arrival, Tick}
use Rattle.mc_model.specs.cluster.Steps.{Cluster}
use Rattle.mc_parts.specs.FirstMessage.{first_id, message, midnight, taken}
use Rattle.node_model.specs.Outputs.{nothing}
use Rattle.node_laws.specs.Clusters.{NodeInput, cluster_with, comes_to}
use Rattle.node_laws.specs.Examples.{first_ballot, first_slot, none_up}
use Rattle.node_core.specs.Found.TheVariants.{After}
use Rattle.world_runs.specs.Given.{Given}
use Rattle.world_runs.specs.Step.{Step}
use Rattle.world_runs.specs.Step.TheVariants as steps
use Rattle.world_runs.specs.Runs.{given_out}
use Rattle.journal_laws.specs.Joining.{plainly}
use Rattle.journal_laws.specs.Journals.{Done, Entry}

abbrev pub alone : Cluster
alone = cluster_with 1 1 259200

-- the submit_sm came at midnight, so the first packet is a Prepare
abbrev pub before : List NodeInput
before = comes_to 1 (Arrival (Submit first_id message)) ∷ comes_to 1 (Tick midnight none_up) ∷ []

abbrev pub prepare : Packet
prepare = Prepare 1 first_slot first_ballot

abbrev pub promise : Packet
promise = Promise 1 first_slot first_ballot None

abbrev pub propose : Packet
propose = Propose 1 first_slot (vote_at first_ballot taken)

abbrev pub refused : Packet
refused = Refused 1 first_slot first_ballot first_ballot

-- what gives out so many packets, and nothing else
abbrev pub IsQuiet : (ℕ → Given) → Type 0
IsQuiet quiet = (count : ℕ) → (given_out (quiet count) ≡ nothing) × ((quiet count).packets ≡ count)

abbrev pub taking : (ℕ → Given) → Step → Packet → List Packet → Done
taking quiet step packet sent = record { step = step; packet = Some packet; given = quiet (length sent); sent = sent }

-- The node promises, and proposes; it stops as it has saved its vote, and starts anew; and the Prepare, which comes once more, is refused.
abbrev pub worked : (ℕ → Given) → List Entry
worked quiet =
    plainly (taking quiet (steps.Deliver 1 1) prepare (promise ∷ []))
    ∷ plainly (taking quiet (steps.Deliver 2 1) promise (propose ∷ []))
    ∷ record { done = taking quiet (steps.Restart 1) propose []; unfinished = Some (record { number = 3; found = After }) }
    ∷ plainly (taking quiet (steps.Deliver 1 1) prepare (refused ∷ []))
    ∷ []
