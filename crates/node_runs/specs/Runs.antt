-- What a node of the code does over a new store, as a run of one actor (own).
use Rattle.std.specs.Prelude.{◌≡◌, ℕ, ◌≤◌, Bool, false, List, [], ◌∷◌, ◌++◌, if◌then◌else◌}
use Rattle.mc_model.specs.synod.Acceptor.{Records, blank}
use Rattle.mc_model.specs.node.Alone.{opened_new as node_new}
use Rattle.mc_model.specs.node.Input.{Crash, Input, Restart}
use Rattle.mc_model.specs.node.Outcome.{IsOutcome}
use Rattle.mc_model.specs.node.Outputs.{Outputs}
use Rattle.mc_model.specs.node.Setup.{Setup}
use Rattle.node_model.specs.Kept.{Kept}
use Rattle.node_model.specs.Outputs.{nothing}
use Rattle.node_model.specs.Stepped.{opened_new, stepped}
use Rattle.node_laws.specs.Runs.{MayCome, RunsAs, kept_after, kept_outputs}
use Rattle.node_laws.specs.Steps.{IsWellMade}
use Rattle.stable_store.specs.Stored.{AreSame, Stored}
use Rattle.synod_acceptor.specs.Packets.{packet_of}
use Rattle.synod_acceptor.specs.declared.packet.Packet.{Packet}
use Rattle.delivery.specs.Kept.{outcome_kept}
use Rattle.node_core.specs.StepFault.{StepFault}
use Rattle.node_core.specs.StepFault.TheVariants as faults
use Rattle.node_core.specs.Input.{Input as Given}
use Rattle.node_core.specs.Input.TheVariants as given
use Rattle.node_core.specs.Outputs.{Outputs as Sent}
use Rattle.node_core.specs.Keeping.{kept_of}
use Rattle.node_core.specs.Listing.{ListsRecorded}
use Rattle.node_core.specs.Steps.{input_of, outputs_of}
use Rattle.node_core.specs.declared.life.Life.{Life}
use Rattle.node_core.specs.Nodes.{HasOpened, HasStopped, HasTaken, IsUnmoved, OpensOver, Seen, Standing, seen}
use Rattle.node_core.specs.Restarts.{next_life}

-- the last incarnation that there is
abbrev pub last_incarnation : ℕ
last_incarnation = 9999

-- What happened to a node: it took the step of an input and gave this out; it started anew, after so many incarnations that were lost; or
-- it stopped in the save of a packet's step, before it or after it, and started anew.
pub data Event : Type 0 where
  Takes : Given → Sent → Event
  Starts : ℕ → Event
  Stops : Packet → Bool → ℕ → Event

-- ---- from one event to the next

-- a packet whose chain is a permitted one, from whomever, and an outcome that may come of an attempt
abbrev pub IsSound : Given → Type 0
IsSound (given.Packet packet) = IsWellMade (packet_of packet)
IsSound (given.Request account request) = Unit {0}
IsSound (given.Grant id) = Unit {0}
IsSound (given.Answered slot outcome) = IsOutcome (outcome_kept outcome)
IsSound (given.Tick moment reach) = Unit {0}

-- an input that may come to this node
abbrev pub may_come_to : {S : Type 0} → Standing S → Given → Type 0
may_come_to node input = MayCome node.kept.setup (kept_of node.kept) (input_of node.kept.setup (kept_of node.kept) input)

-- A node that is not Broken: its messages are those of which it has a record.
pub record IsWorking {S : Type 0} (node : Standing S) : Type 0 where
  pub works : node.broken ≡ false
  pub lists : ListsRecorded (kept_of node.kept)

-- it opened over these records, in an incarnation that there is
pub record HasStarted {S : Type 0} (stored : Records) (old : Standing S) (lost : ℕ) (new : Standing S) : Type 0 where
  pub life : Life
  pub within : next_life (kept_of old.kept) lost ≤ last_incarnation
  pub opened : HasOpened old.kept.setup stored (next_life (kept_of old.kept) lost) new life

-- what is stored after a stop in the save of a packet's step
abbrev pub stored_after : {S : Type 0} → Standing S → Packet → Bool → Records
stored_after old packet behind =
    if behind then (stepped old.kept.setup (kept_of old.kept) (input_of old.kept.setup (kept_of old.kept) (given.Packet packet))).kept.records
    else (kept_of old.kept).records

abbrev pub Happens : {S : Type 0} → Standing S → Event → Standing S → Type 0
Happens old (Takes input outputs) new = may_come_to old input × HasTaken old input new outputs
Happens old (Starts lost) new = IsWorking old × HasStarted (kept_of old.kept).records old lost new
Happens old (Stops packet behind lost) new = IsWorking old × IsWellMade (packet_of packet) × HasStarted (stored_after old packet behind) old lost new

-- the node did not take a step: its store failed in the save, or nothing changed
abbrev pub IsLeftBy : StepFault → Seen → Given → Seen → Type 0
IsLeftBy (faults.Grant reason) old input new = IsUnmoved old new
IsLeftBy faults.NotGranted old input new = IsUnmoved old new
IsLeftBy faults.StrangeLife old input new = IsUnmoved old new
IsLeftBy faults.Broken old input new = IsUnmoved old new
IsLeftBy faults.Device old input new = HasStopped old input new
IsLeftBy faults.Memory old input new = IsUnmoved old new

-- ---- lists of events, the newest first, each with the node that it left

abbrev pub last_in : {S : Type 0} → Standing S → List (Event × Standing S) → Standing S
last_in first [] = first
last_in first (newest ∷ older) = newest.1

abbrev pub IsRun : {S : Type 0} → Standing S → List (Event × Standing S) → Type 0
IsRun first [] = Unit {0}
IsRun first (newest ∷ older) = Happens (last_in first older) newest.0 newest.1 × IsRun first older

-- it opened with a new store
pub record OpensNew {S : Type 0} (setup : Setup) (node : Standing S) : Type 0 where
  pub life : Life
  pub stored : Records
  pub none : AreSame stored (λ slot. blank)
  pub opened : HasOpened setup stored 1 node life

-- ---- as inputs of the model, and what it gives out, the newest first

abbrev pub inputs_by : Setup → Kept → Event → List Input
inputs_by setup k (Takes input outputs) = input_of setup k input ∷ []
inputs_by setup k (Starts lost) = Restart lost ∷ []
inputs_by setup k (Stops packet behind lost) = Restart lost ∷ Crash (packet_of packet) behind ∷ []

abbrev pub given_by : Event → List Outputs
given_by (Takes input outputs) = outputs_of outputs ∷ []
given_by (Starts lost) = nothing ∷ []
given_by (Stops packet behind lost) = nothing ∷ nothing ∷ []

abbrev pub inputs_in : {S : Type 0} → Standing S → List (Event × Standing S) → List Input
inputs_in first [] = []
inputs_in first (newest ∷ older) =
    inputs_by (last_in first older).kept.setup (kept_of (last_in first older).kept) newest.0 ++ inputs_in first older

abbrev pub given_in : {S : Type 0} → List (Event × Standing S) → List Outputs
given_in [] = []
given_in (newest ∷ older) = given_by newest.0 ++ given_in older

-- The node is at each time as the node's model is after the same inputs and gave out the same; and that is a run of one actor, by exact steps
-- that it may take by itself.
pub record IsRunOfOne {S : Type 0} (setup : Setup) (first : Standing S) (events : List (Event × Standing S)) : Type 0 where
  pub kept : kept_of (last_in first events).kept ≡ kept_after setup (opened_new setup) (inputs_in first events)
  pub given : given_in events ≡ kept_outputs setup (opened_new setup) (inputs_in first events)
  pub runs : RunsAs setup (opened_new setup) (node_new setup.first_serial) (inputs_in first events)

-- ---- what the code does, as an event

-- it worked, and so much is known of its last incarnation and of the next one
pub record IsNext {S : Type 0} (old : Standing S) (lost : ℕ) (new : Standing S) : Type 0 where
  pub lists : ListsRecorded (kept_of old.kept)
  pub works : old.broken ≡ false
  pub next : new.kept.incarnation ≡ next_life (kept_of old.kept) lost
  pub within : new.kept.incarnation ≤ last_incarnation

-- A node that works, and one that opened over its store, or over one in which that is found which was in it: it started anew.
abbrev pub StartsAsOpened : {S : Type 0} → (S → Stored) → Type 0
StartsAsOpened {S} stored =
    (old new : Standing S) (before : S) (life : Life) (lost : ℕ)
    → IsNext old lost new
    → (stored old.store).holds (kept_of old.kept).records
    → ((left : Records) → (stored before).may_hold left → (stored old.store).may_hold left)
    → OpensOver (stored before) old.kept.setup (stored new.store) new life
    → (stored new.store).doubt ≡ 0
    → Happens old (Starts lost) new

-- The same of a node that stopped in the save of a packet's step: it stopped there, before the save or after it, and started anew.
abbrev pub StopsAsOpened : {S : Type 0} → (S → Stored) → Type 0
StopsAsOpened {S} stored =
    (old halted new : Standing S) (before : S) (packet : Packet) (life : Life) (lost : ℕ)
    → IsNext old lost new
    → IsWellMade (packet_of packet)
    → HasStopped (seen stored old) (given.Packet packet) (seen stored halted)
    → ((left : Records) → (stored before).may_hold left → (stored halted.store).may_hold left)
    → OpensOver (stored before) old.kept.setup (stored new.store) new life
    → (stored new.store).doubt ≡ 0
    → (behind : Bool) × Happens old (Stops packet behind lost) new

-- A run, an event after it, and a run that goes on from there are one run: so a node that opens over a store which an earlier run left is a part of
-- that run.
abbrev pub AreOneRun : Type 0 → Type 0
AreOneRun S =
    (first again : Standing S) (earlier later : List (Event × Standing S)) (event : Event)
    → IsRun first earlier
    → Happens (last_in first earlier) event again
    → IsRun again later
    → IsRun first (later ++ (event, again) ∷ earlier)
