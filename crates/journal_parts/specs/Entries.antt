-- Entries of the code, as those of a journal (own).
use Rattle.std.specs.Prelude.{◌≡◌, ℕ, [], map, option_map, Option, Some, None}
use Rattle.std.specs.Arc.{arc_value}
use Rattle.synod_acceptor.specs.Packets.{packet_of}
use Rattle.node_model.specs.Outputs.{nothing}
use Rattle.node_core.specs.Copies.{AreAlike}
use Rattle.node_entry.specs.Copies.{IsCopy}
use Rattle.world.specs.Runs.{IsGiven}
use Rattle.node_entry.specs.declared.step.Step.{Step}
use Rattle.node_entry.specs.declared.step.Step.TheVariants as steps
use Rattle.journal_laws.specs.Journals.{Done, Entry, Unfinished}
use Rattle.journal_laws.specs.Taken.{given_of}
use Rattle.journal_parts.specs.declared.done.Done.{Done as Taken}
use Rattle.journal_parts.specs.declared.entry.Entry.{Entry as Written}
use Rattle.journal_parts.specs.declared.entry.Unfinished.{Unfinished as Halted}

abbrev pub done_of : Taken → Done
done_of done = record {
  step = done.step;
  packet = option_map packet_of done.packet;
  given = given_of done.outputs;
  sent = map packet_of done.outputs.packets.items;
}

abbrev pub save_of : Halted → Unfinished
save_of save = record { number = save.number; found = save.found }

abbrev pub entry_of : Written → Entry
entry_of entry = record { done = done_of (arc_value entry.done); unfinished = option_map save_of entry.unfinished }

-- the same step, by the same packet, gave out the same
pub record IsLike (one other : Taken) : Type 0 where
  pub step : IsCopy one.step other.step
  pub packet : other.packet ≡ one.packet
  pub outputs : AreAlike one.outputs other.outputs

-- the number of the packet that comes by a step
abbrev pub number_by : Step → Option ℕ
number_by (steps.Deliver number node) = Some number
number_by (steps.Crash node number found) = Some number
number_by other = None

-- or in the save of whose step the node had stopped
abbrev pub number_of : Step → Option Unfinished → Option ℕ
number_of step (Some save) = Some save.number
number_of step None = number_by step

abbrev pub number_in : Entry → Option ℕ
number_in entry = number_of entry.done.step entry.unfinished

-- only a start anew, by which nothing goes out, names an unfinished save
abbrev pub NamesASave : Done → Option Unfinished → Type 0
NamesASave done None = Unit {0}
NamesASave done (Some save) = (node : ℕ) × (done.step ≡ steps.Restart node) × (done.sent ≡ [])

abbrev pub IsSound : Entry → Type 0
IsSound entry = NamesASave entry.done entry.unfinished

-- ---- a start anew

-- nothing goes out by it
pub record GivesNothing (done : Taken) : Type 0 where
  pub given : IsGiven (given_of done.outputs) nothing
  pub sent : done.outputs.packets.items ≡ []

-- its entry names a save that the node had not finished, or none
pub record IsAnew (done : Taken) (entry : Entry) : Type 0 where
  pub is : entry.done ≡ done_of done
  pub sound : IsSound entry
