-- Journals one after the other (own).
use Rattle.std.specs.Prelude.{◌≡◌, List, map, None, Ok, ℕ}
use Rattle.mc_model.specs.synod.Packet.{Packet}
use Rattle.mc_model.specs.cluster.Steps.{Cluster}
use Rattle.node_model.specs.Kept.{Kept}
use Rattle.node_laws.specs.Clusters.{NodeInput, kept_reached}
use Rattle.world_runs.specs.Given.{Given}
use Rattle.world_runs.specs.Step.{Step}
use Rattle.journal_laws.specs.Journals.{Done, Entry, IsJournal, RunsOn, answers_given, steps_done}

-- Each front of a journal is one, and the rest is one from where the front leads.
pub record IsCut (cluster : Cluster) (behind : List Packet) (inputs : List NodeInput) (first second : List Entry) (ends : ℕ → Kept) : Type 0 where
  pub middles : ℕ → Kept
  pub front : IsJournal cluster behind inputs first middles
  pub way : RunsOn cluster behind inputs first middles
  pub rest : IsJournal cluster behind way.last second ends

-- ---- a run as a journal

abbrev pub plainly : Done → Entry
plainly done = record { done = done; unfinished = None }

-- A run has a journal: of its steps, each of them an entry, with what they gave.
pub record IsListed (cluster : Cluster) (behind : List Packet) (inputs : List NodeInput) (taken : List Step) (givens : List Given) (last : List NodeInput) :
    Type 0 where
  pub entries : List Entry
  pub steps_are : steps_done entries ≡ taken
  pub givens_are : answers_given entries ≡ map Ok givens
  pub is : IsJournal cluster behind inputs entries (kept_reached cluster last).kept
