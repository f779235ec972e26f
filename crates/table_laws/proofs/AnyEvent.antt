-- Each event that may happen settles, and so do all of a list.
use Rattle.std.proofs.Common.{ℕ, List, [], ◌∷◌}
use Rattle.node_model.specs.Kept.{Kept}
use Rattle.table_laws.specs.Alone.{alone}
use Rattle.table_laws.specs.Events.{Concludes, Event, Grants, MayAllHappen, MayHappen, Refuses, Requests, RunsAs, SettlesBy, Ticks, happened, kept_by}
use Rattle.table_laws.specs.Tables.{TableNode}
use Rattle.table_laws.specs.Resting.{IsResting}
use Rattle.table_laws.proofs.AnyRequest.{request_settles, refusal_settles}
use Rattle.table_laws.proofs.Clocked.{tick_settles}
use Rattle.table_laws.proofs.Granting.{grant_settles, response_settles}

module _ (first validity : ℕ) where
  pub event_settles : (k : Kept) (t : TableNode) → IsResting k t → (event : Event) → MayHappen t event → SettlesBy (alone first validity) k t event
  event_settles k t resting (Requests request) may = request_settles first validity k t resting request may
  event_settles k t resting (Refuses status) may = refusal_settles first validity k t resting status
  event_settles k t resting (Ticks moment up) may = tick_settles first validity k t moment up resting
  event_settles k t resting (Grants id) may = grant_settles first validity k t id resting may
  event_settles k t resting (Concludes id outcome) may = response_settles first validity k t id resting may outcome

  pub events_run : (k : Kept) (t : TableNode) → IsResting k t → (events : List Event) → MayAllHappen t events → RunsAs (alone first validity) k t events
  events_run k t resting [] may = tt
  events_run k t resting (event ∷ events) may =
      let settles = event_settles k t resting event may.0 in
      (settles, events_run (kept_by (alone first validity) k t event settles) (happened t event) settles.resting events may.1)
