-- A worked row: the life of one message over the table.
use Rattle.std.specs.Prelude.{true, false, List, [], ◌∷◌, ◌++◌}
use Rattle.mc_model.specs.message.Decree.{Delivered}
use Rattle.mc_model.specs.node.Actor.{Query, Submit}
use Rattle.mc_model.specs.node.Outcome.{Concluded}
use Rattle.mc_parts.specs.FirstMessage.{account, first_id, message, midnight, sender}
use Rattle.table_laws.specs.Tables.{TableNode, new_table}
use Rattle.table_laws.specs.Events.{Concludes, Event, Grants, Requests, Ticks, happened}

-- it is taken at midnight, attempted at a tick and granted
abbrev pub begins : List Event
begins = Ticks midnight (λ text. false) ∷ Requests (Submit first_id message) ∷ Ticks midnight (λ text. true) ∷ Grants first_id ∷ []

-- and answered ESME_ROK
abbrev pub concludes : Event
concludes = Concludes first_id (Concluded Delivered 0)

abbrev pub life : List Event
life = begins ++ concludes ∷ []

abbrev pub all_happened : TableNode → List Event → TableNode
all_happened t [] = t
all_happened t (event ∷ events) = all_happened (happened t event) events

abbrev pub after_grant : TableNode
after_grant = all_happened (new_table 1) begins

abbrev pub after_life : TableNode
after_life = happened after_grant concludes

abbrev pub asks : Event
asks = Requests (Query first_id account sender)
