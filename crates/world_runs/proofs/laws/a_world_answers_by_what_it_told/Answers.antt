use Rattle.world_runs.proofs.Linking.{accepted_known, ids_known, later_queries_told}
use Rattle.world_runs.proofs.laws.a_world_answers_by_what_it_told.Goals as goal

pub returns-clause-told : goal.returns-clause-told
returns-clause-told c h = later_queries_told h

pub returns-clause-known : goal.returns-clause-known
returns-clause-known c h = accepted_known h

pub returns-clause-at_once : goal.returns-clause-at_once
returns-clause-at_once c h = ids_known h
