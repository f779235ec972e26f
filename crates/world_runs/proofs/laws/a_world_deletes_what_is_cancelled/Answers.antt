use Rattle.world_runs.proofs.Linking.{cancelled_stay, cancels_delete_all}
use Rattle.world_runs.proofs.laws.a_world_deletes_what_is_cancelled.Goals as goal

pub returns-clause-deleted : goal.returns-clause-deleted
returns-clause-deleted c h = cancels_delete_all h

pub returns-clause-no_grant : goal.returns-clause-no_grant
returns-clause-no_grant c h = cancelled_stay h
