use Rattle.std.proofs.Common.{refl, inl}
use Rattle.mc_laws.proofs.story.Restarts.{chosen_anew, restart_run, unknown_anew}
use Rattle.mc_laws.proofs.stories.a_node_stops_after_a_save.Goals as goal

pub returns-clause-run : goal.returns-clause-run
returns-clause-run c = restart_run

pub returns-clause-chosen : goal.returns-clause-chosen
returns-clause-chosen c = chosen_anew

pub returns-clause-answered : goal.returns-clause-answered
returns-clause-answered c = λ message. inl refl

pub returns-clause-unknown : goal.returns-clause-unknown
returns-clause-unknown c = unknown_anew
