use Rattle.journal_laws.proofs.Taken.{stops_and_starts_anew}
use Rattle.journal_laws.proofs.laws.a_stop_of_a_node_is_its_own.Goals as goal

pub returns : goal.returns
returns g c =
    λ old new life given number told is tells well gives. stops_and_starts_anew g.S.StableStore.stored old new life is told tells given number well gives
