use Rattle.journal_laws.proofs.Taken.{starts_anew}
use Rattle.journal_laws.proofs.laws.a_start_anew_of_a_node_is_its_own.Goals as goal

pub returns : goal.returns
returns g c =
    λ old new life given is none gives. starts_anew g.S.StableStore.stored old new life is given none gives
