use Rattle.stable_store.proofs.Lists.{leaves_next, leaves_saved, leaves_saved_all, saves, saves_all, stays}
use Rattle.stable_store.proofs.laws.a_list_is_exact.Goals as goal

pub returns-clause-stays : goal.returns-clause-stays
returns-clause-stays c = stays

pub returns-clause-saves : goal.returns-clause-saves
returns-clause-saves c = saves

pub returns-clause-leaves_saved : goal.returns-clause-leaves_saved
returns-clause-leaves_saved c = leaves_saved

pub returns-clause-leaves_next : goal.returns-clause-leaves_next
returns-clause-leaves_next c = leaves_next

pub returns-clause-saves_all : goal.returns-clause-saves_all
returns-clause-saves_all c = saves_all

pub returns-clause-leaves_saved_all : goal.returns-clause-leaves_saved_all
returns-clause-leaves_saved_all c = leaves_saved_all
