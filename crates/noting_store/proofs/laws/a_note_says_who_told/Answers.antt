use Rattle.noting_store.proofs.Voters.{says_who_told}
use Rattle.noting_store.proofs.laws.a_note_says_who_told.Goals as goal

pub returns : goal.returns
returns c = says_who_told
