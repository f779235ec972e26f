use Rattle.std.proofs.Common.{List, ◌++◌, subst, ap, ◌∙◌}
use Rattle.mc_model.specs.synod.Lists.{In}
use Rattle.noting_store.specs.Noted.{Note, noted_in}
use Rattle.noting_store.proofs.Notes.{noted_either}
use Rattle.noting_store.proofs.list.NotingListNotingStore.note.Goals as goal

pub returns-clause-noted : goal.returns-clause-noted
returns-clause-noted c = λ n among.
    let items = c.in_ok-append.ensures.items ∙ ap (λ (more : List Note). c.args.self.now.notes.items ++ more) c.in_ok-copies.ensures in
    noted_either n c.args.self.now.notes.items c.args.notes.now (subst (λ (all : List Note). In n (noted_in all)) items among)
