use Rattle.std.proofs.Common.{◌≡◌, ◌∙◌, Some, None, sym, ap}
use Rattle.node_model.specs.Message.{Message}
use Rattle.shelf.specs.Shelved.{value_at}
use Rattle.node_kept.proofs.Answering.{none_kept, taken_there}
use Rattle.node_kept.proofs.kept.Kept.known.Goals as goal

pub returns-in-Some-clause-known : goal.returns-in-Some-clause-known
returns-in-Some-clause-known c =
    let found : Some c.in-Some.message.now ≡ value_at c.args.self.now.messages.entries c.args.id = rw c.in-Some.is at c.find.ensures.value in
    let taken = taken_there c.args.self.now c.args.id c.in-Some.message.now (sym found) in
    c.known.ensures.known ∙ ap (λ (m : Message). m.known) taken.message

pub returns-in-None-clause-known : goal.returns-in-None-clause-known
returns-in-None-clause-known c =
    let none : None ≡ value_at c.args.self.now.messages.entries c.args.id = rw c.in-None.is at c.find.ensures.value in
    sym (ap (λ (m : Message). m.known) (none_kept c.args.self.now c.args.id (sym none)))
