use Rattle.std.proofs.Common.{◌≡◌, ◌∙◌, Some, None, sym, ap}
use Rattle.node_model.specs.Message.{Message}
use Rattle.node_model.specs.Proposer.{runs_at}
use Rattle.shelf.specs.Shelved.{value_at}
use Rattle.node_kept.proofs.Answering.{none_kept, taken_there}
use Rattle.node_kept.proofs.kept.Kept.runs_at.Goals as goal

pub returns-in-Some : goal.returns-in-Some
returns-in-Some c =
    let found : Some c.in-Some.message.now ≡ value_at c.args.self.now.messages.entries c.args.id = rw c.in-Some.is at c.find.ensures.value in
    let taken = taken_there c.args.self.now c.args.id c.in-Some.message.now (sym found) in
    c.runs_at.ensures c.args.id ∙ ap (λ (m : Message). runs_at m.round c.args.slot c.args.ballot) taken.message

pub returns-in-None : goal.returns-in-None
returns-in-None c =
    let none : None ≡ value_at c.args.self.now.messages.entries c.args.id = rw c.in-None.is at c.find.ensures.value in
    sym (ap (λ (m : Message). runs_at m.round c.args.slot c.args.ballot) (none_kept c.args.self.now c.args.id (sym none)))
