use Rattle.std.proofs.Common.{◌≡◌, ◌∙◌, Some, sym, ap}
use Rattle.std.proofs.lemmas.Result.{IfOk-weaker}
use Rattle.shelf.specs.Shelved.{value_at}
use Rattle.node_kept.proofs.Answering.{taken_there}
use Rattle.node_kept.proofs.kept.Kept.taken.Goals as goal

pub returns-in-Some : goal.returns-in-Some
returns-in-Some c =
    let found : Some c.in-Some.message.now ≡ value_at c.args.self.now.messages.entries c.args.id = rw c.in-Some.is at c.find.ensures.value in
    IfOk-weaker c.copy.result _ _ (λ m same. taken_there c.args.self.now c.args.id m (sym found ∙ ap Some (sym same))) c.copy.ensures
