use Rattle.std.proofs.Common.{ℕ, List, subst}
use Rattle.node_parts.specs.Living.{Listed}
use Rattle.node_parts.specs.Reaching.{are_all, reach_of}
use Rattle.node_parts.specs.Sleeping.{IsNoted}
use Rattle.node_parts.proofs.Naming.{passed_by}
use Rattle.node_parts.proofs.Sleeping.{settled_asleep}
use Rattle.node_parts.proofs.message_shelf.MessageShelf.asleep_at.Goals as goal

pub returns-then-is_noted-clause-passed : goal.returns-then-is_noted-clause-passed
returns-then-is_noted-clause-passed c id m passed =
    let me = c.args.at.now.author in
    let given = c.args.reach.now in
    let noted : IsNoted c.args.self.now.noted me given.up.items (are_all given.may) =
    subst (λ (l : Listed). IsNoted l.noted me given.up.items (are_all given.may)) c.self.view_is
    (subst (IsNoted c.self.inside.noted me given.up.items) c.are_all.ensures
    (subst (λ (ups : List (List ℕ)). IsNoted c.self.inside.noted me ups c.are_all.result) c.deref.ensures.value (c.is_noted.ensures.0 c.if-is_noted.true))) in
    passed_by c.args.self.now.noted given c.args.at.now noted id m passed.0 passed.1

pub returns-else-is_noted-clause-passed : goal.returns-else-is_noted-clause-passed
returns-else-is_noted-clause-passed c id m passed = settled_asleep c.args.at.now (reach_of c.args.reach.now) id m passed.0
