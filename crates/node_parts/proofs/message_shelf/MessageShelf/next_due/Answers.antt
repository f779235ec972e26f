use Rattle.std.proofs.Common.{sym, subst}
use Rattle.mc_model.specs.synod.Lists.{In}
use Rattle.node_parts.specs.Living.{IsNextBy, IsPassedBy, IsPassedIn}
use Rattle.node_parts.specs.Reaching.{named_in}
use Rattle.node_parts.proofs.Naming.{named_next, next_lower}
use Rattle.node_parts.proofs.message_shelf.MessageShelf.next_due.Goals as goal

pub returns : goal.returns
returns c =
    let kept = c.args.self.now in
    let may = c.args.may.now in
    let named = named_next kept.entries (named_in may) c.args.from c.named.result.now c.first_kept.result c.named.ensures c.first_kept.ensures in
    subst (IsNextBy (IsPassedIn kept c.args.asleep.now may) kept.entries c.args.from) (sym c.lower_of.ensures)
    (next_lower (IsPassedBy kept c.args.asleep.now) (λ id m. In id (named_in may) → ⊥) kept.entries c.args.from c.next_awake.result
    c.first_kept.result c.next_awake.ensures named)
