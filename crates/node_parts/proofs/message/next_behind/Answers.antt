use Rattle.std.proofs.Common.{◌≡◌, ◌∙◌, Some, sym, ap, subst, List, Option}
use Rattle.mc_model.specs.message.Decree.{Decree}
use Rattle.mc_model.specs.synod.Packet.{Slot}
use Rattle.node_model.specs.Attempts.{concluded}
use Rattle.tick_rules.specs.Attempts.{closed_as}
use Rattle.tick_rules.specs.Standpoints.{kept_of, setup_of, start_of}
use Rattle.synod_learner.specs.Counts.{known_in}
use Rattle.node_parts.specs.Attempting.{IsBacked}
use Rattle.node_parts.proofs.Attempting.{next_concludes}
use Rattle.node_parts.proofs.message.next_behind.Goals as goal

pub returns-clause-start : goal.returns-clause-start
returns-clause-start c backed =
    let at = c.args.at.now in
    let id : c.slot.inside.id ≡ c.args.slot.id = ap (λ (s : Slot). s.id) c.slot.view_is in
    let place : c.slot.inside.place ≡ c.args.slot.place = ap (λ (s : Slot). s.place) c.slot.view_is in
    let known : Some c.in-Some.chain.now.decrees ≡ known_in c.args.learner.now.known c.args.slot.id = rw id at c.in-Some.ensures.known in
    let here = subst (IsBacked at.author.node at.author.incarnation c.args.slot.place) (sym known) backed in
    subst (λ (k : Option (List Decree)). Some (start_of c.in_ok-next.next) ≡ concluded (setup_of at) (kept_of at) c.args.slot
    (closed_as c.args.closing.now) k) known
    (next_concludes at c.args.slot c.args.closing.now c.in-Some.chain.now.decrees c.in_ok-next.next c.in-Some-end.due
    (sym c.place.ensures.place ∙ c.if-place-slot.false
    ∙ place) c.in-Some-end.ensures.due c.in-Some-end.ensures.may c.in_ok-next.ensures.decrees here)
