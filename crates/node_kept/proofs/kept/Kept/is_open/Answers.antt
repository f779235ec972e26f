use Rattle.std.proofs.Common.{◌≡◌, ◌∙◌, Some, None, sym, ap}
use Rattle.mc_model.specs.synod.Packet.{Slot}
use Rattle.node_model.specs.Message.{Message}
use Rattle.node_model.specs.Granted.{is_open_in}
use Rattle.shelf.specs.Shelved.{value_at}
use Rattle.node_kept.proofs.Answering.{none_kept, taken_there}
use Rattle.node_kept.proofs.kept.Kept.is_open.Goals as goal

pub returns-in-Some : goal.returns-in-Some
returns-in-Some c =
    let id = ap (λ (s : Slot). s.id) c.slot.view_is in
    let place = ap (λ (s : Slot). s.place) c.slot.view_is in
    let found : Some c.in-Some.message.now ≡ value_at c.args.self.now.messages.entries c.args.slot.id = rw (c.in-Some.is, id) at c.find.ensures.value in
    let taken = taken_there c.args.self.now c.args.slot.id c.in-Some.message.now (sym found) in
    rw place at (c.is_open.ensures c.args.slot.id) ∙ ap (λ (m : Message). is_open_in m c.args.slot.place) taken.message

pub returns-in-None : goal.returns-in-None
returns-in-None c =
    let id = ap (λ (s : Slot). s.id) c.slot.view_is in
    let none : None ≡ value_at c.args.self.now.messages.entries c.args.slot.id = rw (c.in-None.is, id) at c.find.ensures.value in
    sym (ap (λ (m : Message). is_open_in m c.args.slot.place) (none_kept c.args.self.now c.args.slot.id (sym none)))
