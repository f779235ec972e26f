use Rattle.std.proofs.Common.{◌≡◌, ap}
use Rattle.mc_model.specs.synod.Packet.{Slot}
use Rattle.tick_rules.specs.declared.attempted.Closing.TheVariants as closings
use Rattle.node_parts.proofs.Attempting.{concludes, concludes_alone}
use Rattle.node_parts.proofs.message.Message.conclude.Goals as goal

pub returns-in-Some : goal.returns-in-Some
returns-in-Some c of =
    let place : c.slot.inside.place ≡ c.args.slot.place = ap (λ (s : Slot). s.place) c.slot.view_is in
    let closed = rw place at c.close.ensures in
    let start = rw c.in-Some.is at (c.in_ok-next.ensures.start (of.backed c.args.slot.place c.requires)) in
    let id = rw c.in-Some.is at c.in_ok-next.ensures.id in
    concludes c.args.at.now c.args.self.now c.close.new.self c.args.slot
    (closings.Answered c.args.outcome) closed c.in-Some.next c.start.new.self c.start.result id start c.start.ensures

pub returns-in-None : goal.returns-in-None
returns-in-None c of =
    let place : c.slot.inside.place ≡ c.args.slot.place = ap (λ (s : Slot). s.place) c.slot.view_is in
    let closed = rw place at c.close.ensures in
    let start = rw c.in-None.is at (c.in_ok-next.ensures.start (of.backed c.args.slot.place c.requires)) in
    concludes_alone c.args.at.now c.args.self.now c.close.new.self c.args.slot (closings.Answered c.args.outcome) closed start
