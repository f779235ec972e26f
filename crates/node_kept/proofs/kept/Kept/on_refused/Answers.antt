use Rattle.std.proofs.Common.{◌≡◌, ◌∙◌, sym, ap}
use Rattle.std.proofs.lemmas.Result.{IfOk-weaker}
use Rattle.mc_model.specs.synod.Packet.{Slot}
use Rattle.node_kept.proofs.Leaving.{refused_own}
use Rattle.node_kept.proofs.kept.Kept.on_refused.Goals as goal

pub returns : goal.returns
returns c =
    let id : c.slot.inside.id ≡ c.args.slot.id = ap (λ (s : Slot). s.id) c.slot.view_is in
    let taken = rw id at c.in_ok-message.ensures in
    IfOk-weaker c.leave.result _ _ (λ step is.
    refused_own c.args.self.now c.args.slot c.args.ballot c.args.promised c.in_ok-message.message c.refused.new.self step c.requires
    (sym c.is_own.ensures ∙ c.if-not-is_own.false) taken c.refused.ensures (rw id at is)) c.leave.ensures
