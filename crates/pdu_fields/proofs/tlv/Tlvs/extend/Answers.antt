use Rattle.std.proofs.Common.{ap}
use Rattle.std.proofs.lemmas.Result.{on_ok_weaker}
use Rattle.pdu_fields.proofs.Optional.{behind-is, tlvs-behind}
use Rattle.pdu_fields.proofs.tlv.Tlvs.extend.Goals as goal

pub invariant_of-self : goal.invariant_of-self
invariant_of-self c =
    let items = rw c.octets.ensures.octets at c.extend_from_slice.ensures.items in
    tlvs-behind c.self.inside.octets.items c.args.others.now c.extend_from_slice.new.self.items c.self.invariant
    c.octets.ensures.limits (rw c.self.view_is c.requires) c.extend_from_slice.result items

pub returns-clause-ok : goal.returns-clause-ok
returns-clause-ok c =
    let items = rw c.octets.ensures.octets at c.extend_from_slice.ensures.items in
    rw (← c.self.view_is) (behind-is c.self.inside.octets.items c.args.others.now c.extend_from_slice.new.self.items c.self.invariant
    c.octets.ensures.limits (rw c.self.view_is c.requires) c.extend_from_slice.result items)
