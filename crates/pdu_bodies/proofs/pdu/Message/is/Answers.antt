use Rattle.std.proofs.Common.{◌≡◌, ◌&&◌, eqb, rules}
use Rattle.std.specs.Bool.{Decides}
use Rattle.std.specs.Str.{bytes_eq}
use Rattle.std.proofs.lemmas.Bool.Decides.{Decides-and, Decides-at, Decides-eqb, Decides-like}
use Rattle.std.proofs.lemmas.Slice.Eq.{bytes_eq-Decides}
use Rattle.pdu_fields.proofs.Optional.{tlvs_decide}
use Rattle.pdu_fields.specs.declared.address.Address.{Address}
use Rattle.pdu_bodies.specs.declared.pdu.Message.{Message}
use Rattle.pdu_bodies.proofs.pdu.Message.is.Goals as goal

address_decides : (one other : Address) → Decides (eqb one.ton other.ton && (eqb one.npi other.npi && bytes_eq one.digits other.digits)) (one ≡ other)
address_decides one other = search rules

pub returns : goal.returns
returns c =
    let one : Message = c.args.self.now in
    let other : Message = c.args.other.now in
    Decides-at c.eq.result _ c.eq.ensures (Decides-like _
    (λ same. search rules)
    (λ same. search rules)
    (Decides-and _ _ (bytes_eq-Decides one.service_type other.service_type)
    (Decides-and _ _ (address_decides one.source other.source)
    (Decides-and _ _ (address_decides one.destination other.destination)
    (Decides-and _ _ (Decides-eqb one.esm_class other.esm_class)
    (Decides-and _ _ (Decides-eqb one.protocol_id other.protocol_id)
    (Decides-and _ _ (Decides-eqb one.priority_flag other.priority_flag)
    (Decides-and _ _ (bytes_eq-Decides one.schedule_delivery_time other.schedule_delivery_time)
    (Decides-and _ _ (bytes_eq-Decides one.validity_period other.validity_period)
    (Decides-and _ _ (Decides-eqb one.registered_delivery other.registered_delivery)
    (Decides-and _ _ (Decides-eqb one.replace_if_present_flag other.replace_if_present_flag)
    (Decides-and _ _ (Decides-eqb one.data_coding other.data_coding)
    (Decides-and _ _ (Decides-eqb one.sm_default_msg_id other.sm_default_msg_id)
    (Decides-and _ _ (bytes_eq-Decides one.short_message other.short_message)
    (tlvs_decide one.tlvs other.tlvs)))))))))))))))
