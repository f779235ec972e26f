-- How a message is to be handled (SMPP 3.4, 4.4.1 and 5.2.12 to 5.2.20), as it stands in octets.
use Rattle.pdu_fields.specs.declared.handling_octets.HandlingOctets.{HandlingOctets}
use Rattle.pdu_fields.specs.Grammar.{Contents, handling_parts}

-- what stands in its fields
abbrev pub handling_contents : HandlingOctets → Contents handling_parts
handling_contents h =
    (h.esm_class, (h.protocol_id, (h.priority_flag, (h.schedule_delivery_time.now, (h.validity_period.now, (h.registered_delivery, (h.replace_if_present_flag, (h.data_coding, (h.sm_default_msg_id, tt)))))))))
