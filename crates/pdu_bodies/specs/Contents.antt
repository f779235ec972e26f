-- What stands in the fields of each body, in their order, and the body of what stands there.
use Rattle.std.specs.Prelude.{ℕ, List}
use Rattle.pdu_bodies.specs.declared.pdu.Bind.{Bind}
use Rattle.pdu_bodies.specs.declared.pdu.BindAnswer.{BindAnswer}
use Rattle.pdu_bodies.specs.declared.pdu.Message.{Message}
use Rattle.pdu_bodies.specs.declared.pdu.Query.{Query}
use Rattle.pdu_bodies.specs.declared.pdu.QueryAnswer.{QueryAnswer}
use Rattle.pdu_bodies.specs.declared.pdu.Cancel.{Cancel}
use Rattle.pdu_fields.specs.Grammar.{Contents, bind_parts, bind_answer_parts, message_parts, message_id_parts, query_parts, query_answer_parts, cancel_parts}

abbrev pub bind_contents : Bind → Contents bind_parts
bind_contents b = (b.system_id, (b.password, (b.system_type, (b.interface_version, (b.addr_ton, (b.addr_npi, (b.address_range, tt)))))))

abbrev pub bind_from : Contents bind_parts → Bind
bind_from (system_id, (password, (system_type, (interface_version, (addr_ton, (addr_npi, (address_range, _))))))) = record {
  system_id = system_id;
  password = password;
  system_type = system_type;
  interface_version = interface_version;
  addr_ton = addr_ton;
  addr_npi = addr_npi;
  address_range = address_range;
}

abbrev pub bind_answer_contents : BindAnswer → Contents bind_answer_parts
bind_answer_contents b = (b.system_id, (b.tlvs, tt))

abbrev pub bind_answer_from : Contents bind_answer_parts → BindAnswer
bind_answer_from (system_id, (tlvs, _)) = record { system_id = system_id; tlvs = tlvs }

abbrev pub message_contents : Message → Contents message_parts
message_contents m =
    (m.service_type, (m.source.ton, (m.source.npi, (m.source.digits, (m.destination.ton, (m.destination.npi, (m.destination.digits, (m.esm_class, (m.protocol_id, (m.priority_flag, (m.schedule_delivery_time, (m.validity_period, (m.registered_delivery, (m.replace_if_present_flag, (m.data_coding, (m.sm_default_msg_id, (m.short_message, (m.tlvs, tt))))))))))))))))))

abbrev pub message_from : Contents message_parts → Message
message_from (service_type, (source_ton, (source_npi, (source_digits, (destination_ton, (destination_npi, (destination_digits, (esm_class, (protocol_id, (priority_flag, (schedule_delivery_time, (validity_period, (registered_delivery, (replace_if_present_flag, (data_coding, (sm_default_msg_id, (short_message, (tlvs, _)))))))))))))))))) = record {
  service_type = service_type;
  source = record { ton = source_ton; npi = source_npi; digits = source_digits };
  destination = record { ton = destination_ton; npi = destination_npi; digits = destination_digits };
  esm_class = esm_class;
  protocol_id = protocol_id;
  priority_flag = priority_flag;
  schedule_delivery_time = schedule_delivery_time;
  validity_period = validity_period;
  registered_delivery = registered_delivery;
  replace_if_present_flag = replace_if_present_flag;
  data_coding = data_coding;
  sm_default_msg_id = sm_default_msg_id;
  short_message = short_message;
  tlvs = tlvs;
}

abbrev pub message_id_contents : List ℕ → Contents message_id_parts
message_id_contents message_id = (message_id, tt)

abbrev pub message_id_from : Contents message_id_parts → List ℕ
message_id_from (message_id, _) = message_id

abbrev pub query_contents : Query → Contents query_parts
query_contents q = (q.message_id, (q.source.ton, (q.source.npi, (q.source.digits, tt))))

abbrev pub query_from : Contents query_parts → Query
query_from (message_id, (ton, (npi, (digits, _)))) = record {
  message_id = message_id;
  source = record { ton = ton; npi = npi; digits = digits };
}

abbrev pub query_answer_contents : QueryAnswer → Contents query_answer_parts
query_answer_contents q = (q.message_id, (q.final_date, (q.message_state, (q.error_code, tt))))

abbrev pub query_answer_from : Contents query_answer_parts → QueryAnswer
query_answer_from (message_id, (final_date, (message_state, (error_code, _)))) = record {
  message_id = message_id;
  final_date = final_date;
  message_state = message_state;
  error_code = error_code;
}

abbrev pub cancel_contents : Cancel → Contents cancel_parts
cancel_contents x =
    (x.service_type, (x.message_id, (x.source.ton, (x.source.npi, (x.source.digits, (x.destination.ton, (x.destination.npi, (x.destination.digits, tt))))))))

abbrev pub cancel_from : Contents cancel_parts → Cancel
cancel_from (service_type, (message_id, (source_ton, (source_npi, (source_digits, (destination_ton, (destination_npi, (destination_digits, _)))))))) = record {
  service_type = service_type;
  message_id = message_id;
  source = record { ton = source_ton; npi = source_npi; digits = source_digits };
  destination = record { ton = destination_ton; npi = destination_npi; digits = destination_digits };
}
