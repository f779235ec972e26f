-- What was taken, as the model's.
use Rattle.mc_model.specs.message.Submission.{Address}
use Rattle.pdu_fields.specs.declared.address.Address.{Address as Wire}

abbrev pub address_of : Wire → Address
address_of a = record { ton = a.ton; npi = a.npi; digits = a.digits }
