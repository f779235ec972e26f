-- What two messages, as they were taken, have in common.
use Rattle.std.specs.Prelude.{◌≡◌}
use Rattle.mc_model.specs.message.Submission.{Submission}

-- the accounts, the service_type and the addresses
pub record SameParties (one other : Submission) : Type 0 where
  pub submitter : one.submitter ≡ other.submitter
  pub target : one.target ≡ other.target
  pub service_type : one.service_type ≡ other.service_type
  pub source : one.source ≡ other.source
  pub destination : one.destination ≡ other.destination

-- the numbers
pub record SameHandling (one other : Submission) : Type 0 where
  pub esm_class : one.esm_class ≡ other.esm_class
  pub protocol_id : one.protocol_id ≡ other.protocol_id
  pub priority_flag : one.priority_flag ≡ other.priority_flag
  pub registered_delivery : one.registered_delivery ≡ other.registered_delivery
  pub data_coding : one.data_coding ≡ other.data_coding
  pub schedule : one.schedule ≡ other.schedule
  pub expiry : one.expiry ≡ other.expiry
