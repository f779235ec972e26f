-- What a submit_sm asks for (SMPP 3.4, 4.4.1), as it was taken.
use Rattle.std.specs.Prelude.{ℕ, List}

-- an address of an SME, with its type of number and its numbering plan (SMPP 3.4, 5.2.5, 5.2.6, 5.2.8)
pub record Address : Type 0 where
  pub ton : ℕ
  pub npi : ℕ
  pub digits : List ℕ

-- What a submit_sm (SMPP 3.4, 4.4.1) asked for, as it was taken: the accounts that sent it and that it goes
-- to, the fields that are kept, the moments from which and up to which it is tried, its text, and the optional
-- parameters that are passed on, each as tag and value.
pub record Submission : Type 0 where
  pub submitter : List ℕ
  pub target : List ℕ
  pub service_type : List ℕ
  pub source : Address
  pub destination : Address
  pub esm_class : ℕ
  pub protocol_id : ℕ
  pub priority_flag : ℕ
  pub registered_delivery : ℕ
  pub data_coding : ℕ
  pub schedule : ℕ
  pub expiry : ℕ
  pub text : List ℕ
  pub passed : List (ℕ × List ℕ)
