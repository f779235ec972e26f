-- The message of the worked rows, which is the first of the node 1, and its chains.
use Rattle.std.specs.Prelude.{ℕ, List, [], ◌∷◌}
use Rattle.mc_model.specs.message.Submission.{Address, Submission}
use Rattle.mc_model.specs.message.Decree.{Attempt, Decree, Delivered, Fate, Kind, Taken, Told}

-- 2024-01-31T00:00:00Z, and the account sme1
abbrev pub midnight : ℕ
midnight = 1706659200

abbrev pub account : List ℕ
account = 115 ∷ 109 ∷ 101 ∷ 49 ∷ []

abbrev pub sender : List ℕ
sender = 49 ∷ 52 ∷ 52 ∷ []

abbrev pub address : List ℕ → Address
address digits = record { ton = 1; npi = 1; digits = digits }

-- from 144 to 155, with the text Hi, valid for three days; a receipt is asked for on every final state
abbrev pub message : Submission
message = record {
  submitter = account;
  target = account;
  service_type = [];
  source = address sender;
  destination = address (49 ∷ 53 ∷ 53 ∷ []);
  esm_class = 0;
  protocol_id = 0;
  priority_flag = 0;
  registered_delivery = 1;
  data_coding = 0;
  schedule = 1706659200;
  expiry = 1706918400;
  text = 72 ∷ 105 ∷ [];
  passed = [];
}

abbrev pub first_id : ℕ
first_id = 1000100001

abbrev pub decreed : Kind → Decree
decreed kind = record { author = record { node = 1; incarnation = 1 }; moment = midnight; kind = kind }

abbrev pub taken : List Decree
taken = decreed (Taken message) ∷ []

abbrev pub attempted : List Decree
attempted = decreed (Attempt 1) ∷ taken

abbrev pub delivered : List Decree
delivered = decreed (Fate Delivered 0) ∷ attempted

abbrev pub told : List Decree
told = decreed Told ∷ delivered
