-- The decrees on a message.
use Rattle.std.specs.Prelude.{ℕ}
use Rattle.mc_model.specs.message.Submission.{Submission}

-- the node that made a decree, and its incarnation then
pub record Author : Type 0 where
  pub node : ℕ
  pub incarnation : ℕ

-- the final states of a message (SMPP 3.4, 5.2.28)
pub data Final : Type 0 where
  Delivered : Final
  Expired : Final
  Deleted : Final
  Undeliverable : Final
  Rejected : Final

-- what a decree decides: the message is taken, its attempt of a number is begun, that attempt failed with an
-- error, the message has this final state, with an error, the receipt on that is told
pub data Kind : Type 0 where
  Taken : Submission → Kind
  Attempt : ℕ → Kind
  Failed : ℕ → Kind
  Fate : Final → ℕ → Kind
  Told : Kind

pub record Decree : Type 0 where
  pub author : Author
  pub moment : ℕ
  pub kind : Kind
