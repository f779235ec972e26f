-- The message of a submit_sm that waits (SMPP 3.4, 4.4).
use Rattle.std.specs.Prelude.{ℕ, List, [], ◌∷◌}
use Rattle.mc_model.specs.message.Ids.{incarnation_of, node_of}
use Rattle.mc_model.specs.message.Submission.{Submission}
use Rattle.mc_model.specs.message.Decree.{Decree, Taken}

-- the message of a submit_sm, and when it came
pub record Begun : Type 0 where
  pub id : ℕ
  pub moment : ℕ
  pub message : Submission

-- it was taken then, by the node and the incarnation that its id names
abbrev pub begun_chain : Begun → List Decree
begun_chain b =
    record { author = record { node = node_of b.id; incarnation = incarnation_of b.id }; moment = b.moment; kind = Taken b.message } ∷ []
