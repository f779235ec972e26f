-- A chain with a decree of each kind.
use Rattle.std.specs.Prelude.{ℕ, ◌+◌, List, [], ◌∷◌}
use Rattle.mc_model.specs.message.Ids.{node_of, incarnation_of}
use Rattle.mc_model.specs.message.Submission.{Submission}
use Rattle.mc_model.specs.message.Decree.{Kind, Taken, Attempt, Failed, Fate, Told, Delivered, Decree}

-- a decree by the node and incarnation that the id names
abbrev pub decree_by : ℕ → ℕ → Kind → Decree
decree_by id moment kind = record {
  author = record { node = node_of id; incarnation = incarnation_of id };
  moment = moment;
  kind = kind;
}

-- the message is taken, its first attempt fails at once, and its second, a minute later, delivers it
abbrev pub delivered_at_second : ℕ → ℕ → Submission → List Decree
delivered_at_second id moment message =
    decree_by id (moment + 60) (Fate Delivered 0)
    ∷ decree_by id (moment + 60) (Attempt 2)
    ∷ decree_by id moment (Failed 100)
    ∷ decree_by id moment (Attempt 1)
    ∷ decree_by id moment (Taken message)
    ∷ []

-- and its receipt is told
abbrev pub told_at_second : ℕ → ℕ → Submission → List Decree
told_at_second id moment message = decree_by id (moment + 60) Told ∷ delivered_at_second id moment message
