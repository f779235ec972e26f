-- The receipt on a final state is told.
use Rattle.std.specs.Prelude.{◌≡◌, ◌⊎◌, ℕ, List, [], ◌∷◌, Some}
use Rattle.mc_model.specs.message.Ids.{node_of}
use Rattle.mc_model.specs.message.Submission.{Submission}
use Rattle.mc_model.specs.message.Decree.{Decree, Fate, Final, Told}
use Rattle.mc_model.specs.message.Receipts.{AsksReceipt}
use Rattle.mc_model.specs.message.Chain.{taken_in}

-- what stands behind a fate is nothing, or its Told alone
abbrev pub IsToldBehind : List Decree → Type 0
IsToldBehind more = (more ≡ []) ⊎ ((told : Decree) × ((more ≡ told ∷ []) × (told.kind ≡ Told)))

-- a Told stands on a fate of which a receipt was asked, and is of the node that the id names
pub record TellsAFate (id : ℕ) (told : Decree) (older : List Decree) : Type 0 where
  pub fate : Decree
  pub oldest : List Decree
  pub final : Final
  pub error : ℕ
  pub message : Submission
  pub behind : older ≡ fate ∷ oldest
  pub ends : fate.kind ≡ Fate final error
  pub taken : taken_in (fate ∷ oldest) ≡ Some message
  pub asked : AsksReceipt final message
  pub home : told.author.node ≡ node_of id
