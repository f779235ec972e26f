-- Whether a round is to be started, as it is computed, and as the model says it.
use Rattle.std.proofs.Common.{◌⊎◌, ℕ, List, Option, Some, None, inl, inr}
use Rattle.std.specs.Option.{option_or}
use Rattle.mc_model.specs.message.Decree.{Decree}
use Rattle.node_model.specs.Proposer.{Start}

-- what is computed fits, and if there is nothing, then nothing fits
abbrev pub Decided : Option Start → (ℕ → List Decree → Type 0) → Type 0
Decided None Fits = (place : ℕ) (chain : List Decree) → Fits place chain → ⊥
Decided (Some start) Fits = Fits start.place start.chain

module _ (P Q : ℕ → List Decree → Type 0) where
  pub decided_as : (start : Option Start) → ((place : ℕ) (chain : List Decree) → P place chain → Q place chain) →
      ((place : ℕ) (chain : List Decree) → Q place chain → P place chain) → Decided start P → Decided start Q
  decided_as None there back none = λ place chain fits. none place chain (back place chain fits)
  decided_as (Some start) there back fits = there start.place start.chain fits

  pub either_decided : (one other : Option Start) → Decided one P → Decided other Q →
      Decided (option_or one other) (λ place chain. P place chain ⊎ Q place chain)
  either_decided None None none_first none = λ place chain fits. elim fits [ inl first ↦ none_first place chain first | inr second ↦ none place chain second ]
  either_decided None (Some start) none_first fits = inr fits
  either_decided (Some start) other fits decided = inl fits
