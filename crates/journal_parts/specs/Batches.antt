-- The numbers of packets that are handed in to a node at once (own): of those by which it may save something, and of the others.
use Rattle.std.specs.Prelude.{◌≡◌, ◌⊎◌, ◌<◌, ◌≤◌, ◌+◌, ℕ, List, [], ◌∷◌, ◌++◌, length}
use Rattle.mc_model.specs.synod.Lists.{In}

-- each number from the first on stands in one of the two, as many as they have
abbrev pub Covers : ℕ → List ℕ → List ℕ → Type 0
Covers first saving others =
    (number : ℕ) → first ≤ number → number < first + (length saving + length others) → In number saving ⊎ In number others

-- this number stands behind one of the two
abbrev pub IsOneMore : ℕ → List ℕ → List ℕ → List ℕ → List ℕ → Type 0
IsOneMore number saving others more most =
    ((more ≡ saving ++ number ∷ []) × (most ≡ others)) ⊎ ((more ≡ saving) × (most ≡ others ++ number ∷ []))
