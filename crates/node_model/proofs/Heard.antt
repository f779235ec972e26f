-- Whose votes are heard, if one more is.
use Rattle.std.proofs.Common.{◌≡◌, ◌⊎◌, ℕ, Bool, true, false, refl, sym, ◌∙◌, inl, inr}
use Rattle.std.specs.Prelude.{◌==◌, if◌then◌else◌}
use Rattle.std.specs.Bool.{Decides}
use Rattle.std.proofs.lemmas.Bool.{true≢false}
use Rattle.std.proofs.lemmas.Bool.Decides.{Decides-eqb, Decides-like, Decides-or}
use Rattle.mc_model.specs.synod.OneSlot.{Vote}
use Rattle.node_model.specs.Sets.{with_node}
use Rattle.node_model.specs.Message.{Message}
use Rattle.node_model.specs.Learner.{heard}
use Rattle.node_model.specs.Same.{same_vote}
use Rattle.node_model.proofs.Same.{vote_decides}

pub with_voter : (m : Message) (voter : ℕ) (vote : Vote) (node : ℕ) (other : Vote) →
    Decides ((heard m voter vote).votes other node) ((m.votes other node ≡ true) ⊎ ((vote ≡ other) × (node ≡ voter)))
with_voter m voter vote node other = by_test (same_vote vote other) refl
  where
    by_test : (test : Bool) → same_vote vote other ≡ test →
        Decides ((if test then with_node (m.votes other) voter else m.votes other) node) ((m.votes other node ≡ true) ⊎ ((vote ≡ other) × (node ≡ voter)))
    by_test true same =
        Decides-like (with_node (m.votes other) voter node)
        (λ p. elim p [ inl before ↦ inl before | inr now ↦ inr ((vote_decides vote other).0 same, now) ])
        (λ p. elim p [ inl before ↦ inl before | inr now ↦ inr now.1 ])
        (Decides-or (m.votes other node) (node == voter) ((λ t. t), (λ t. t)) (Decides-eqb node voter))
    by_test false differs = (
      λ t. inl t,
      λ p. elim p [ inl before ↦ before | inr now ↦ absurd (true≢false (sym ((vote_decides vote other).1 now.0) ∙ differs)) ],
    )
