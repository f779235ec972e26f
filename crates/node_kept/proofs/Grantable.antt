-- A message whose attempt could be granted is live.
use Rattle.std.proofs.Common.{◌≡◌, ◌<◌, ◌≤◌, ℕ, suc, true, List, [], ◌∷◌, length, Option, Some, None, refl, sym, subst, inl, inr, arith}
use Rattle.std.specs.Prelude.{nat_le}
use Rattle.std.proofs.lemmas.Bool.{and_parts, cases_Bool}
use Rattle.std.proofs.lemmas.Bool.Decides.{nat_tests}
use Rattle.mc_model.specs.message.Decree.{Attempt, Decree, Failed, Fate, Kind, Taken, Told}
use Rattle.mc_model.specs.message.Chain.{taken_in}
use Rattle.mc_model.specs.node.Setup.{Setup}
use Rattle.node_model.specs.Attempts.{grant_refusal, known_refusal, newest_refusal}
use Rattle.node_model.specs.Kept.{Kept}
use Rattle.node_model.specs.Message.{Message}
use Rattle.shelf.specs.Shelved.{value_at}
use Rattle.node_parts.specs.declared.message.Message.{Message as Filed}
use Rattle.node_parts.specs.Living.{IsNextLive, IsSettled, is_known_over, is_last}
use Rattle.node_parts.specs.Messages.{message_of}
use Rattle.node_kept.specs.declared.kept.Kept.{Kept as Holding}
use Rattle.node_kept.specs.Keeping.{kept_of}
use Rattle.node_kept.proofs.Answering.{none_kept, taken_there}

refused_behind_the_last : (setup : Setup) (k : Kept) (m : Message) (known : Option (List Decree)) → is_known_over known ≡ true →
    known_refusal setup k m known ≡ None → ⊥
refused_behind_the_last setup k m None over given = cc
refused_behind_the_last setup k m (Some []) over given = cc
refused_behind_the_last setup k m (Some (newest ∷ older)) over given = by_kind newest.kind over given
  where
    by_kind : (kind : Kind) → is_last (taken_in (newest ∷ older)) kind ≡ true → newest_refusal setup k m newest (length older) kind ≡ None → ⊥
    by_kind (Taken message) over given = cc
    by_kind (Attempt number) over given = cc
    by_kind (Failed error) over given = cc
    by_kind (Fate final error) over given = cc
    by_kind Told over given = cc

module _ (k : Holding) where
  abbrev pub IsGrantable : ℕ → Type 0
  IsGrantable id = grant_refusal k.setup (kept_of k) id ≡ None

  not_settled : (id : ℕ) → ((m : Filed) → value_at k.messages.entries id ≡ Some m → IsSettled id m) → IsGrantable id → ⊥
  not_settled id settled given = by_value (value_at k.messages.entries id) refl
    where
      at : Message → Type 0
      at m = known_refusal k.setup (kept_of k) m m.known ≡ None

      by_value : (value : Option Filed) → value_at k.messages.entries id ≡ value → ⊥
      by_value None none = let refused = subst at (none_kept k id none) given in cc
      by_value (Some m) found =
          let message = (taken_there k id m found).message in
          let over = and_parts _ _ (settled m found).decided in
          let kept = message_of id m in
          refused_behind_the_last k.setup (kept_of k) kept kept.known over.0 (subst at (sym message) given)

  -- if none is live from a number on, and all from another number on whose attempt could be granted stand there, then there are none
  pub none_left : (first from : ℕ) → ((id : ℕ) → IsGrantable id → first ≤ id → from ≤ id) → IsNextLive k.messages.entries from None →
      (id : ℕ) → IsGrantable id → id < first
  none_left first from passed none id given = elim (cases_Bool (nat_le first id)) [
    | inl above ↦
        let there = passed id given (grind (arith, nat_tests)) in
        absurd (not_settled id (λ m found. none id m found there) given)
    | inr before ↦ grind (arith, nat_tests)
  ]

  module _ (from next : ℕ) (live : IsNextLive k.messages.entries from (Some next)) (id : ℕ) (given : IsGrantable id) (above : from ≤ id) where
    -- none whose attempt could be granted stands before the next one that is live
    pub none_before : next ≤ id
    none_before = elim (cases_Bool (nat_le next id)) [
      | inl there ↦ grind (arith, nat_tests)
      | inr differs ↦ let before : id < next = grind (arith, nat_tests) in absurd (not_settled id (λ m found. live.1.1 id m found above before) given)
    ]

    -- if that one's could not, it stands behind
    pub behind_refused : (IsGrantable next → ⊥) → suc next ≤ id
    behind_refused refused = elim (cases_Bool (nat_le (suc next) id)) [
      | inl there ↦ grind (arith, nat_tests)
      | inr differs ↦
          let least = none_before in
          let same : id ≡ next = grind (arith, nat_tests) in
          absurd (refused (subst IsGrantable same given))
    ]
