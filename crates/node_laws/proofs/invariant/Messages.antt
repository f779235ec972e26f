-- What holds of each message, once something else is kept of one.
use Rattle.std.proofs.Common.{◌≡◌, ℕ, Bool, true, false, List, IsSome, refl, sym, subst}
use Rattle.std.specs.Prelude.{◌==◌}
use Rattle.std.specs.Map.{lookup}
use Rattle.std.specs.Ordering.{nat_cmp}
use Rattle.std.specs.BTreeMap.{insert_entry, is_at}
use Rattle.std.proofs.lemmas.Bool.{eqb-false, eqb-true}
use Rattle.node_model.specs.Message.{Message}
use Rattle.node_model.specs.Kept.{Kept, message_at, with_message}
use Rattle.node_model.proofs.Places.{elsewhere, here, message_elsewhere, message_here}

-- of the message itself, and of the others
pub each_with : (P : ℕ → Message → Type 0) (k : Kept) (id : ℕ) (m : Message) → P id m →
    ((other : ℕ) → (other ≡ id → ⊥) → P other (message_at k other)) → (other : ℕ) → P other (message_at (with_message k id m) other)
each_with P k id m now before other = by_id (other == id) refl
  where
    by_id : (same : Bool) → (other == id) ≡ same → P other (message_at (with_message k id m) other)
    by_id true same =
        let is : other ≡ id = eqb-true other id same in
        subst (λ (i : ℕ). P i (message_at (with_message k id m) i)) (sym is) (subst (P id) (sym (message_here k id m)) now)
    by_id false differs =
        let apart : other ≡ id → ⊥ = eqb-false other id differs in
        subst (P other) (sym (message_elsewhere k id other m apart)) (before other apart)

-- a message that is listed is listed then
pub listed_with : (es : List (ℕ × Message)) (id : ℕ) (m : Message) (other : ℕ) → IsSome (lookup (is_at (nat_cmp other)) es) →
    IsSome (lookup (is_at (nat_cmp other)) (insert_entry nat_cmp es id m))
listed_with es id m other some = by_id (other == id) refl
  where
    by_id : (same : Bool) → (other == id) ≡ same → IsSome (lookup (is_at (nat_cmp other)) (insert_entry nat_cmp es id m))
    by_id true same =
        let is : other ≡ id = eqb-true other id same in
        subst (λ (i : ℕ). IsSome (lookup (is_at (nat_cmp i)) (insert_entry nat_cmp es id m))) (sym is) (subst IsSome (sym (here id m es)) refl)
    by_id false differs = subst IsSome (sym (elsewhere id m other (eqb-false other id differs) es)) some
