-- What is kept of a message, once something else is kept of one.
use Rattle.std.proofs.Common.{◌≡◌, ℕ, false, cond, List, [], ◌∷◌, Option, Some, refl, ap, arith, get_or, inl, inr}
use Rattle.std.specs.Map.{lookup}
use Rattle.std.specs.Ordering.{is_eq, nat_cmp, match_ordering}
use Rattle.std.specs.declared.cmp.Ordering.{Ordering}
use Rattle.std.specs.declared.cmp.Ordering.TheVariants.{Less, Equal, Greater}
use Rattle.std.specs.BTreeMap.{insert_entry, is_at}
use Rattle.std.specs.Option.{unwrap_or}
use Rattle.std.proofs.lemmas.Bool.Decides.{nat_tests}
use Rattle.std.proofs.lemmas.Bool.{cases_lt}
use Rattle.std.proofs.lemmas.List.{get_or-replicate, get_or_past}
use Rattle.node_model.specs.Message.{Message, most_places, unseen}
use Rattle.node_model.specs.Kept.{Kept, message_at, with_message}

module _ {V : Type 0} (key : ℕ) (value : V) where
  pub here : (es : List (ℕ × V)) → lookup (is_at (nat_cmp key)) (insert_entry nat_cmp es key value) ≡ Some value
  here [] = let same : nat_cmp key key ≡ Equal = grind (arith, nat_tests) in rw same refl
  here (e ∷ es) = at_order (nat_cmp key e.0) refl (here es)
    where
      at_order : (o : Ordering) → nat_cmp key e.0 ≡ o → lookup (is_at (nat_cmp key)) (insert_entry nat_cmp es key value) ≡ Some value →
          lookup (is_at (nat_cmp key)) (match_ordering o ((key, value) ∷ e ∷ es) ((e.0, value) ∷ es) (e ∷ insert_entry nat_cmp es key value)) ≡ Some value
      at_order Less is rest = let same : nat_cmp key key ≡ Equal = grind (arith, nat_tests) in rw same refl
      at_order Equal is rest = rw is refl
      at_order Greater is rest = rw is rest

  skips : (other : ℕ) → (other ≡ key → ⊥) → is_at (nat_cmp other) key ≡ false
  skips other apart = at_order (nat_cmp other key) refl
    where
      at_order : (o : Ordering) → nat_cmp other key ≡ o → is_eq o ≡ false
      at_order Less is = refl
      at_order Equal is = absurd (apart (grind (arith, nat_tests)))
      at_order Greater is = refl

  pub elsewhere : (other : ℕ) → (other ≡ key → ⊥) → (es : List (ℕ × V)) →
      lookup (is_at (nat_cmp other)) (insert_entry nat_cmp es key value) ≡ lookup (is_at (nat_cmp other)) es
  elsewhere other apart [] = rw (skips other apart) refl
  elsewhere other apart (e ∷ es) = at_order (nat_cmp key e.0) refl (elsewhere other apart es)
    where
      at_order : (o : Ordering) → nat_cmp key e.0 ≡ o → lookup (is_at (nat_cmp other)) (insert_entry nat_cmp es key value) ≡ lookup (is_at (nat_cmp other)) es →
          lookup (is_at (nat_cmp other)) (match_ordering o ((key, value) ∷ e ∷ es) ((e.0, value) ∷ es)
          (e ∷ insert_entry nat_cmp es key value)) ≡ lookup (is_at (nat_cmp other)) (e ∷ es)
      at_order Less is rest = rw (skips other apart) refl
      at_order Equal is rest =
          let same : e.0 ≡ key = grind (arith, nat_tests) in
          let skipped : is_at (nat_cmp other) e.0 ≡ false = rw same (skips other apart) in
          rw skipped refl
      at_order Greater is rest = ap (λ (o : Option V). cond (is_at (nat_cmp other) e.0) (Some e.1) o) rest

pub message_here : (k : Kept) (id : ℕ) (m : Message) → message_at (with_message k id m) id ≡ m
message_here k id m = ap (λ (o : Option Message). unwrap_or o unseen) (here id m k.messages)

pub message_elsewhere : (k : Kept) (id other : ℕ) (m : Message) → (other ≡ id → ⊥) → message_at (with_message k id m) other ≡ message_at k other
message_elsewhere k id other m apart = ap (λ (o : Option Message). unwrap_or o unseen) (elsewhere id m other apart k.messages)

-- no round was tried at any place
pub zeros : (place : ℕ) → get_or unseen.seen place 0 ≡ 0
zeros place = elim (cases_lt place most_places) [
  | inl within ↦ get_or-replicate most_places place 0 0 within
  | inr past ↦ get_or_past unseen.seen place 0 past
]
