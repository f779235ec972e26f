-- The note of the first message.
use Rattle.std.proofs.Common.{◌≡◌, ℕ, true, [], ◌∷◌, refl, sym, subst, inl, inr}
use Rattle.std.specs.List.Sorted.{IsStrictlySortedBy}
use Rattle.std.specs.Ordering.{nat_cmp}
use Rattle.std.proofs.lemmas.Bool.{eqb-true}
use Rattle.mc_model.specs.synod.Lists.{In}
use Rattle.mc_parts.specs.FirstMessage.{first_id}
use Rattle.node_model.specs.Packets.{is_member}
use Rattle.node_model.specs.Stepped.{opened_new, restarted}
use Rattle.node_laws.specs.Examples.{alone}
use Rattle.rest_laws.specs.FirstMessage.{first_gone, first_note}
use Rattle.rest_laws.specs.Notes.{AreAllNoted, StartsWithout}
use Rattle.rest_laws.proofs.noting.Anew.{starts_without}

members : (voter : ℕ) → In voter (1 ∷ []) → is_member alone voter ≡ true
members voter (inl same) = subst (λ (v : ℕ). is_member alone v ≡ true) (sym same) refl
members voter (inr none) = absurd none

pub noted : AreAllNoted alone first_gone (restarted alone (opened_new alone) 0) (first_note ∷ [])
noted = record {
  each = (
    record {
      dropped = refl;
      note = record { earlier = refl; concerns = refl; members = members; majority = refl };
      over = refl;
      reached = refl;
    },
    (λ other among same. among),
    tt,
  );
  all = λ id is. (first_note, inl refl, sym (eqb-true id first_id is));
}

none_ascends : IsStrictlySortedBy nat_cmp []
unfolding IsStrictlySortedBy
none_ascends = tt

pub starts : StartsWithout alone first_gone (opened_new alone) 0 (first_note ∷ [])
starts = starts_without alone first_gone (opened_new alone) 0 (first_note ∷ []) none_ascends noted
