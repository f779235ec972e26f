-- A key that is found is the one that is looked for.
use Rattle.std.proofs.Common.{◌≡◌, ℕ, true, refl, sym, arith}
use Rattle.std.specs.Ordering.{is_eq, nat_cmp}
use Rattle.std.specs.BTreeMap.{is_at}
use Rattle.std.specs.declared.cmp.Ordering.{Ordering}
use Rattle.std.specs.declared.cmp.Ordering.TheVariants.{Less, Equal, Greater}
use Rattle.std.proofs.lemmas.Bool.{true≢false}
use Rattle.std.proofs.lemmas.Bool.Decides.{nat_tests}

pub same_key : (id key : ℕ) → is_at (nat_cmp id) key ≡ true → id ≡ key
same_key id key is = at_order (nat_cmp id key) refl is
  where
    at_order : (o : Ordering) → nat_cmp id key ≡ o → is_eq o ≡ true → id ≡ key
    at_order Less order is = absurd (true≢false (sym is))
    at_order Equal order is = grind (arith, nat_tests)
    at_order Greater order is = absurd (true≢false (sym is))
