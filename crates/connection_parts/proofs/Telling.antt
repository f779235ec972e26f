-- What a timepiece tells, beside the system's clock.
use Rattle.std.proofs.Common.{◌≡◌, ◌⊎◌, ℕ, ◌≤◌, Bool, true, false, Option, Some, None, refl, inl, inr, arith}
use Rattle.std.proofs.lemmas.Bool.{cases_Bool}
use Rattle.std.proofs.lemmas.Bool.Decides.{nat_tests}
use Rattle.std.specs.Prelude.{max, nat_lt}
use Rattle.connection_parts.specs.Timepieces.{Timepiece, after, expected, is_near, is_new}
use Rattle.connection_parts.specs.TimepieceLaws.{AreNear, IsAwaited, IsLeft}

abbrev IsTold : Timepiece → ℕ → ℕ → Timepiece → Type 0
IsTold old steady system new = AreNear new.moment system ⊎ IsLeft old new steady ⊎ IsAwaited old new steady system

-- a clock that is near
when_near : (old : Timepiece) (steady system : ℕ) → old.moment ≤ 0xFFFF_FFFF_FFFF_FFFF → is_near (expected old steady) system ≡ true →
    AreNear (max old.moment system) system
when_near old steady system most near = (grind (arith, nat_tests, near, most), grind (arith, nat_tests, near, most))

-- one that was near before
module _ (old : Timepiece) (steady system : ℕ) (most : old.moment ≤ 0xFFFF_FFFF_FFFF_FFFF) (far : is_near (expected old steady) system ≡ false) where
  by_ahead : (since : ℕ) → old.apart ≡ Some since → is_new (Some since) (max old.steady steady) ≡ false →
      (ahead : Bool) → nat_lt (expected old steady) system ≡ ahead → IsTold old steady system (after old steady system)
  by_ahead since apart long true ahead = inl (rw (far, apart, long, ahead) (grind arith, grind arith))
  by_ahead since apart long false ahead = inr (inr (record {
    since = since;
    apart = rw (far, apart) refl;
    long = rw (far) (grind (arith, nat_tests, long));
    behind = rw (far, apart, long, ahead) (grind (arith, nat_tests, far, ahead, most));
    goes = rw (far, apart, long, ahead) refl;
  }))

  by_age : (since : ℕ) → old.apart ≡ Some since → (brief : Bool) → is_new (Some since) (max old.steady steady) ≡ brief →
      IsTold old steady system (after old steady system)
  by_age since apart true brief = inr (inl (record {
    since = since;
    apart = rw (far, apart) refl;
    brief = rw (far) (grind (arith, nat_tests, brief));
    goes = rw (far, apart, brief) refl;
  }))
  by_age since apart false long = by_ahead since apart long (nat_lt (expected old steady) system) refl

  by_apart : (apart : Option ℕ) → old.apart ≡ apart → IsTold old steady system (after old steady system)
  by_apart None is = inr (inl (record {
    since = max old.steady steady;
    apart = rw (far, is) refl;
    brief = rw (far) (grind arith);
    goes = rw (far, is) refl;
  }))
  by_apart (Some since) is = by_age since is (is_new (Some since) (max old.steady steady)) refl

pub is_told : (old : Timepiece) (steady system : ℕ) → old.moment ≤ 0xFFFF_FFFF_FFFF_FFFF → IsTold old steady system (after old steady system)
is_told old steady system most = elim (cases_Bool (is_near (expected old steady) system)) [
  | inl near ↦ inl (rw near (when_near old steady system most near))
  | inr far ↦ by_apart old steady system most far old.apart refl
]
