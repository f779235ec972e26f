-- At which places an account is up.
use Rattle.std.proofs.Common.{◌≡◌, ◌⊎◌, ℕ, ◌+◌, ◌<◌, ◌≤◌, ◌↔◌, Bool, false, true, zero, suc, length, arith, ap, sym, ◌∙◌, List, Some, None, Option, refl, map, add-one, below_more, eqb, inl, inr}
use Rattle.std.proofs.Math.Nat.{add-sub_cancel}
use Rattle.std.specs.Prelude.{IsTrue, slice_get, option_map}
use Rattle.std.specs.Option.{option_map_or}
use Rattle.std.proofs.lemmas.Bool.{eqb-true, eq-eqb}
use Rattle.std.specs.Global.{Vec}
use Rattle.std.proofs.lemmas.Option.{slice_get-map}
use Rattle.waiting_messages.specs.Accounts.{is_among}
use Rattle.waiting_messages.specs.Spreads.{Begins, IsDown, IsFirstUp, behind, is_up_at}

abbrev pub items_of : Vec (List ℕ) → List (List ℕ)
items_of accounts = accounts.items

pub up-map : (account : List ℕ) (found : Option (Vec (List ℕ))) →
    option_map_or (is_among account) (option_map items_of found) false ≡ option_map_or (λ accounts. is_among account (items_of accounts)) found false
up-map account None = refl
up-map account (Some accounts) = refl

pub up_there : (up : List (Vec (List ℕ))) (place : ℕ) (account : List ℕ) →
    is_up_at (map items_of up) (place + 1) account ≡ option_map_or (λ accounts. is_among account (items_of accounts)) (slice_get up place) false
up_there up place account = rw (add-sub_cancel place 1, slice_get-map items_of up place) (up-map account (slice_get up place))

-- no fewer steps lead to a node at which the account is up
no_fewer : (spread : List (List (List ℕ))) (home : ℕ) (account : List ℕ) (one other : ℕ) → IsFirstUp spread home account one →
    IsFirstUp spread home account other → one < other → ⊥
no_fewer spread home account one other first second less =
    let up : is_up_at spread (behind (length spread) home one) account ≡ true = first.up in
    let down : is_up_at spread (behind (length spread) home one) account ≡ false = second.before one less in
    cc

same_steps : (spread : List (List (List ℕ))) (home : ℕ) (account : List ℕ) (one other : ℕ) → IsFirstUp spread home account one →
    IsFirstUp spread home account other → one ≡ other
same_steps spread home account one other first second =
    let not_less = no_fewer spread home account one other first second in
    let not_more = no_fewer spread home account other one second first in
    omega (arith, not_less, not_more)

pub one_begins : (spread : List (List (List ℕ))) (home : ℕ) (account : List ℕ) (node other : ℕ) → Begins spread node home account →
    Begins spread other home account → node ≡ other
one_begins spread home account node other one two =
    one.is_there ∙ ap (behind (length spread) home) (same_steps spread home account one.steps two.steps one.first two.first) ∙ sym two.is_there

module _ (spread : List (List (List ℕ))) (home : ℕ) (account : List ℕ) where
  -- the account is first up at one of so many nodes, or at none of them
  abbrev UpIn : ℕ → Type 0
  UpIn most =
      ((steps : ℕ) × IsFirstUp spread home account steps) ⊎
      ((fewer : ℕ) → fewer < most → is_up_at spread (behind (length spread) home fewer) account ≡ false)

  one_more : (most : ℕ) → most < length spread → UpIn most → (is : Bool) → is_up_at spread (behind (length spread) home most) account ≡ is → UpIn (suc most)
  one_more most within (inl found) is e = inl found
  one_more most within (inr none) true e = inl (most, record { within = within; up = e; before = none })
  one_more most within (inr none) false e = inr (rw (← (add-one most)) (below_more _ most none e))

  up_in : (most : ℕ) → most ≤ length spread → UpIn most
  up_in zero within = inr (λ fewer below. absurd (omega arith))
  up_in (suc most) within =
      one_more most within (up_in most (omega arith)) (is_up_at spread (behind (length spread) home most) account) refl

  nowhere : (node : ℕ) → IsDown spread home account → Begins spread node home account → ⊥
  nowhere node down begins =
      let not_up : is_up_at spread (behind (length spread) home begins.steps) account ≡ false = down begins.steps begins.first.within in
      let up : is_up_at spread (behind (length spread) home begins.steps) account ≡ true = begins.first.up in
      cc

  test_in : (node : ℕ) → UpIn (length spread) → (is : Bool) × (IsTrue is ↔ Begins spread node home account)
  test_in node (inl found) =
      let there : ℕ = behind (length spread) home found.0 in
      let begins : node ≡ there → Begins spread node home account = λ e. record { steps = found.0; first = found.1; is_there = e } in
      let same : (it : Begins spread node home account) → it.steps ≡ found.0 = λ it. same_steps spread home account it.steps found.0 it.first found.1 in
      let is_there : Begins spread node home account → node ≡ there = λ it. it.is_there ∙ ap (behind (length spread) home) (same it) in
      (eqb node there, (λ h. begins (eqb-true node there h), λ it. eq-eqb node there (is_there it)))
  test_in node (inr none) = (false, (λ h. absurd (cc), λ it. absurd (nowhere node none it)))

  -- a test tells whether a node begins the attempts
  pub begins_told : (node : ℕ) → (is : Bool) × (IsTrue is ↔ Begins spread node home account)
  begins_told node = test_in node (up_in (length spread) (omega arith))
