-- The rounds end of the messages that are awake, and no others run.
use Rattle.std.proofs.Common.{◌≡◌, ◌⊎◌, ℕ, ◌<◌, true, List, [], ◌∷◌, map, Option, Some, None, refl}
use Rattle.std.proofs.Common.{sym, ap, subst, ◌∙◌, inl, inr, arith}
use Rattle.std.specs.Prelude.{◌==◌}
use Rattle.std.specs.BTreeMap.{is_at}
use Rattle.std.specs.Map.{keys_of}
use Rattle.std.specs.Ordering.{match_ordering, nat_cmp}
use Rattle.std.specs.declared.cmp.Ordering.{Ordering}
use Rattle.std.specs.declared.cmp.Ordering.TheVariants.{Less, Equal, Greater}
use Rattle.std.proofs.lemmas.Bool.{cases_Bool, eq-eqb, true≢false}
use Rattle.std.proofs.lemmas.Bool.Decides.{Decides-eqb, nat_tests}
use Rattle.mc_model.specs.synod.Lists.{In}
use Rattle.node_model.proofs.Places.{elsewhere, here}
use Rattle.shelf.specs.Shelved.{value_at, with_value}
use Rattle.node_parts.specs.declared.listing.Listing.{Listing}
use Rattle.node_parts.specs.declared.message.Message.{Message as Filed}
use Rattle.node_parts.specs.declared.noted.Noted.{Noted}
use Rattle.node_parts.specs.Living.{AreListed, dropped, dropped_at, dropped_of}
use Rattle.node_parts.specs.Rising.{AreRising}
use Rattle.node_parts.specs.Messages.{rested, rested_entry}
use Rattle.node_parts.specs.Sleeping.{AreNoted, IsNotedOf, ids_of, reach_noted}
use Rattle.node_parts.specs.Waking.{AreAwake}
use Rattle.node_parts.proofs.Living.{keys_put, listed_key}
use Rattle.node_parts.proofs.Listings.{among_or}
use Rattle.node_parts.proofs.Rising.{each, put_again}
use Rattle.node_parts.proofs.Sleeping.{sleeps_without}

-- ---- the keys stay as they are

keys_at : (entries : List (ℕ × Filed)) (id : ℕ) → AreRising (keys_of entries) → keys_of (dropped_at entries id) ≡ keys_of entries
keys_at entries id rise = by_value (value_at entries id) refl
  where
    by_value : (value : Option Filed) → value_at entries id ≡ value → keys_of (dropped_of entries id value) ≡ keys_of entries
    by_value None found = refl
    by_value (Some m) found = keys_put entries id (rested m) ∙ put_again (keys_of entries) id rise (listed_key entries id m found)

-- ---- without their rounds they are the same

same_rested : (entries : List (ℕ × Filed)) (id : ℕ) (m : Filed) → AreRising (keys_of entries) → value_at entries id ≡ Some m →
    map rested_entry (with_value entries id (rested m)) ≡ map rested_entry entries
same_rested [] id m rise found = absurd (cc)
same_rested (e ∷ es) id m rise found = at_order (nat_cmp id e.0) refl found (same_rested es id m rise.1)
  where
    at_order : (o : Ordering) → nat_cmp id e.0 ≡ o → value_at (e ∷ es) id ≡ Some m →
        (value_at es id ≡ Some m → map rested_entry (with_value es id (rested m)) ≡ map rested_entry es) →
        map rested_entry (match_ordering o ((id, rested m) ∷ e ∷ es) ((e.0, rested m) ∷ es) (e ∷ with_value es id (rested m))) ≡ map rested_entry (e ∷ es)
    at_order Less is at rest = elim (listed_key (e ∷ es) id m at) [
      | inl same ↦ absurd (let below : id < e.0 = grind (arith, nat_tests) in omega (arith, below, same))
      | inr later ↦
          let below : id < e.0 = grind (arith, nat_tests) in
          let above = each (λ (y : ℕ). e.0 < y) (keys_of es) rise.0 id later in
          absurd (omega (arith, below, above))
    ]
    at_order Equal is at rest =
        let it : Some e.1 ≡ Some m = rw is at at in
        let same : m ≡ e.1 = cc in
        ap (λ (n : Filed). (e.0, rested n) ∷ map rested_entry es) same
    at_order Greater is at rest = ap (λ (others : List (ℕ × Filed)). rested_entry e ∷ others) (rest (rw is at at))

at_rested : (entries : List (ℕ × Filed)) (id : ℕ) → AreRising (keys_of entries) → map rested_entry (dropped_at entries id) ≡ map rested_entry entries
at_rested entries id rise = by_value (value_at entries id) refl
  where
    by_value : (value : Option Filed) → value_at entries id ≡ value → map rested_entry (dropped_of entries id value) ≡ map rested_entry entries
    by_value None found = refl
    by_value (Some m) found = same_rested entries id m rise found

-- ---- no round is left

abbrev pub RunAmong : List (ℕ × Filed) → List ℕ → Type 0
RunAmong entries ids = (id : ℕ) (m : Filed) → value_at entries id ≡ Some m → (m.proposer.round ≡ None) ⊎ In id ids

run_later : (entries : List (ℕ × Filed)) (n : ℕ) (ns : List ℕ) → RunAmong entries (n ∷ ns) → RunAmong (dropped_at entries n) ns
run_later entries n ns run = by_value (value_at entries n) refl
  where
    behind : (id : ℕ) → (id ≡ n → ⊥) → (id ≡ n) ⊎ In id ns → In id ns
    behind id apart (inl same) = absurd (apart same)
    behind id apart (inr later) = later

    by_value : (value : Option Filed) → value_at entries n ≡ value → RunAmong (dropped_of entries n value) ns
    by_value None none id m found = elim (cases_Bool (id == n)) [
      | inl same ↦
          let ids : id ≡ n = (Decides-eqb id n).0 same in
          let nothing : None ≡ Some m = sym none ∙ sym (ap (value_at entries) ids) ∙ found in
          absurd (cc)
      | inr differs ↦ elim (run id m found) [
        | inl rests ↦ inl rests
        | inr awake ↦ inr (behind id (λ it. true≢false (sym (eq-eqb id n it) ∙ differs)) awake)
      ]
    ]
    by_value (Some was) at id m found = elim (cases_Bool (id == n)) [
      | inl same ↦
          let ids : id ≡ n = (Decides-eqb id n).0 same in
          let put : Some m ≡ Some (rested was) =
          sym found ∙ subst (λ (key : ℕ). value_at (with_value entries n (rested was)) key ≡ Some (rested was)) (sym ids) (here n (rested was) entries) in
          let is : rested was ≡ m = cc in
          inl (sym (ap (λ (one : Filed). one.proposer.round) is))
      | inr differs ↦
          let apart : id ≡ n → ⊥ = λ ids. true≢false (sym (eq-eqb id n ids) ∙ differs) in
          elim (run id m (sym (elsewhere n (rested was) id apart entries) ∙ found)) [
            | inl rests ↦ inl rests
            | inr awake ↦ inr (behind id apart awake)
          ]
    ]

unchanged : (m : Filed) → m.proposer.round ≡ None → rested m ≡ m
unchanged m rests = λ i. record m { proposer = record m.proposer { round = sym rests i } }

pub at_itself : (id : ℕ) → is_at (nat_cmp id) id ≡ true
at_itself id = let same : nat_cmp id id ≡ Equal = grind (arith, nat_tests) in rw same refl

all_rest : (entries : List (ℕ × Filed)) → AreRising (keys_of entries) → ((id : ℕ) (m : Filed) → value_at entries id ≡ Some m → m.proposer.round ≡ None) →
    map rested_entry entries ≡ entries
all_rest [] rise rests = refl
all_rest (e ∷ es) rise rests =
    let first : rested e.1 ≡ e.1 = unchanged e.1 (rests e.0 e.1 (let at = at_itself e.0 in rw at refl)) in
    λ i. (e.0, first i) ∷ all_rest es rise.1 (λ id m found. rests id m (behind id m found)) i
  where
    behind : (id : ℕ) (m : Filed) → value_at es id ≡ Some m → value_at (e ∷ es) id ≡ Some m
    behind id m found =
        let above = each (λ (y : ℕ). e.0 < y) (keys_of es) rise.0 id (listed_key es id m found) in
        let greater : nat_cmp id e.0 ≡ Greater = grind (arith, nat_tests) in
        rw greater found

pub all_dropped : (ids : List ℕ) (entries : List (ℕ × Filed)) → AreRising (keys_of entries) → RunAmong entries ids →
    dropped ids entries ≡ map rested_entry entries
all_dropped [] entries rise run = sym (all_rest entries rise (λ id m found. elim (run id m found) [ inl rests ↦ rests | inr none ↦ absurd none ]))
all_dropped (n ∷ ns) entries rise run =
    all_dropped ns (dropped_at entries n) (subst AreRising (sym (keys_at entries n rise)) rise) (run_later entries n ns run) ∙ at_rested entries n rise

-- ---- by what is noted

pub runs_among : (entries : List (ℕ × Filed)) (live : List Listing) (ids : List ℕ) (room until : ℕ) (noted : Option Noted) →
    AreListed entries (ids_of live) room → AreNoted noted entries live → AreAwake until live ids → RunAmong entries ids
runs_among entries live ids room until noted listed are awake id m found = elim (among_or id live) [
  | inr none ↦ inl (listed.others id m found none).rests
  | inl there ↦ by_until there.0 there.1 there.2 there.0.until refl
]
  where
    by_noted : (of : Option Noted) (u : ℕ) → IsNotedOf of id m (Some u) → m.proposer.round ≡ None
    by_noted None u is = absurd is
    by_noted (Some of) u is = (sleeps_without of.me (reach_noted of) id m u is).0

    by_until : (l : Listing) → In l live → l.id ≡ id → (moment : Option ℕ) → l.until ≡ moment → (m.proposer.round ≡ None) ⊎ In id ids
    by_until l among named None is = inr (subst (λ (n : ℕ). In n ids) named (awake.each l among is))
    by_until l among named (Some u) is =
        let at : value_at entries l.id ≡ Some m = ap (value_at entries) named ∙ found in
        inl (by_noted noted u (subst (λ (n : ℕ). IsNotedOf noted n m (Some u)) named
        (subst (IsNotedOf noted l.id m) is (are.each l m among at))))
