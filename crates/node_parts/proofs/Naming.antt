-- A tick passes by those that are asleep and of which no attempt may begin, unless of all.
use Rattle.std.proofs.Common.{◌≡◌, ℕ, zero, suc, ◌<◌, ◌≤◌, Bool, true, false, cond, List, [], ◌∷◌, drop, length, Option, Some, None, refl, sym, ap, subst, ◌∙◌}
use Rattle.std.proofs.Common.{inl, inr, arith}
use Rattle.std.specs.Prelude.{◌==◌, ◌&&◌, Result, Ok, Err, is_ok, is_some, nat_lt, if◌then◌else◌}
use Rattle.std.specs.List.{find}
use Rattle.std.specs.BTreeSet.{insert_key}
use Rattle.std.specs.Map.{keys_of}
use Rattle.std.specs.Ordering.{nat_cmp, match_ordering}
use Rattle.std.specs.declared.cmp.Ordering.{Ordering}
use Rattle.std.specs.declared.cmp.Ordering.TheVariants.{Less, Equal, Greater}
use Rattle.std.specs.Option.{option_or}
use Rattle.std.proofs.lemmas.Bool.{cases_Bool, eq-eqb, or_right, true≢false}
use Rattle.std.proofs.lemmas.Bool.Decides.{Decides-eqb, nat_tests}
use Rattle.mc_model.specs.message.Submission.{Submission}
use Rattle.mc_model.specs.message.Decree.{Decree}
use Rattle.mc_model.specs.message.Chain.{taken_in}
use Rattle.mc_model.specs.synod.Lists.{In}
use Rattle.mc_model.specs.node.FirstRule.{Follow, Take}
use Rattle.mc_model.specs.node.Reach.{Reach}
use Rattle.mc_model.specs.node.Setup.{Setup}
use Rattle.node_model.specs.Kept.{Kept, message_at}
use Rattle.node_model.specs.Rules.{Fitting, attempt_rule, first_rule, fitting, followed, idle_rule, is_attempt_by, known_rule, own_rule, taken_for}
use Rattle.delivery.specs.Targets.{is_up}
use Rattle.fate_chain.specs.declared.decree.Author.{Author}
use Rattle.tick_rules.specs.declared.standpoint.Standpoint.{Standpoint}
use Rattle.shelf.specs.Shelved.{value_at}
use Rattle.node_parts.specs.declared.may_begin.MayBegin.{MayBegin}
use Rattle.node_parts.specs.declared.may_begin.MayBegin.TheVariants.{All, These}
use Rattle.node_parts.specs.declared.message.Message.{Message as Filed}
use Rattle.node_parts.specs.declared.noted.Noted.{Noted}
use Rattle.node_parts.specs.declared.reach.Reach.{Reach as ReachGiven}
use Rattle.waiting_requests.specs.Numbers.{IsLeastFrom}
use Rattle.node_parts.specs.Living.{IsAsleepBy, IsNextBy, is_kept_in, lower_of}
use Rattle.node_parts.specs.Rising.{AreRising, IsCut, IsPlaceOf, IsRest}
use Rattle.node_parts.specs.Reaching.{are_all, may_of, named_in, reach_of}
use Rattle.node_parts.specs.Rising.{has_id}
use Rattle.node_parts.specs.Sleeping.{IsAsleep, IsNoted, reach_noted}
use Rattle.node_parts.proofs.IdLists.{tail_cut}
use Rattle.node_parts.proofs.Living.{listed_key}
use Rattle.node_parts.proofs.Looking.{absent, at_in}
use Rattle.node_parts.proofs.Rising.{each}

-- ---- of two ways to reach, alike for one message, the same rule fits it

module _ (setup : Setup) (k : Kept) (one other : Reach) (id : ℕ) (up : one.up ≡ other.up) (may : one.may id ≡ other.may id) where
  own_alike : (newest : Decree) (older : List Decree) (taken : Option Submission) →
      own_rule setup k one id newest older taken ≡ own_rule setup k other id newest older taken
  own_alike newest older None = refl
  own_alike newest older (Some taken) = λ i.
      if is_attempt_by setup.node newest newest.kind
      then attempt_rule setup k (message_at k id) (up i taken.target) newest older
      else idle_rule setup k id taken (may i && up i taken.target) newest older

  known_alike : (known : Option (List Decree)) → known_rule setup k one id known ≡ known_rule setup k other id known
  known_alike None = refl
  known_alike (Some []) = refl
  known_alike (Some (newest ∷ older)) = own_alike newest older (taken_in (newest ∷ older))

  rule_alike : first_rule setup k one id ≡ first_rule setup k other id
  rule_alike =
      ap (λ (known : Option Fitting). option_or (fitting Take (taken_for setup k id k.held))
      (option_or (fitting Follow (followed k id)) known))
      (known_alike (message_at k id).known)

asleep_alike : (s : Standpoint) (one other : Reach) (id : ℕ) (m : Filed) → one.up ≡ other.up → one.may id ≡ other.may id → IsAsleep s one id m →
    IsAsleep s other id m
asleep_alike s one other id m up may is = record {
  unruled = λ setup k held rest unasked. sym (rule_alike setup k one other id up may) ∙ is.unruled setup k held rest unasked;
}

-- ---- what is noted, and what a tick hands in

unlisted : (ids : List ℕ) (id : ℕ) → (In id ids → ⊥) → has_id ids id ≡ false
unlisted [] id other = refl
unlisted (x ∷ xs) id other = elim (cases_Bool (x == id)) [
  | inl same ↦ absurd (other (inl (sym ((Decides-eqb x id).0 same))))
  | inr differs ↦ rw differs (unlisted xs id (λ later. other (inr later)))
]

listed : (ids : List ℕ) (id : ℕ) → In id ids → has_id ids id ≡ true
listed [] id none = absurd none
listed (x ∷ xs) id (inl same) = let here : (x == id) ≡ true = eq-eqb x id (sym same) in rw here refl
listed (x ∷ xs) id (inr later) = or_right (x == id) (has_id xs id) (listed xs id later)

-- an id is found among others, or it is not
pub found_among : (ids : List ℕ) (id : ℕ) (place : Result ℕ ℕ) → AreRising ids → IsPlaceOf ids id place → is_ok place ≡ has_id ids id
found_among ids id (Ok place) rise at = sym (listed ids id (at_in ids place id at.1.0))
found_among ids id (Err place) rise at = sym (unlisted ids id (absent ids id place rise at))

unnamed : (may : MayBegin) (id : ℕ) → (In id (named_in may) → ⊥) → are_all may ≡ may_of may id
unnamed All id other = refl
unnamed (These ids) id other = sym (unlisted ids id other)

pub passed_by : (noted : Option Noted) (given : ReachGiven) (s : Standpoint) → IsNoted noted s.author given.up.items (are_all given.may) →
    (id : ℕ) (m : Filed) → IsAsleepBy noted s.clock id m → (In id (named_in given.may) → ⊥) → IsAsleep s (reach_of given) id m
passed_by None given s same id m asleep other = absurd same
passed_by (Some noted) given s same id m asleep other =
    asleep_alike s (reach_noted noted) (reach_of given) id m (ap is_up same.1.0) (same.1.1 ∙ unnamed given.may id other)
    (subst (λ (me : Author). IsAsleep (record { author = me; clock = s.clock }) (reach_noted noted) id m) same.0 asleep)

-- ---- the lower of two that come next

pub next_lower : (P Q : ℕ → Filed → Type 0) (entries : List (ℕ × Filed)) (from : ℕ) (one other : Option ℕ) → IsNextBy P entries from one →
    IsNextBy Q entries from other → IsNextBy (λ id m. P id m × Q id m) entries from (lower_of one other)
next_lower P Q entries from None None p q = λ id m found above. (p id m found above, q id m found above)
next_lower P Q entries from None (Some b) p q =
    (q.0, (q.1.0, λ id m found above before. (p id m found above, q.1.1 id m found above before)))
next_lower P Q entries from (Some a) None p q =
    (p.0, (p.1.0, λ id m found above before. (p.1.1 id m found above before, q id m found above)))
next_lower P Q entries from (Some a) (Some b) p q = by_test (nat_lt b a) refl
  where
    by_test : (test : Bool) → nat_lt b a ≡ test → IsNextBy (λ id m. P id m × Q id m) entries from (if test then Some b else Some a)
    by_test true is =
        let below : b < a = grind (arith, nat_tests) in
        (q.0, (q.1.0, λ id m found above before. (p.1.1 id m found above (omega (arith, before, below)), q.1.1 id m found above before)))
    by_test false is =
        let least : a ≤ b = grind (arith, nat_tests) in
        (p.0, (p.1.0, λ id m found above before. (p.1.1 id m found above before, q.1.1 id m found above (omega (arith, before, least)))))

-- ---- those from a number on

pub no_rest : (from : ℕ) → IsRest [] from []
no_rest from = record {
  rising = tt;
  place = 0;
  cut = record {
    within = omega arith;
    before = λ other d lower. absurd (omega (arith, lower));
    behind = λ other d least within. absurd (omega (arith, within));
  };
  behind = refl;
}

-- ---- one more

pub one_more_at_most : (x : ℕ) (xs : List ℕ) → length (insert_key nat_cmp xs x) ≤ suc (length xs)
one_more_at_most x [] = omega arith
one_more_at_most x (y ∷ ys) = at_order (nat_cmp x y) (one_more_at_most x ys)
  where
    at_order : (o : Ordering) → length (insert_key nat_cmp ys x) ≤ suc (length ys) →
        length (match_ordering o (x ∷ y ∷ ys) (y ∷ ys) (y ∷ insert_key nat_cmp ys x)) ≤ suc (suc (length ys))
    at_order Less rest = omega arith
    at_order Equal rest = omega arith
    at_order Greater rest = omega (arith, rest)

-- ---- the first that is named and kept

module _ (kept : ℕ → Bool) where
  abbrev IsKeptIn : List ℕ → ℕ → Type 0
  IsKeptIn ids id = In id ids × (kept id ≡ true)

  first_named : (ids : List ℕ) (from place : ℕ) → AreRising ids → IsCut ids from place → IsLeastFrom from (IsKeptIn ids) (find kept (drop place ids))
  first_named [] from zero rise cut = λ id is. absurd is.0
  first_named [] from (suc place) rise cut = λ id is. absurd is.0
  first_named (x ∷ xs) from (suc place) rise cut =
      let below : x < from = cut.before zero zero (omega arith) in
      by_found (find kept (drop place xs)) (first_named xs from place rise.1 (tail_cut x xs from place cut)) below
    where
      by_found : (found : Option ℕ) → IsLeastFrom from (IsKeptIn xs) found → x < from → IsLeastFrom from (IsKeptIn (x ∷ xs)) found
      by_found None least below = λ id is. elim is.0 [ inl same ↦ omega (arith, same, below) | inr later ↦ least id (later, is.1) ]
      by_found (Some found) least below = (
        (inr least.0.0, least.0.1),
        (
          least.1.0,
          λ id is from_there. elim is.0 [
            | inl same ↦ absurd (omega (arith, same, below, from_there))
            | inr later ↦ least.1.1 id (later, is.1) from_there
          ],
        ),
      )
  first_named (x ∷ xs) from zero rise cut =
      by_test (kept x) refl (first_named xs from zero rise.1 (record {
        within = omega arith;
        before = λ other d lower. absurd (omega (arith, lower));
        behind = λ other d least within. cut.behind (suc other) d (omega arith) (omega (arith, within));
      }))
    where
      above : from ≤ x
      above = cut.behind zero zero (omega arith) (omega arith)

      by_test : (test : Bool) → kept x ≡ test → IsLeastFrom from (IsKeptIn xs) (find kept xs) →
          IsLeastFrom from (IsKeptIn (x ∷ xs)) (cond test (Some x) (find kept xs))
      by_test true is rest = (
        (inl refl, is),
        (
          above,
          λ id one from_there. elim one.0 [
            | inl same ↦ omega (arith, same)
            | inr later ↦ let higher = each (λ (y : ℕ). x < y) xs rise.0 id later in omega (arith, higher)
          ],
        ),
      )
      by_test false is rest = by_found (find kept xs) rest
        where
          by_found : (found : Option ℕ) → IsLeastFrom from (IsKeptIn xs) found → IsLeastFrom from (IsKeptIn (x ∷ xs)) found
          by_found None least = λ id one. elim one.0 [
            | inl same ↦ absurd (true≢false (sym one.1 ∙ ap kept same ∙ is))
            | inr later ↦ least id (later, one.1)
          ]
          by_found (Some found) least = (
            (inr least.0.0, least.0.1),
            (
              least.1.0,
              λ id one from_there. elim one.0 [
                | inl same ↦ absurd (true≢false (sym one.1 ∙ ap kept same ∙ is))
                | inr later ↦ least.1.1 id (later, one.1) from_there
              ],
            ),
          )

kept_key : (entries : List (ℕ × Filed)) (id : ℕ) → is_kept_in entries id ≡ true → In id (keys_of entries)
kept_key entries id is = by_value (value_at entries id) refl is
  where
    by_value : (value : Option Filed) → value_at entries id ≡ value → is_some value ≡ true → In id (keys_of entries)
    by_value None found so = absurd (true≢false (sym so))
    by_value (Some m) found so = listed_key entries id m found

pub named_next : (entries : List (ℕ × Filed)) (ids : List ℕ) (from : ℕ) (rest : List ℕ) (found : Option ℕ) → IsRest ids from rest →
    found ≡ find (is_kept_in entries) rest → IsNextBy (λ id m. In id ids → ⊥) entries from found
named_next entries ids from rest found is first =
    by_found found (subst (IsLeastFrom from (IsKeptIn (is_kept_in entries) ids)) (sym (first ∙ ap (find (is_kept_in entries)) is.behind))
    (first_named (is_kept_in entries) ids from is.place is.rising is.cut))
  where
    there : (id : ℕ) (m : Filed) → value_at entries id ≡ Some m → is_kept_in entries id ≡ true
    there id m at = ap is_some at

    by_found : (of : Option ℕ) → IsLeastFrom from (IsKeptIn (is_kept_in entries) ids) of → IsNextBy (λ id m. In id ids → ⊥) entries from of
    by_found None least = λ id m at above named. let below = least id (named, there id m at) in omega (arith, below, above)
    by_found (Some it) least = (
      kept_key entries it least.0.1,
      (
        least.1.0,
        λ id m at above before named. let lower = least.1.1 id (named, there id m at) above in omega (arith, lower, before),
      ),
    )
