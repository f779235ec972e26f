-- The route of the longest prefix.
use Rattle.std.proofs.Common.{◌≡◌, ℕ, ◌+◌, ◌<◌, ◌≤◌, Bool, true, false, cond, List, [], ◌∷◌, ◌++◌, length, take, drop, get_or, Option}
use Rattle.std.proofs.Common.{Some, None, refl, sym, ap, subst, ◌∙◌, inl, inr, arith}
use Rattle.std.specs.Str.{bytes_eq}
use Rattle.std.proofs.Math.Seq.{take-append_seam}
use Rattle.std.proofs.lemmas.Bool.{cases_lt, lt-ltb, le-ltb, or_from, or_parts, true≢false}
use Rattle.std.proofs.lemmas.Bool.Decides.{Decides-eqb}
use Rattle.std.proofs.lemmas.List.{take_more}
use Rattle.std.proofs.lemmas.Slice.Eq.{starts_is}
use Rattle.accounts.specs.declared.route.Route.{Route}
use Rattle.accounts.specs.Laws.{IsAmong, IsLongest, IsPrefix}
use Rattle.accounts.specs.Routes.{AreDistinct, better, has_route, is_front, longer, route_of}
use Rattle.accounts.proofs.Named.{is_same, other_way}

-- ---- no two of one prefix, with one more

none_more : (routes : List Route) (last : Route) (prefix : List ℕ) → has_route routes prefix ≡ false → bytes_eq last.prefix prefix ≡ false →
    has_route (routes ++ last ∷ []) prefix ≡ false
none_more [] last prefix none differs = or_from _ _ differs refl
none_more (first ∷ others) last prefix none differs =
    let parts = or_parts (bytes_eq first.prefix prefix) (has_route others prefix) none in
    or_from _ _ parts.0 (none_more others last prefix parts.1 differs)

pub distinct_more : (routes : List Route) (last : Route) → AreDistinct routes → has_route routes last.prefix ≡ false → AreDistinct (routes ++ last ∷ [])
distinct_more [] last distinct none = (refl, tt)
distinct_more (first ∷ others) last distinct none =
    let parts = or_parts (bytes_eq first.prefix last.prefix) (has_route others last.prefix) none in
    (none_more others last first.prefix distinct.0 (other_way first.prefix last.prefix parts.0), distinct_more others last distinct.1 parts.1)

-- ---- route by route

three : (a b c : Route) → longer a (Some (longer b (Some c))) ≡ longer (longer a (Some b)) (Some c)
three a b c = elim (cases_lt (length b.prefix) (length c.prefix)) [
  | inl bc ↦ elim (cases_lt (length a.prefix) (length b.prefix)) [
    | inl ab ↦
        let ac : length a.prefix < length c.prefix = omega arith in
        rw (lt-ltb _ _ bc, lt-ltb _ _ ab, lt-ltb _ _ ac, lt-ltb _ _ bc)
    | inr ba ↦ rw (lt-ltb _ _ bc, le-ltb _ _ ba)
  ]
  | inr cb ↦ elim (cases_lt (length a.prefix) (length b.prefix)) [
    | inl ab ↦ rw (le-ltb _ _ cb, lt-ltb _ _ ab, le-ltb _ _ cb)
    | inr ba ↦
        let ca : length c.prefix ≤ length a.prefix = omega arith in
        rw (le-ltb _ _ cb, le-ltb _ _ ba, le-ltb _ _ ca)
  ]
]

passes : (first last : Route) (destination : List ℕ) (fits also : Bool) (others : Option Route) → is_front last destination ≡ also
    → cond fits (Some (longer first (better others last destination))) (better others last destination) ≡ better
    (cond fits (Some (longer first others)) others) last destination
passes first last destination false also others is = refl
passes first last destination true false others is = rw is
passes first last destination true true None is = rw is
passes first last destination true true (Some other) is = rw is (ap (λ (r : Route). Some r) (three first other last))

one_more : (routes : List Route) (last : Route) (destination : List ℕ) →
    route_of (routes ++ last ∷ []) destination ≡ better (route_of routes destination) last destination
one_more [] last destination = refl
one_more (first ∷ others) last destination =
    ap (λ (o : Option Route). cond (is_front first destination) (Some (longer first o)) o) (one_more others last destination)
    ∙ passes first last destination (is_front first destination) (is_front last destination) (route_of others destination) refl

pub route_more : (routes : List Route) (place : ℕ) (route : Route) (destination : List ℕ) → place < length routes →
    route ≡ get_or routes place route →
    route_of (take (place + 1) routes) destination ≡ better (route_of (take place routes) destination) route destination
route_more routes place route destination below is =
    let more : take (place + 1) routes ≡ take place routes ++ route ∷ [] = take_more routes place route below ∙ ap
    (λ (r : Route). take place routes ++ r ∷ []) (sym is) in
    ap (λ (rs : List Route). route_of rs destination) more ∙ one_more (take place routes) route destination

-- ---- the longest of those that fit

fits_is : (route : Route) (destination : List ℕ) → is_front route destination ≡ true → IsPrefix route.prefix destination
fits_is route destination fits = (drop (length route.prefix) destination, (starts_is Decides-eqb destination route.prefix _ refl).0 fits)

is_fits : (route : Route) (destination : List ℕ) → IsPrefix route.prefix destination → is_front route destination ≡ true
is_fits route destination is = (starts_is Decides-eqb destination route.prefix _ refl).1 is.0 is.1

abbrev IsBest : List Route → List ℕ → Option Route → Type 0
IsBest routes destination None = (route : Route) → IsAmong route routes → IsPrefix route.prefix destination → ⊥
IsBest routes destination (Some route) = IsLongest routes destination route

passed_by : (first other : Route) (destination : List ℕ) → is_front first destination ≡ false → other ≡ first → IsPrefix other.prefix destination → ⊥
passed_by first other destination not same is =
    true≢false (sym (is_fits first destination (subst (λ (r : Route). IsPrefix r.prefix destination) same is)) ∙ not)

best_step : (first : Route) (others : List Route) (destination : List ℕ) (fits : Bool) (best : Option Route) →
    is_front first destination ≡ fits → IsBest others destination best →
    IsBest (first ∷ others) destination (cond fits (Some (longer first best)) best)
best_step first others destination false None is before = λ route among prefix. elim among [
  | inl same ↦ passed_by first route destination is same prefix
  | inr after ↦ before route after prefix
]
best_step first others destination false (Some best) is before = record {
  given = inr before.given;
  prefix = before.prefix;
  longest = λ route among prefix. elim among [
    | inl same ↦ absurd (passed_by first route destination is same prefix)
    | inr after ↦ before.longest route after prefix
  ];
}
best_step first others destination true None is before = record {
  given = inl refl;
  prefix = fits_is first destination is;
  longest = λ route among prefix. elim among [
    | inl same ↦ let lengths = ap (λ (r : Route). length r.prefix) same in omega arith
    | inr after ↦ absurd (before route after prefix)
  ];
}
best_step first others destination true (Some best) is before = elim (cases_lt (length first.prefix) (length best.prefix)) [
  | inl below ↦ rw (lt-ltb _ _ below) (record {
    given = inr before.given;
    prefix = before.prefix;
    longest = λ route among prefix. elim among [
      | inl same ↦ let lengths = ap (λ (r : Route). length r.prefix) same in omega arith
      | inr after ↦ before.longest route after prefix
    ];
  })
  | inr above ↦ rw (le-ltb _ _ above) (record {
    given = inl refl;
    prefix = fits_is first destination is;
    longest = λ route among prefix. elim among [
      | inl same ↦ let lengths = ap (λ (r : Route). length r.prefix) same in omega arith
      | inr after ↦ let within = before.longest route after prefix in omega arith
    ];
  })
]

is_best : (routes : List Route) (destination : List ℕ) → IsBest routes destination (route_of routes destination)
is_best [] destination = λ route among prefix. absurd among
is_best (first ∷ others) destination =
    best_step first others destination (is_front first destination) (route_of others destination) refl (is_best others destination)

pub found_is_longest : (routes : List Route) (destination : List ℕ) (route : Route) → route_of routes destination ≡ Some route →
    IsLongest routes destination route
found_is_longest routes destination route found = subst (λ (o : Option Route). IsBest routes destination o) found (is_best routes destination)

pub none_fits : (routes : List Route) (destination : List ℕ) → route_of routes destination ≡ None → (route : Route) → IsAmong route routes →
    IsPrefix route.prefix destination →
    ⊥
none_fits routes destination none = subst (λ (o : Option Route). IsBest routes destination o) none (is_best routes destination)

-- ---- there is only one

same_front : (a b digits : List ℕ) → IsPrefix a digits → IsPrefix b digits → length a ≡ length b → a ≡ b
same_front a b digits first second lengths =
    sym (take-append_seam a first.0)
    ∙ ap (λ (ds : List ℕ). take (length a) ds) (sym first.1 ∙ second.1)
    ∙ ap (λ (n : ℕ). take n (b ++ second.0)) lengths
    ∙ take-append_seam b second.0

has_among : (routes : List Route) (route : Route) (prefix : List ℕ) → IsAmong route routes → route.prefix ≡ prefix → has_route routes prefix ≡ false → ⊥
has_among [] route prefix among same none = among
has_among (first ∷ others) route prefix (inl is) same none =
    let parts = or_parts (bytes_eq first.prefix prefix) (has_route others prefix) none in
    true≢false (sym (is_same first.prefix prefix (ap (λ (r : Route). r.prefix) (sym is) ∙ same)) ∙ parts.0)
has_among (first ∷ others) route prefix (inr is) same none =
    has_among others route prefix is same (or_parts (bytes_eq first.prefix prefix) (has_route others prefix) none).1

only_one : (routes : List Route) (one other : Route) → AreDistinct routes → IsAmong one routes → IsAmong other routes → one.prefix ≡ other.prefix → one ≡ other
only_one [] one other distinct among also same = absurd among
only_one (first ∷ others) one other distinct (inl is) (inl too) same = is ∙ sym too
only_one (first ∷ others) one other distinct (inl is) (inr too) same =
    absurd (has_among others other first.prefix too (sym same ∙ ap (λ (r : Route). r.prefix) is) distinct.0)
only_one (first ∷ others) one other distinct (inr is) (inl too) same =
    absurd (has_among others one first.prefix is (same ∙ ap (λ (r : Route). r.prefix) too) distinct.0)
only_one (first ∷ others) one other distinct (inr is) (inr too) same = only_one others one other distinct.1 is too same

longest_found : (routes : List Route) (destination : List ℕ) (route : Route) (found : Option Route) → AreDistinct routes →
    IsLongest routes destination route → IsBest routes destination found →
    found ≡ Some route
longest_found routes destination route None distinct is best = absurd (best route is.given is.prefix)
longest_found routes destination route (Some other) distinct is best =
    let above = best.longest route is.given is.prefix in
    let below = is.longest other best.given best.prefix in
    let lengths : length other.prefix ≡ length route.prefix = omega arith in
    ap (λ (r : Route). Some r) (only_one routes other route distinct best.given is.given
    (same_front other.prefix route.prefix destination best.prefix is.prefix lengths))

pub longest_is_found : (routes : List Route) (destination : List ℕ) (route : Route) → AreDistinct routes →
    IsLongest routes destination route →
    route_of routes destination ≡ Some route
longest_is_found routes destination route distinct is =
    longest_found routes destination route (route_of routes destination) distinct is (is_best routes destination)
