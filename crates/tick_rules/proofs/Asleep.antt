-- No rule fits what is known until it wakes.
use Rattle.std.proofs.Common.{◌≡◌, refl, sym, ap, subst, ◌∙◌, ℕ, ◌+◌, ◌*◌, ◌<◌, ◌≤◌, Bool, true, false, List, [], ◌∷◌, slice_get, Option, Some, None, arith}
use Rattle.std.specs.Prelude.{◌==◌, ◌&&◌, is_some, min, nat_le, nat_lt, not, if◌then◌else◌}
use Rattle.std.specs.Option.{is_none, option_map, option_or}
use Rattle.std.proofs.lemmas.Bool.{true≢false}
use Rattle.std.proofs.lemmas.Bool.Decides.{nat_tests}
use Rattle.mc_model.specs.message.Submission.{Submission}
use Rattle.mc_model.specs.message.Decree.{Attempt, Decree, Expired, Failed, Fate, Kind, Taken, Told}
use Rattle.mc_model.specs.message.Neighbours.{most_attempts, retry_delay}
use Rattle.mc_model.specs.message.Chain.{attempts_in, home_in, taken_in}
use Rattle.mc_model.specs.node.FirstRule.{Announce, Close, Delete, Expire, GiveUp, Lose, Try, Undeliver}
use Rattle.mc_model.specs.node.Outcome.{Outcome}
use Rattle.node_model.specs.Proposer.{Start}
use Rattle.node_model.specs.Answers.{is_asked}
use Rattle.node_model.specs.Starts.{announced, is_idle, moment_behind, start_behind}
use Rattle.node_model.specs.Rules.{Fitting, attempt_rule, fitting, if_so, is_attempt_by, tried, undelivered}
use Rattle.fate_chain.specs.declared.decree.Author.{Author}
use Rattle.tick_rules.specs.declared.attempted.Attempted.{Attempted}
use Rattle.tick_rules.specs.declared.due.Due.{Due}
use Rattle.tick_rules.specs.declared.due.Due.TheVariants as dues
use Rattle.tick_rules.specs.declared.reached.Reached.{Reached}
use Rattle.tick_rules.specs.declared.standpoint.Standpoint.{Standpoint}
use Rattle.tick_rules.specs.Attempts.{attempted_at, closed_as}
use Rattle.tick_rules.specs.Dues.{IsDueBehind, own_rule, start_for}
use Rattle.tick_rules.specs.Standpoints.{kept_of, setup_of}
use Rattle.tick_rules.specs.Waking.{IsUntilBehind, IsWaitBehind, at_first, last_moment, until_behind, waits_until}

-- ---- of an attempt no rule asks for the clock

abbrev ended : Bool → Bool → Bool → Option Outcome → (Outcome → Start) → Start → Start → Option Fitting
ended same lost gives closed close lose give =
    option_or (fitting Close (if_so same (option_map close closed)))
    (option_or (fitting Lose (if lost then Some lose else None)) (fitting GiveUp (if_so same (if gives then Some give else None))))

still_ended : (same lost gives : Bool) (closed : Option Outcome) (close close_then : Outcome → Start) (lose lose_then give give_then : Start) →
    ended same lost gives closed close lose give ≡ None → ended same lost gives closed close_then lose_then give_then ≡ None
still_ended true lost gives (Some o) c d l m g h none = absurd (cc)
still_ended true true gives None c d l m g h none = absurd (cc)
still_ended true false true None c d l m g h none = absurd (cc)
still_ended true false false None c d l m g h none = refl
still_ended false true gives closed c d l m g h none = absurd (cc)
still_ended false false gives closed c d l m g h none = refl

module _ (s : Standpoint) (a : Attempted) (taken : Submission) (newest : Decree) (older : List Decree) where
  abbrev first : Standpoint
  first = at_first s.author

  abbrev now : ℕ
  now = moment_behind (kept_of s) newest

  abbrev first_now : ℕ
  first_now = moment_behind (kept_of first) newest

  abbrev attempts : ℕ
  attempts = attempts_in (newest ∷ older)

  attempt_still : (up : Bool) → attempt_rule (setup_of first) (kept_of first) (attempted_at a) up newest older ≡ None →
      attempt_rule (setup_of s) (kept_of s) (attempted_at a) up newest older ≡ None
  attempt_still up none =
      still_ended (newest.author.incarnation == s.author.incarnation) (nat_lt newest.author.incarnation s.author.incarnation)
      (not a.granted && (is_none (option_map closed_as a.closed) && not up)) (option_map closed_as a.closed) _ _ _ _ _ _ none

  -- ---- of a message that waits, by the kind of its newest decree
  abbrev answer : Standpoint → Bool → Kind → Option Fitting
  answer t up kind =
      option_or (fitting Delete (if_so (is_idle kind && false) (Some (start_for t newest older dues.Delete))))
      (option_or (fitting Expire (if is_idle kind && nat_le taken.expiry (moment_behind (kept_of t) newest) then Some
      (start_behind (setup_of t) (kept_of t) newest older (Fate Expired 0)) else None))
      (option_or (fitting Undeliver (undelivered (setup_of t) (kept_of t) newest older kind))
      (option_or (fitting Try (if_so up (tried (setup_of t) (kept_of t) taken newest older kind)))
      (fitting Announce (announced (setup_of t) (kept_of t) taken newest older kind)))))

  taken_still : (of : Submission) (up e d : Bool) → nat_le taken.expiry first_now ≡ e → nat_le taken.schedule first_now ≡ d → answer first up (Taken of) ≡ None →
      s.clock < waits_until up taken newest older (Taken of) → answer s up (Taken of) ≡ None
  taken_still of up true d expired due none below = absurd (let some = rw expired at none in cc)
  taken_still of true false true expired due none below =
      let before : nat_lt first_now taken.expiry ≡ true = grind (arith, nat_tests) in
      absurd (let some = rw (expired, due, before) at none in cc)
  taken_still of true false false expired due none below =
      let lasts : nat_le taken.expiry now ≡ false = grind (arith, nat_tests) in
      let waits : nat_le taken.schedule now ≡ false = grind (arith, nat_tests) in
      rw (lasts, waits) refl
  taken_still of false false d expired due none below =
      let lasts : nat_le taken.expiry now ≡ false = grind (arith, nat_tests) in
      rw lasts refl

  abbrev next : ℕ
  next = newest.moment + retry_delay * attempts

  failed_still : (error : ℕ) (up e m t d : Bool) → nat_le taken.expiry first_now ≡ e → (attempts == most_attempts) ≡ m → nat_lt attempts most_attempts ≡ t →
      nat_le next first_now ≡ d → answer first up (Failed error) ≡ None →
      s.clock < waits_until up taken newest older (Failed error) → answer s up (Failed error) ≡ None
  failed_still error up true m t d expired most more due none below = absurd (let some = rw expired at none in cc)
  failed_still error up false true t d expired most more due none below = absurd (let some = rw (expired, most) at none in cc)
  failed_still error false false false t d expired most more due none below =
      let lasts : nat_le taken.expiry now ≡ false = grind (arith, nat_tests) in
      rw (lasts, most) refl
  failed_still error true false false false d expired most more due none below =
      let lasts : nat_le taken.expiry now ≡ false = grind (arith, nat_tests) in
      rw (lasts, most, more) refl
  failed_still error true false false true true expired most more due none below =
      let before : nat_lt first_now taken.expiry ≡ true = grind (arith, nat_tests) in
      absurd (let some = rw (expired, most, more, before, due) at none in cc)
  failed_still error true false false true false expired most more due none below =
      let lasts : nat_le taken.expiry now ≡ false = grind (arith, nat_tests) in
      let before : nat_lt now taken.expiry ≡ true = grind (arith, nat_tests) in
      let waits : nat_le next now ≡ false = grind (arith, nat_tests) in
      rw (lasts, most, more, before, waits) refl

  nothing_tried : (up : Bool) (tells : Option Fitting) → tells ≡ None → option_or (fitting Try (if_so up None)) tells ≡ None
  nothing_tried true tells none = none
  nothing_tried false tells none = none

  -- whether the receipt is to be told does not depend on the clock
  told_still : (up owes : Bool) (start start_then : Start) →
      option_or (fitting Try (if_so up None)) (fitting Announce (if owes then Some start else None)) ≡ None →
      option_or (fitting Try (if_so up None)) (fitting Announce (if owes then Some start_then else None)) ≡ None
  told_still true true start start_then none = absurd (cc)
  told_still false true start start_then none = absurd (cc)
  told_still true false start start_then none = refl
  told_still false false start start_then none = refl

  answer_still : (up : Bool) (kind : Kind) → answer first up kind ≡ None → s.clock < waits_until up taken newest older kind → answer s up kind ≡ None
  answer_still up (Taken of) none below = taken_still of up (nat_le taken.expiry first_now) (nat_le taken.schedule first_now) refl refl none below
  answer_still up (Attempt number) none below = nothing_tried up None refl
  answer_still up (Failed error) none below =
      failed_still error up (nat_le taken.expiry first_now) (attempts == most_attempts) (nat_lt attempts most_attempts) (nat_le next first_now)
      refl refl refl refl none below
  answer_still up (Fate final error) none below =
      told_still up ((s.author.node == home_in (newest ∷ older)) && is_asked final taken) _ _ none
  answer_still up Told none below = nothing_tried up None refl

  own_still : (reached : Reached) → own_rule first a false reached newest older taken ≡ None →
      s.clock < waits_until reached.begins taken newest older newest.kind → own_rule s a false reached newest older taken ≡ None
  own_still reached none below = by_test (is_attempt_by s.author.node newest newest.kind) none
    where
      by_test : (test : Bool) →
          (if test then attempt_rule (setup_of first) (kept_of first) (attempted_at a) reached.up newest older
          else answer first reached.begins newest.kind) ≡ None →
          (if test then attempt_rule (setup_of s) (kept_of s) (attempted_at a) reached.up newest older
          else answer s reached.begins newest.kind) ≡ None
      by_test true is = attempt_still reached.up is
      by_test false is = answer_still reached.begins newest.kind is below

-- ---- of a chain

nothing_at : (author : Author) (a : Attempted) (reached : Reached) (newest : Decree) (older : List Decree) (taken : Submission) (until : ℕ) →
    Some until ≡ until_behind author a reached newest older taken → (s : Standpoint) → s.author ≡ author → s.clock < until →
    None ≡ own_rule s a false reached newest older taken
nothing_at author a reached newest older taken until is s by below =
    by_first (own_rule (at_first author) a false reached newest older taken) refl is
  where
    by_first : (found : Option Fitting) → own_rule (at_first author) a false reached newest older taken ≡ found →
        Some until ≡ (if is_some found then None else Some (waits_until reached.begins taken newest older newest.kind)) →
        None ≡ own_rule s a false reached newest older taken
    by_first (Some fit) found at = absurd (cc)
    by_first None found at =
        let same : until ≡ waits_until reached.begins taken newest older newest.kind = cc in
        sym (own_still s a taken newest older reached
        (ap (λ (me : Author). own_rule (at_first me) a false reached newest older taken) by ∙ found)
        (subst (λ (n : ℕ). s.clock < n) same below))

pub nothing_until : (author : Author) (a : Attempted) (reached : Reached) (decrees : List Decree) (until : ℕ) → IsUntilBehind author a reached decrees (Some until) →
    (s : Standpoint) → s.author ≡ author → s.clock < until → IsDueBehind s a false reached decrees None
nothing_until author a reached [] until is s by below = is
nothing_until author a reached (newest ∷ older) until is s by below = λ taken message.
    nothing_at author a reached newest older taken until (is taken message) s by below

-- ---- it is found so

within : (expiry next : ℕ) → expiry ≤ last_moment → min expiry (min next last_moment) ≡ min expiry next
within expiry next lasts = omega arith

failed_at : (up : Bool) (newest : Decree) (older : List Decree) (error : ℕ) (taken : Submission) (attempts until later : ℕ) → newest.kind ≡ Failed error →
    attempts ≡ attempts_in (newest ∷ older) → later ≡ min (newest.moment + retry_delay * attempts) last_moment → taken.expiry ≤ last_moment →
    until ≡ (if up then min taken.expiry later else taken.expiry) → until ≡ waits_until up taken newest older newest.kind
failed_at up newest older error taken attempts until later is many at lasts by =
    by ∙ by_up up ∙ sym (ap (λ (kind : Kind). waits_until up taken newest older kind) is)
  where
    by_up : (u : Bool) → (if u then min taken.expiry later else taken.expiry) ≡ waits_until u taken newest older (Failed error)
    by_up true = let next : newest.moment + retry_delay * attempts ≡ newest.moment + retry_delay * attempts_in (newest ∷ older) =
        ap (λ (n : ℕ). newest.moment + retry_delay * n) many in
        ap (min taken.expiry) (at ∙ ap (λ (n : ℕ). min n last_moment) next) ∙ within taken.expiry (newest.moment + retry_delay * attempts_in (newest ∷ older)) lasts
    by_up false = refl

pub failed_until : (up : Bool) (decrees : List Decree) (newest : Decree) (error : ℕ) (taken : Submission) (attempts until later : ℕ) →
    slice_get decrees 0 ≡ Some newest → newest.kind ≡ Failed error → taken_in decrees ≡ Some taken → attempts ≡ attempts_in decrees →
    later ≡ min (newest.moment + retry_delay * attempts) last_moment → taken.expiry ≤ last_moment →
    until ≡ (if up then min taken.expiry later else taken.expiry) → IsWaitBehind up decrees until
failed_until up [] newest error taken attempts until later heads is message many at lasts by = absurd (cc)
failed_until up (first ∷ older) newest error taken attempts until later heads is message many at lasts by = λ other about.
    let same : taken ≡ other = cc in
    let head : newest ≡ first = cc in
    subst (λ (t : Submission). until ≡ waits_until up t first older first.kind) same
    (failed_at up first older error taken attempts until later (sym (ap (λ (d : Decree). d.kind) head) ∙ is) many
    (at ∙ ap (λ (d : Decree). min (d.moment + retry_delay * attempts) last_moment) head) lasts by)

pub until_there : (author : Author) (a : Attempted) (reached : Reached) (decrees : List Decree) (clock : ℕ) (due : Option Due) (until : ℕ) →
    clock ≡ 946684800 → IsDueBehind (record { author = author; clock = clock }) a false reached decrees due → is_some due ≡ false →
    IsWaitBehind reached.begins decrees until → IsUntilBehind author a reached decrees (Some until)
until_there author a reached [] clock due until begun is none waits = absurd waits
until_there author a reached (newest ∷ older) clock (Some due) until begun is none waits = absurd (true≢false none)
until_there author a reached (newest ∷ older) clock None until begun is none waits = λ other about.
    let found : None ≡ own_rule (at_first author) a false reached newest older other =
    is other about ∙ ap (λ (n : ℕ). own_rule (record { author = author; clock = n }) a false reached newest older other) begun in
    ap (λ (n : ℕ). Some n) (waits other about)
    ∙ ap (λ (rule : Option Fitting). if is_some rule then None else Some (waits_until reached.begins other newest older newest.kind)) found
