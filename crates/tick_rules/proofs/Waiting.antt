-- What is due for a message that waits is found by the rules of a tick.
use Rattle.std.proofs.Common.{◌≡◌, refl, sym, ap, subst, ◌∙◌, ℕ, ◌+◌, ◌*◌, ◌≤◌, ◌<◌, Bool, true, false, List, [], ◌∷◌, slice_get, Option, Some, None, arith}
use Rattle.std.specs.Prelude.{◌==◌, ◌&&◌, nat_le, nat_lt, if◌then◌else◌}
use Rattle.std.specs.Option.{option_map, option_or}
use Rattle.std.proofs.lemmas.Bool.{true≢false}
use Rattle.std.proofs.lemmas.Bool.Decides.{Decides-and, Decides-eqb, Decides-ltb, nat_tests}
use Rattle.std.specs.Bool.{Decides}
use Rattle.mc_model.specs.message.Submission.{Submission}
use Rattle.mc_model.specs.message.Decree.{Attempt, Author, Decree, Expired, Failed, Fate, Kind, Taken, Told}
use Rattle.mc_model.specs.message.Neighbours.{MayFollow, most_attempts, retry_delay}
use Rattle.mc_model.specs.message.Chain.{MayExtend, attempts_in, error_by, error_in, home_in, taken_in}
use Rattle.mc_model.specs.node.FirstRule.{Expire, Try, Undeliver}
use Rattle.node_model.specs.Starts.{is_idle, moment_behind, start_behind}
use Rattle.node_model.specs.Rules.{Fitting, expiring, fitting, if_so, is_attempt_by, tried, undelivered}
use Rattle.node_model.proofs.Decisions.{nat_le_decides}
use Rattle.fate_chain.specs.Kinds.{author_of}
use Rattle.delivery.specs.Due.{IsDue, IsIdleKind, MayBeDue, kind_due}
use Rattle.delivery.specs.declared.due_decree.DueDecree.{DueDecree}
use Rattle.delivery.specs.declared.due_decree.DueDecree.TheVariants as decrees
use Rattle.tick_rules.specs.declared.due.Due.{Due}
use Rattle.tick_rules.specs.declared.due.Due.TheVariants as dues
use Rattle.tick_rules.specs.declared.reached.Reached.{Reached}
use Rattle.tick_rules.specs.declared.standpoint.Standpoint.{Standpoint}
use Rattle.tick_rules.specs.declared.attempted.Attempted.{Attempted}
use Rattle.tick_rules.specs.Dues.{IsDueBehind, IsTelling, MayBeDue as IsPossible, decree_for, fitting_for, own_rule, telling_rule}
use Rattle.tick_rules.specs.Standpoints.{kept_of, setup_of}

pub nothing_either : (holds : Bool) → if_so holds None ≡ None
nothing_either true = refl
nothing_either false = refl

module _ (s : Standpoint) (taken : Submission) (newest : Decree) (older : List Decree) (message : taken_in (newest ∷ older) ≡ Some taken) (up : Bool) where
  abbrev now : ℕ
  now = moment_behind (kept_of s) newest

  abbrev home : ℕ
  home = home_in (newest ∷ older)

  abbrev attempts : ℕ
  attempts = attempts_in (newest ∷ older)

  abbrev error : ℕ
  error = error_in (newest ∷ older)

  abbrev Follows : Kind → DueDecree → Type 0
  Follows kind due = (author : Author) → MayFollow taken home attempts newest.author newest.moment kind author now (kind_due error due)

  abbrev May : DueDecree → Type 0
  May due = MayBeDue (newest ∷ older) now due

  later : newest.moment ≤ now
  later = omega arith

  -- what may be due, by the kind of the newest decree
  may_be : (kind : Kind) → newest.kind ≡ kind → (due : DueDecree) → IsIdleKind kind → Follows kind due → May due
  may_be kind is due idle follows = record {
    newest = newest;
    older = older;
    decrees_are = refl;
    idle = subst IsIdleKind (sym is) idle;
    may = λ author. subst (λ (t : Option Submission). MayExtend t (newest ∷ older)
        (record { author = author; moment = now; kind = kind_due error due })) (sym message)
        (later, subst (λ (k : Kind). MayFollow taken home attempts newest.author newest.moment k author now (kind_due error due)) (sym is) (follows author));
  }

  idle_of : (kind : Kind) → newest.kind ≡ kind → (due : DueDecree) → May due → IsIdleKind kind
  idle_of kind is due may =
      let heads : may.newest ≡ newest = let both : newest ∷ older ≡ may.newest ∷ may.older = may.decrees_are in cc in
      subst IsIdleKind (ap (λ (d : Decree). d.kind) heads ∙ is) may.idle

  follows_of : (kind : Kind) → newest.kind ≡ kind → (due : DueDecree) → May due → Follows kind due
  follows_of kind is due may author =
      let extends = subst (λ (t : Option Submission). MayExtend t (newest ∷ older)
      (record { author = author; moment = now; kind = kind_due error due })) message (may.may author) in
      subst (λ (k : Kind). MayFollow taken home attempts newest.author newest.moment k author now (kind_due error due)) is extends.1

  -- ---- the rules in their order, by this kind

  abbrev fit : DueDecree → Fitting
  fit due = fitting_for s newest older (dues.Decree due)

  abbrev expires : Kind → Option Fitting
  expires kind = fitting Expire (if is_idle kind && nat_le taken.expiry now then Some
      (start_behind (setup_of s) (kept_of s) newest older (Fate Expired 0)) else None)

  abbrev answer : Kind → Option Fitting
  answer kind = option_or (expires kind)
      (option_or (fitting Undeliver (undelivered (setup_of s) (kept_of s) newest older kind))
      (fitting Try (if_so up (tried (setup_of s) (kept_of s) taken newest older kind))))

  -- behind its taking
  abbrev is_first : Bool
  is_first = nat_le taken.schedule now && nat_lt now taken.expiry

  first_decides : Decides is_first ((taken.schedule ≤ now) × (now < taken.expiry))
  first_decides = Decides-and (nat_le taken.schedule now) (nat_lt now taken.expiry) (nat_le_decides taken.schedule now) (Decides-ltb now taken.expiry)

  behind_taking : (of : Submission) → newest.kind ≡ Taken of → (e t u : Bool) → nat_le taken.expiry now ≡ e → is_first ≡ t → up ≡ u →
      (due : Option DueDecree) → IsDue (newest ∷ older) now up due → option_map fit due ≡ answer (Taken of)
  behind_taking of is true t u expired first is_up None none =
      absurd (none decrees.Expired (may_be (Taken of) is decrees.Expired tt (λ author. grind (arith, nat_tests)), tt))
  behind_taking of is true t u expired first is_up (Some decrees.Expired) due = rw (expired) refl
  behind_taking of is true t u expired first is_up (Some decrees.Undeliverable) due = absurd
      (follows_of (Taken of) is decrees.Undeliverable due.fits.0 newest.author)
  behind_taking of is true t u expired first is_up (Some (decrees.Attempt number)) due =
      let follows = follows_of (Taken of) is (decrees.Attempt number) due.fits.0 newest.author in
      let before = follows.valid in absurd (grind (arith, nat_tests))
  behind_taking of is false t u expired first is_up (Some decrees.Expired) due =
      let follows = follows_of (Taken of) is decrees.Expired due.fits.0 newest.author in absurd (grind (arith, nat_tests))
  behind_taking of is false t u expired first is_up (Some decrees.Undeliverable) due = absurd
      (follows_of (Taken of) is decrees.Undeliverable due.fits.0 newest.author)
  behind_taking of is false t u expired first is_up (Some (decrees.Attempt number)) due =
      let follows = follows_of (Taken of) is (decrees.Attempt number) due.fits.0 newest.author in
      let scheduled = follows.scheduled in
      let before = follows.valid in
      let from : nat_le taken.schedule now ≡ true = grind (arith, nat_tests) in
      let until : nat_lt now taken.expiry ≡ true = grind (arith, nat_tests) in
      rw (expired, from, until, due.fits.1, follows.first) refl
  behind_taking of is false true true expired first is_up None none =
      let parts = first_decides.0 first in
      absurd (none (decrees.Attempt 1) (
        may_be (Taken of) is (decrees.Attempt 1) tt
            (λ author. record { first = refl; scheduled = parts.0; valid = parts.1 }),
        is_up,
      ))
  behind_taking of is false false true expired first is_up None none = rw (expired, is_up, first) refl
  behind_taking of is false t false expired first is_up None none = rw (expired, is_up) refl

  -- behind a failure
  abbrev is_next : Bool
  is_next = nat_lt attempts most_attempts && (nat_lt now taken.expiry && nat_le (newest.moment + retry_delay * attempts) now)

  next_decides : Decides is_next ((attempts < most_attempts) × ((now < taken.expiry) × (newest.moment + retry_delay * attempts ≤ now)))
  next_decides =
      Decides-and (nat_lt attempts most_attempts) (nat_lt now taken.expiry && nat_le (newest.moment + retry_delay * attempts) now)
      (Decides-ltb attempts most_attempts)
      (Decides-and (nat_lt now taken.expiry) (nat_le (newest.moment + retry_delay * attempts) now) (Decides-ltb now taken.expiry)
      (nat_le_decides (newest.moment + retry_delay * attempts) now))

  error_is : (cause : ℕ) → newest.kind ≡ Failed cause → error ≡ cause
  error_is cause is = ap (λ (k : Kind). error_by k (error_in older)) is

  behind_failure : (cause : ℕ) → newest.kind ≡ Failed cause → (e m t u : Bool) → nat_le taken.expiry now ≡ e → (attempts == most_attempts) ≡ m → is_next ≡ t →
      up ≡ u → (due : Option DueDecree) → IsDue (newest ∷ older) now up due → option_map fit due ≡ answer (Failed cause)
  behind_failure cause is true m t u expired most next is_up None none =
      absurd (none decrees.Expired (may_be (Failed cause) is decrees.Expired tt (λ author. grind (arith, nat_tests)), tt))
  behind_failure cause is true m t u expired most next is_up (Some decrees.Expired) due = rw (expired) refl
  behind_failure cause is true m t u expired most next is_up (Some decrees.Undeliverable) due =
      absurd (due.first decrees.Expired (omega arith) (may_be (Failed cause) is decrees.Expired tt (λ author. grind (arith, nat_tests)), tt))
  behind_failure cause is true m t u expired most next is_up (Some (decrees.Attempt number)) due =
      absurd (due.first decrees.Expired (omega arith) (may_be (Failed cause) is decrees.Expired tt (λ author. grind (arith, nat_tests)), tt))
  behind_failure cause is false m t u expired most next is_up (Some decrees.Expired) due =
      let follows = follows_of (Failed cause) is decrees.Expired due.fits.0 newest.author in absurd (grind (arith, nat_tests))
  behind_failure cause is false true t u expired most next is_up None none =
      absurd (none decrees.Undeliverable (may_be (Failed cause) is decrees.Undeliverable tt (λ author. (Decides-eqb attempts most_attempts).0 most), tt))
  behind_failure cause is false true t u expired most next is_up (Some decrees.Undeliverable) due = rw (expired, most, error_is cause is) refl
  behind_failure cause is false true t u expired most next is_up (Some (decrees.Attempt number)) due =
      absurd (due.first decrees.Undeliverable (omega arith)
      (may_be (Failed cause) is decrees.Undeliverable tt (λ author. (Decides-eqb attempts most_attempts).0 most), tt))
  behind_failure cause is false false t u expired most next is_up (Some decrees.Undeliverable) due =
      let follows = follows_of (Failed cause) is decrees.Undeliverable due.fits.0 newest.author in
      absurd (true≢false (sym ((Decides-eqb attempts most_attempts).1 follows) ∙ most))
  behind_failure cause is false false t u expired most next is_up (Some (decrees.Attempt number)) due =
      let follows = follows_of (Failed cause) is (decrees.Attempt number) due.fits.0 newest.author in
      let may : is_next ≡ true = next_decides.1 (follows.most, (follows.valid, follows.delayed)) in
      rw (expired, most, may, due.fits.1, follows.next) refl
  behind_failure cause is false false true true expired most next is_up None none =
      let parts = next_decides.0 next in
      absurd (none (decrees.Attempt (attempts + 1)) (
        may_be (Failed cause) is (decrees.Attempt (attempts + 1)) tt
            (λ author. record { next = refl; most = parts.0; valid = parts.1.0; delayed = parts.1.1 }),
        is_up,
      ))
  behind_failure cause is false false false true expired most next is_up None none = rw (expired, most, is_up, next) refl
  behind_failure cause is false false t false expired most next is_up None none = rw (expired, most, is_up) refl

  -- behind anything else nothing is due
  pub due_is : (kind : Kind) → newest.kind ≡ kind → (due : Option DueDecree) → IsDue (newest ∷ older) now up due → option_map fit due ≡ answer kind
  due_is (Taken of) is due it = behind_taking of is (nat_le taken.expiry now) is_first up refl refl refl due it
  due_is (Failed cause) is due it = behind_failure cause is (nat_le taken.expiry now) (attempts == most_attempts) is_next up refl refl refl refl due it
  due_is (Attempt number) is None none = sym (ap (fitting Try) (nothing_either up))
  due_is (Attempt number) is (Some due) it = absurd (idle_of (Attempt number) is due it.fits.0)
  due_is (Fate final cause) is None none = sym (ap (fitting Try) (nothing_either up))
  due_is (Fate final cause) is (Some due) it = absurd (idle_of (Fate final cause) is due it.fits.0)
  due_is Told is None none = sym (ap (fitting Try) (nothing_either up))
  due_is Told is (Some due) it = absurd (idle_of Told is due it.fits.0)

-- ---- behind a chain that does not end in an attempt of the node, and whose message is not to be deleted

or_last : (expires fails tries tells : Option Fitting) →
    option_or (option_or expires (option_or fails tries)) tells ≡ option_or expires (option_or fails (option_or tries tells))
or_last (Some fit) fails tries tells = refl
or_last None (Some fit) tries tells = refl
or_last None None tries tells = refl

idle_here : (s : Standpoint) (a : Attempted) (cancelled : Bool) (reached : Reached) (newest : Decree) (older : List Decree) (taken : Submission) →
    taken_in (newest ∷ older) ≡ Some taken → is_attempt_by s.author.node newest newest.kind ≡ false → (is_idle newest.kind && cancelled) ≡ false →
    (due : Option DueDecree) → IsDue (newest ∷ older) (moment_behind (kept_of s) newest) reached.begins due →
    option_or (option_map (λ (d : DueDecree). fitting_for s newest older (dues.Decree d)) due) (telling_rule s taken newest older)
    ≡ own_rule s a cancelled reached newest older taken
idle_here s a cancelled reached newest older taken message other kept due is =
    rw (other, kept)
    (ap (λ (fit : Option Fitting). option_or fit (telling_rule s taken newest older))
    (due_is s taken newest older message reached.begins newest.kind refl due is)
    ∙ or_last (fitting Expire (expiring (setup_of s) (kept_of s) taken newest older))
    (fitting Undeliver (undelivered (setup_of s) (kept_of s) newest older newest.kind))
    (fitting Try (if_so reached.begins (tried (setup_of s) (kept_of s) taken newest older newest.kind))) (telling_rule s taken newest older))

-- of its first decree
idle_first : (s : Standpoint) (a : Attempted) (cancelled : Bool) (reached : Reached) (first : Decree) (older : List Decree) (newest : Decree) →
    slice_get (first ∷ older) 0 ≡ Some newest → is_attempt_by s.author.node newest newest.kind ≡ false → (is_idle newest.kind && cancelled) ≡ false →
    (due : Option DueDecree) → IsDue (first ∷ older) (moment_behind (kept_of s) newest) reached.begins due →
    (taken : Submission) → taken_in (first ∷ older) ≡ Some taken →
    option_or (option_map (λ (d : DueDecree). fitting_for s first older (dues.Decree d)) due) (telling_rule s taken first older)
    ≡ own_rule s a cancelled reached first older taken
idle_first s a cancelled reached first older newest head other kept due is taken message =
    let one : newest ≡ first = let heads : Some first ≡ Some newest = head in cc in
    idle_here s a cancelled reached first older taken message
    (subst (λ (n : Decree). is_attempt_by s.author.node n n.kind ≡ false) one other)
    (subst (λ (n : Decree). (is_idle n.kind && cancelled) ≡ false) one kept) due
    (subst (λ (n : Decree). IsDue (first ∷ older) (moment_behind (kept_of s) n) reached.begins due) one is)

-- a decree is due
pub decree_is_due : (s : Standpoint) (a : Attempted) (cancelled : Bool) (reached : Reached) (decrees : List Decree) (newest : Decree) →
    slice_get decrees 0 ≡ Some newest → is_attempt_by s.author.node newest newest.kind ≡ false → (is_idle newest.kind && cancelled) ≡ false →
    (due : DueDecree) → IsDue decrees (moment_behind (kept_of s) newest) reached.begins (Some due) →
    IsDueBehind s a cancelled reached decrees (Some (dues.Decree due))
decree_is_due s a cancelled reached [] newest head other kept due is = let none : None ≡ Some newest = head in absurd (cc)
decree_is_due s a cancelled reached (first ∷ older) newest head other kept due is =
    idle_first s a cancelled reached first older newest head other kept (Some due) is

-- none is due, but maybe that the receipt is told
pub telling_is_due : (s : Standpoint) (a : Attempted) (cancelled : Bool) (reached : Reached) (decrees : List Decree) (newest : Decree) →
    slice_get decrees 0 ≡ Some newest → is_attempt_by s.author.node newest newest.kind ≡ false → (is_idle newest.kind && cancelled) ≡ false →
    IsDue decrees (moment_behind (kept_of s) newest) reached.begins None →
    (told : Option Due) → IsTelling s decrees told → IsDueBehind s a cancelled reached decrees told
telling_is_due s a cancelled reached [] newest head other kept is told telling = let none : None ≡ Some newest = head in absurd (cc)
telling_is_due s a cancelled reached (first ∷ older) newest head other kept is told telling = λ taken message.
    telling taken message ∙ idle_first s a cancelled reached first older newest head other kept None is taken message

-- and its decree may follow
pub idle_may : (s : Standpoint) (decrees : List Decree) (newest : Decree) (up : Bool) (due : DueDecree) →
    slice_get decrees 0 ≡ Some newest → IsDue decrees (moment_behind (kept_of s) newest) up (Some due) → IsPossible s decrees (dues.Decree due)
idle_may s [] newest up due head is = let none : None ≡ Some newest = head in absurd (cc)
idle_may s (first ∷ older) newest up due head is =
    let one : newest ≡ first = let heads : Some first ≡ Some newest = head in cc in
    subst (λ (n : Decree). MayExtend (taken_in (first ∷ older)) (first ∷ older) (decree_for s n (error_in (first ∷ older)) (dues.Decree due))) one
    (is.fits.0.may (author_of s.author))

-- what is due is what was found, at the moment that was looked at
pub due_found : (decrees : List Decree) (looked now : ℕ) (begins : Bool) (found due : Option DueDecree) → looked ≡ now → found ≡ due →
    IsDue decrees looked begins found → IsDue decrees now begins due
due_found decrees looked now begins found due moments same is =
    subst (λ (d : Option DueDecree). IsDue decrees now begins d) same (subst (λ (m : ℕ). IsDue decrees m begins found) moments is)
