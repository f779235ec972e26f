-- The sessions by their numbers, from one number on.
use Rattle.std.proofs.Common.{◌≡◌, ℕ, zero, suc, ◌+◌, ◌-◌, ◌<◌, ◌≤◌, Bool, true, not, ◌&&◌, ◌||◌}
use Rattle.std.proofs.Common.{List, [], ◌∷◌, ◌++◌, length, length-append, find, Option, Some, None, Result, Ok}
use Rattle.std.proofs.Common.{if◌then◌else◌, ap, sym, ◌∙◌, arith, refl, append_assoc}
use Rattle.std.proofs.lemmas.Bool.{and_parts, false≢true}
use Rattle.std.specs.List.{cons_option, filter_map, range_with_len}
use Rattle.std.specs.Option.{is_none}
use Rattle.std.specs.Ordering.{nat_cmp}
use Rattle.std.specs.Map.{set_value}
use Rattle.std.specs.BTreeMap.{is_at}
use Rattle.pdu_codec.proofs.PduSpelling.{find-passes}
use Rattle.sessions.specs.Session.{Session}
use Rattle.sessions.specs.Steps.{on_push, push_refusal, push_result, sequence_unless}
use Rattle.sessions.specs.declared.pushed.Delivery.{Delivery}
use Rattle.sessions.specs.declared.pushed.PushRefusal.{PushRefusal}
use Rattle.esme_service.specs.Pushes.{
  accounts_up,
  is_of,
  knows_optional,
  pushed_on,
  receiver_of,
  session_at,
  session_numbers,
  takes_for,
  target_in,
}
use Rattle.esme_service.specs.Pushing.{GoesOut}

-- the numbers from one on, below an end: first it, and then those from the next one on
from_the_next : (number end : ℕ) → number < end → range_with_len number (end - number) ≡ number ∷ range_with_len (number + 1) (end - (number + 1))
from_the_next number end below =
    let more : end - number ≡ suc (end - (number + 1)) = omega arith in
    ap (range_with_len number) more

-- no session has a number from one on
abbrev pub AreGoneFrom : List (ℕ × Session) → ℕ → Type 0
AreGoneFrom connected number = (other : ℕ) → number ≤ other → other ≤ 99 → session_at connected other ≡ None

-- ---- the accounts that have one that may receive

unfoldable pub accounts_from : List (ℕ × Session) → ℕ → List (List ℕ)
accounts_from connected number = filter_map (λ one. receiver_of (session_at connected one)) (range_with_len number (100 - number))

pub all_accounts : (connected : List (ℕ × Session)) → accounts_from connected 1 ≡ accounts_up connected
unfolding accounts_from accounts_up session_numbers
all_accounts connected = refl

pub no_account : (connected : List (ℕ × Session)) (number : ℕ) → AreGoneFrom connected number → accounts_from connected number ≡ []
unfolding accounts_from
no_account connected number gone = of_each number (100 - number) (λ other from below. gone other from (omega (arith, from, below)))
  where
    of_each : (first count : ℕ) → ((other : ℕ) → first ≤ other → other < first + count → session_at connected other ≡ None)
        → filter_map (λ one. receiver_of (session_at connected one)) (range_with_len first count) ≡ []
    of_each first zero none = refl
    of_each first (suc count) none =
        ap (λ (found : Option Session). cons_option (receiver_of found) (filter_map (λ one. receiver_of (session_at connected one))
        (range_with_len (first + 1) count))) (none first (omega arith) (omega arith))
        ∙ of_each (first + 1) count (λ other from below. none other (omega (arith, from)) (omega (arith, below)))

-- what was found so far, and what is found from a number on, is all; the next session is looked at
pub one_looked_at : (connected : List (ℕ × Session)) (number : ℕ) (account : Option (List ℕ)) (found more all : List (List ℕ)) → number ≤ 99
    → found ++ accounts_from connected number ≡ all → account ≡ receiver_of (session_at connected number) → more ≡ found ++ cons_option account []
    → more ++ accounts_from connected (number + 1) ≡ all
unfolding accounts_from
one_looked_at connected number account found more all most so is adds =
    rw (adds, is)
    (append_assoc found (cons_option (receiver_of (session_at connected number)) []) (accounts_from connected (number + 1))
    ∙ ap (λ (rest : List (List ℕ)). found ++ rest) (front (receiver_of (session_at connected number)) (accounts_from connected (number + 1)))
    ∙ ap (λ numbers. found ++ filter_map (λ one. receiver_of (session_at connected one)) numbers) (sym (from_the_next number 100 (omega arith)))
    ∙ so)
  where
    front : (first : Option (List ℕ)) (rest : List (List ℕ)) → cons_option first [] ++ rest ≡ cons_option first rest
    front None rest = refl
    front (Some account) rest = refl

-- if no account has such a session, none is found
pub no_account_found : (connected : List (ℕ × Session)) (number : ℕ) (account : List ℕ) (found all : List (List ℕ)) → number ≤ 99
    → found ++ accounts_from connected number ≡ all → Some account ≡ receiver_of (session_at connected number) → all ≡ [] → ⊥
no_account_found connected number account found all most so is none =
    let more = one_looked_at connected number (Some account) found (found ++ (account ∷ [])) all most so is refl in
    let counted : length ((found ++ (account ∷ [])) ++ accounts_from connected (number + 1)) ≡ 0 = ap length (more ∙ none) in
    let known = simp length-append at counted in
    omega arith

-- ---- over which a deliver_sm goes

unfoldable pub target_from : List (ℕ × Session) → Bool → List ℕ → ℕ → Option ℕ
target_from connected long target number = find (λ one. takes_for long target (session_at connected one)) (range_with_len number (100 - number))

pub first_target : (connected : List (ℕ × Session)) (long : Bool) (target : List ℕ) → target_from connected long target 1 ≡ target_in connected long target
unfolding target_from target_in session_numbers
first_target connected long target = refl

pub no_target : (connected : List (ℕ × Session)) (long : Bool) (target : List ℕ) (number : ℕ) → AreGoneFrom connected number
    → target_from connected long target number ≡ None
unfolding target_from
no_target connected long target number gone = of_each number (100 - number) (λ other from below. gone other from (omega (arith, from, below)))
  where
    of_each : (first count : ℕ) → ((other : ℕ) → first ≤ other → other < first + count → session_at connected other ≡ None)
        → find (λ one. takes_for long target (session_at connected one)) (range_with_len first count) ≡ None
    of_each first zero none = refl
    of_each first (suc count) none =
        ap (λ (found : Option Session). if takes_for long target found then Some first else find (λ one. takes_for long target (session_at connected one))
        (range_with_len (first + 1) count)) (none first (omega arith) (omega arith))
        ∙ of_each (first + 1) count (λ other from below. none other (omega (arith, from)) (omega (arith, below)))

pub next_target : (connected : List (ℕ × Session)) (long : Bool) (target : List ℕ) (number : ℕ) (takes : Bool) → number ≤ 99
    → takes ≡ takes_for long target (session_at connected number)
    → target_from connected long target number ≡ (if takes then Some number else target_from connected long target (number + 1))
unfolding target_from
next_target connected long target number takes most is =
    ap (find (λ one. takes_for long target (session_at connected one))) (from_the_next number 100 (omega arith))
    ∙ ap (λ (test : Bool). if test then Some number else target_from connected long target (number + 1)) (sym is)

-- ---- the session that takes it

-- it takes it
pub takes_it : (connected : List (ℕ × Session)) (long : Bool) (target : List ℕ) (number : ℕ) → Some number ≡ target_in connected long target
    → takes_for long target (session_at connected number) ≡ true
unfolding target_in
takes_it connected long target number is = find-passes (λ one. takes_for long target (session_at connected one)) session_numbers number (sym is)

pub is_there : (long : Bool) (target : List ℕ) (stands : Option Session) → takes_for long target stands ≡ true → stands ≡ None → ⊥
is_there long target stands takes none = false≢true (ap (takes_for long target) (sym none) ∙ takes)

pub not_refused : (long : Bool) (target : List ℕ) (session : Session) → takes_for long target (Some session) ≡ true → push_refusal session ≡ None
not_refused long target session takes = by_refusal (push_refusal session) (and_parts (is_none (push_refusal session)) (is_of target session.account && (not long || knows_optional session)) takes).0
  where
    by_refusal : (refusal : Option PushRefusal) → is_none refusal ≡ true → refusal ≡ None
    by_refusal None none = refl
    by_refusal (Some refusal) none = absurd (false≢true none)

-- it gives its next sequence_number
pub gives_sequence : (session : Session) → push_refusal session ≡ None → push_result session ≡ Ok session.next_sequence
gives_sequence session none = ap (λ (refusal : Option PushRefusal). sequence_unless refusal session.next_sequence) none

-- it goes out there
pub goes_out : (connected left : List (ℕ × Session)) (long : Bool) (target : List ℕ) (now sequence : ℕ) (delivery : Delivery) (number : ℕ) (knows : Bool) (session : Session)
    → Some number ≡ target_in connected long target → session_at connected number ≡ Some session → push_result session ≡ Ok sequence
    → knows ≡ knows_optional session → left ≡ set_value (is_at (nat_cmp number)) connected (on_push session now delivery)
    → GoesOut connected long target now delivery (record { number = number; sequence = sequence; knows_optional = knows }) left
goes_out connected left long target now sequence delivery number knows session is stands gave optional after = record {
  session = session;
  takes = sym is;
  stands = stands;
  sequence =
      let refused = not_refused long target session (ap (takes_for long target) (sym stands) ∙ takes_it connected long target number is) in
      is_ok (sym gave ∙ gives_sequence session refused);
  optional = optional;
  left = after ∙ ap (pushed_on connected number now delivery) (sym stands);
}
  where
    is_ok : {a b : ℕ} → ◌≡◌ {A = Result ℕ PushRefusal} (Ok a) (Ok b) → a ≡ b
    is_ok same = cc
