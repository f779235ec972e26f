-- Entries of a map by numbers that ascend: one is changed, taken out, and put in.
use Rattle.std.proofs.Common.{◌≡◌, ℕ, Bool, true, false, cond, List, [], ◌∷◌, Option, Some, None, Result, Ok, Err, refl, sym, ◌∙◌, ap, arith}
use Rattle.std.specs.List.{AllByRecursion}
use Rattle.std.specs.List.Sorted.{IsStrictlySortedBy}
use Rattle.std.specs.Ordering.{nat_cmp, is_eq, match_ordering}
use Rattle.std.specs.declared.cmp.Ordering.{Ordering}
use Rattle.std.specs.declared.cmp.Ordering.TheVariants.{Less, Equal, Greater}
use Rattle.std.specs.Map.{keys_of, lookup, remove_entry, set_value}
use Rattle.std.specs.BTreeMap.{insert_entry, is_at}
use Rattle.std.proofs.lemmas.Bool.Decides.{nat_tests}
use Rattle.std.specs.Prelude.{OnErr, is_some}
use Rattle.sessions.specs.Session.{Session}
use Rattle.sessions.specs.States.{is_bound, is_gone}
use Rattle.sessions.specs.Steps.{opened}
use Rattle.sessions.specs.declared.state.SessionState.{SessionState}
use Rattle.sessions.specs.declared.state.SessionState.TheVariants.{Fresh, Transmitter, Receiver, Transceiver, Gone}
use Rattle.esme_service.specs.Pushes.{session_at}
use Rattle.sessions.specs.declared.requested.Requested.{Requested}
use Rattle.esme_service.specs.Hearing.{GoesIf}
use Rattle.esme_service.specs.Sessions.{kept_at, put_at, session_in, session_or_opened, waits_at, waits_if}

is_here : (j k : ℕ) → is_eq (nat_cmp j k) ≡ true → j ≡ k
is_here j k is = grind (arith, nat_tests, is)

itself : (k : ℕ) → is_eq (nat_cmp k k) ≡ true
itself k = grind (arith, nat_tests)

turned : (j k : ℕ) → nat_cmp j k ≡ Less → nat_cmp k j ≡ Greater
turned j k is = grind (arith, nat_tests, is)

abbrev at : ℕ → ℕ → Bool
at number = is_at (nat_cmp number)

module _ {X : Type 0} where
  -- what stands there already changes nothing
  pub set_same : (es : List (ℕ × X)) (number : ℕ) (value : X) → lookup (at number) es ≡ Some value → set_value (at number) es value ≡ es
  set_same [] number value found = refl
  set_same (e ∷ es) number value found = at_test (is_eq (nat_cmp number e.0)) (set_same es number value) found
    where
      at_test : (test : Bool) → (lookup (at number) es ≡ Some value → set_value (at number) es value ≡ es)
          → cond test (Some e.1) (lookup (at number) es) ≡ Some value → cond test ((e.0, value) ∷ es) (e ∷ set_value (at number) es value) ≡ e ∷ es
      at_test true behind is = (let same : e.1 ≡ value = cc in ap (λ (v : X). (e.0, v) ∷ es) (sym same))
      at_test false behind is = ap (λ (rest : List (ℕ × X)). e ∷ rest) (behind is)

  -- nothing stands there that could be taken out
  pub remove_none : (es : List (ℕ × X)) (number : ℕ) → lookup (at number) es ≡ None → remove_entry (at number) es ≡ es
  remove_none [] number none = refl
  remove_none (e ∷ es) number none = at_test (is_eq (nat_cmp number e.0)) (remove_none es number) none
    where
      at_test : (test : Bool) → (lookup (at number) es ≡ None → remove_entry (at number) es ≡ es)
          → cond test (Some e.1) (lookup (at number) es) ≡ None → cond test es (e ∷ remove_entry (at number) es) ≡ e ∷ es
      at_test true behind none = absurd cc
      at_test false behind none = ap (λ (rest : List (ℕ × X)). e ∷ rest) (behind none)

  -- what is taken out may have been changed before
  pub remove_set : (test : ℕ → Bool) (es : List (ℕ × X)) (value : X) → remove_entry test (set_value test es value) ≡ remove_entry test es
  remove_set test [] value = refl
  remove_set test (e ∷ es) value = at_test (test e.0) refl (remove_set test es value)
    where
      at_test : (b : Bool) → test e.0 ≡ b → remove_entry test (set_value test es value) ≡ remove_entry test es
          → remove_entry test (cond b ((e.0, value) ∷ es) (e ∷ set_value test es value)) ≡ cond b es (e ∷ remove_entry test es)
      at_test true is behind = rw is refl
      at_test false is behind = rw is (ap (λ (rest : List (ℕ × X)). e ∷ rest) behind)

  -- what was put in is changed there
  pub set_put : (es : List (ℕ × X)) (number : ℕ) (first last : X)
      → set_value (at number) (insert_entry nat_cmp es number first) last ≡ insert_entry nat_cmp es number last
  set_put [] number first last = rw (itself number) refl
  set_put (e ∷ es) number first last = at_order (nat_cmp number e.0) refl (set_put es number first last)
    where
      at_order : (o : Ordering) → nat_cmp number e.0 ≡ o
          → set_value (at number) (insert_entry nat_cmp es number first) last ≡ insert_entry nat_cmp es number last
          → set_value (at number) (match_ordering o ((number, first) ∷ e ∷ es) ((e.0, first) ∷ es) (e ∷ insert_entry nat_cmp es number first)) last
          ≡ match_ordering o ((number, last) ∷ e ∷ es) ((e.0, last) ∷ es) (e ∷ insert_entry nat_cmp es number last)
      at_order Less is behind = rw (itself number) refl
      at_order Equal is behind = rw is refl
      at_order Greater is behind = rw is (ap (λ (rest : List (ℕ × X)). e ∷ rest) behind)

  -- ---- keys that ascend

  abbrev AreBeyond : ℕ → List (ℕ × X) → Type 0
  AreBeyond key es = AllByRecursion (λ other. nat_cmp key other ≡ Less) (keys_of es)

  found_beyond : (es : List (ℕ × X)) (key number : ℕ) (value : X) → AreBeyond key es → lookup (at number) es ≡ Some value → nat_cmp key number ≡ Less
  found_beyond [] key number value beyond found = absurd cc
  found_beyond (e ∷ es) key number value beyond found = at_test (is_eq (nat_cmp number e.0)) refl (found_beyond es key number value beyond.1) found
    where
      at_test : (test : Bool) → is_eq (nat_cmp number e.0) ≡ test → (lookup (at number) es ≡ Some value → nat_cmp key number ≡ Less)
          → cond test (Some e.1) (lookup (at number) es) ≡ Some value → nat_cmp key number ≡ Less
      at_test true is behind here = ap (nat_cmp key) (is_here number e.0 is) ∙ beyond.0
      at_test false is behind here = behind here

  put_in_front : (es : List (ℕ × X)) (number : ℕ) (value : X) → AreBeyond number es → insert_entry nat_cmp es number value ≡ (number, value) ∷ es
  put_in_front [] number value beyond = refl
  put_in_front (e ∷ es) number value beyond = rw beyond.0 refl

  -- what is taken out and put in again stands in its place
  pub put_is_set : (es : List (ℕ × X)) (number : ℕ) (old value : X) → IsStrictlySortedBy nat_cmp (keys_of es) → lookup (at number) es ≡ Some old
      → insert_entry nat_cmp (remove_entry (at number) es) number value ≡ set_value (at number) es value
  unfolding IsStrictlySortedBy
  put_is_set [] number old value ascend found = absurd cc
  put_is_set (e ∷ es) number old value ascend found =
      at_test (is_eq (nat_cmp number e.0)) refl (put_is_set es number old value ascend.1) found
    where
      behind_it : lookup (at number) es ≡ Some old → nat_cmp number e.0 ≡ Greater
      behind_it here = turned e.0 number (found_beyond es e.0 number old ascend.0 here)

      at_test : (test : Bool) → is_eq (nat_cmp number e.0) ≡ test
          → (lookup (at number) es ≡ Some old → insert_entry nat_cmp (remove_entry (at number) es) number value ≡ set_value (at number) es value)
          → cond test (Some e.1) (lookup (at number) es) ≡ Some old
          → insert_entry nat_cmp (cond test es (e ∷ remove_entry (at number) es)) number value
          ≡ cond test ((e.0, value) ∷ es) (e ∷ set_value (at number) es value)
      at_test true is behind here =
          ap (λ (key : ℕ). insert_entry nat_cmp es key value) (is_here number e.0 is) ∙ put_in_front es e.0 value ascend.0
      at_test false is behind here =
          ap (λ (o : Ordering). match_ordering o ((number, value) ∷ e ∷ remove_entry (at number) es) ((e.0, value) ∷ remove_entry (at number) es)
          (e ∷ insert_entry nat_cmp (remove_entry (at number) es) number value)) (behind_it here)
          ∙ ap (λ (rest : List (ℕ × X)). e ∷ rest) (behind here)

-- ---- the sessions

-- one that is connected is as it was
pub begun_before : (sessions : List (ℕ × Session)) (number : ℕ) (session : Session) → IsStrictlySortedBy nat_cmp (keys_of sessions)
    → session_at sessions number ≡ Some session → set_value (is_at (nat_cmp number)) sessions session ≡ put_at sessions number (session_in sessions number)
begun_before sessions number session ascend found =
    sym (put_is_set sessions number session session ascend found)
    ∙ ap (λ (stands : Option Session). put_at sessions number (session_or_opened stands)) (sym found)

-- and one that is not begins
pub begun_now : (sessions : List (ℕ × Session)) (number : ℕ) → session_at sessions number ≡ None
    → insert_entry nat_cmp sessions number opened ≡ put_at sessions number (session_in sessions number)
begun_now sessions number none =
    ap (λ (others : List (ℕ × Session)). insert_entry nat_cmp others number opened) (sym (remove_none sessions number none))
    ∙ ap (λ (stands : Option Session). put_at sessions number (session_or_opened stands)) (sym none)

-- one that was served keeps its place, unless it is gone
pub kept_there : (sessions : List (ℕ × Session)) (number : ℕ) (old left : Session) → IsStrictlySortedBy nat_cmp (keys_of sessions)
    → session_at sessions number ≡ Some old → is_gone left.state ≡ false → set_value (is_at (nat_cmp number)) sessions left ≡ kept_at sessions number left
kept_there sessions number old left ascend found stays =
    sym (put_is_set sessions number old left ascend found)
    ∙ sym (ap (λ (gone : Bool). cond gone (remove_entry (is_at (nat_cmp number)) sessions) (put_at sessions number left)) stays)

pub gone_there : (sessions : List (ℕ × Session)) (number : ℕ) (left : Session) → is_gone left.state ≡ true
    → remove_entry (is_at (nat_cmp number)) (set_value (is_at (nat_cmp number)) sessions left) ≡ kept_at sessions number left
gone_there sessions number left gone =
    remove_set (is_at (nat_cmp number)) sessions left
    ∙ sym (ap (λ (is : Bool). cond is (remove_entry (is_at (nat_cmp number)) sessions) (put_at sessions number left)) gone)

-- it is connected no longer, since the numbers ascend
beyond_none : (es : List (ℕ × Session)) (number : ℕ) → AllByRecursion (λ other. nat_cmp number other ≡ Less) (keys_of es) → session_at es number ≡ None
beyond_none [] number beyond = refl
beyond_none (e ∷ es) number beyond =
    ap (λ (test : Bool). cond test (Some e.1) (session_at es number)) (apart number e.0 beyond.0) ∙ beyond_none es number beyond.1
  where
    apart : (j k : ℕ) → nat_cmp j k ≡ Less → is_eq (nat_cmp j k) ≡ false
    apart j k is = ap is_eq is

pub none_left : (es : List (ℕ × Session)) (number : ℕ) → IsStrictlySortedBy nat_cmp (keys_of es)
    → session_at (remove_entry (is_at (nat_cmp number)) es) number ≡ None
unfolding IsStrictlySortedBy
none_left [] number ascend = refl
none_left (e ∷ es) number ascend = at_test (is_eq (nat_cmp number e.0)) refl (none_left es number ascend.1)
  where
    at_test : (test : Bool) → is_eq (nat_cmp number e.0) ≡ test → session_at (remove_entry (is_at (nat_cmp number)) es) number ≡ None
        → session_at (cond test es (e ∷ remove_entry (is_at (nat_cmp number)) es)) number ≡ None
    at_test true is behind = ap (session_at es) (is_here number e.0 is) ∙ beyond_none es e.0 ascend.0
    at_test false is behind = ap (λ (test : Bool). cond test (Some e.1) (session_at (remove_entry (is_at (nat_cmp number)) es) number)) is ∙ behind

-- one that is gone has no account
pub no_account : (session : Session) → is_some session.account ≡ is_bound session.state → is_gone session.state ≡ true → session.account ≡ None
no_account session bound gone = by_account session.account (bound ∙ unbound session.state gone)
  where
    unbound : (state : SessionState) → is_gone state ≡ true → is_bound state ≡ false
    unbound Fresh is = absurd cc
    unbound Transmitter is = absurd cc
    unbound Receiver is = absurd cc
    unbound Transceiver is = absurd cc
    unbound Gone is = refl

    by_account : (account : Option (List ℕ)) → is_some account ≡ false → account ≡ None
    by_account None none = refl
    by_account (Some name) none = absurd cc

abbrev GoesThere : List (ℕ × Session) → ℕ → Session → Type 0
GoesThere sessions number left = GoesIf (kept_at sessions number left) number (Some left)

pub goes_there : (sessions : List (ℕ × Session)) (number : ℕ) (left : Session) → IsStrictlySortedBy nat_cmp (keys_of sessions)
    → is_some left.account ≡ is_bound left.state → GoesThere sessions number left
goes_there sessions number left ascend bound = λ gone. (
  no_account left bound gone,
  ap (λ (is : Bool). session_at (cond is (remove_entry (is_at (nat_cmp number)) sessions) (put_at sessions number left)) number) gone
      ∙ none_left sessions number ascend,
)

-- a request without a ticket takes no place
pub waits_not : (sessions : List (ℕ × Session)) (number : ℕ) (requested : Requested) (sequence : ℕ)
    → waits_at sessions number requested sequence None ≡ sessions
waits_not sessions number requested sequence = by_found (session_at sessions number) refl
  where
    by_found : (found : Option Session) → session_at sessions number ≡ found → waits_if sessions number requested sequence None found ≡ sessions
    by_found None is = refl
    by_found (Some session) is = set_same sessions number session is

-- nothing changed after what failed
pub on_err : {A E : Type 0} (r : Result A E) (P : Type 0) → P → OnErr r P
on_err (Ok x) P is = tt
on_err (Err fault) P is = is
