-- What waits too long, session by session.
use Rattle.std.proofs.Common.{◌≡◌, ℕ, zero, suc, ◌<◌, Bool, true, false, cond, List, [], ◌∷◌, ◌++◌, length, get_or, filter, refl, ap, sym, ◌∙◌, append_assoc, arith}
use Rattle.sessions.specs.Session.{Session}
use Rattle.sessions.specs.Windows.{is_overdue}
use Rattle.sessions.specs.declared.pushed.Pushed.{Pushed}
use Rattle.esme_service.specs.Pushes.{overdue_in}

-- what was found so far, and what is left, is all; the next session is looked at
pub one_looked_at : (all left others : List (ℕ × Session)) (number now : ℕ) (session : Session) (found pushed more : List Pushed)
    → found ++ overdue_in left now ≡ overdue_in all now → left ≡ (number, session) ∷ others → pushed ≡ session.pushed
    → more ≡ found ++ filter (is_overdue now) pushed
    → more ++ overdue_in others now ≡ overdue_in all now
one_looked_at all left others number now session found pushed more so is of adds =
    rw (adds, of) (append_assoc found (filter (is_overdue now) session.pushed) (overdue_in others now) ∙ rw is at so)

-- ---- nothing waits too long

first_is_none : (first others : List Pushed) → first ++ others ≡ [] → first ≡ []
first_is_none [] others none = refl
first_is_none (request ∷ first) others none = absurd (cc)

others_are_none : (first others : List Pushed) → first ++ others ≡ [] → others ≡ []
others_are_none [] others none = none
others_are_none (request ∷ first) others none = absurd (cc)

-- if nothing of all does, nothing of the session that is looked at does
pub none_of_this : (all left others : List (ℕ × Session)) (number now : ℕ) (session : Session) (found pushed : List Pushed)
    → found ++ overdue_in left now ≡ overdue_in all now → left ≡ (number, session) ∷ others → pushed ≡ session.pushed
    → overdue_in all now ≡ [] → filter (is_overdue now) pushed ≡ []
none_of_this all left others number now session found pushed so is of none =
    let left_none : overdue_in left now ≡ [] = others_are_none found (overdue_in left now) (so ∙ none) in
    rw of (first_is_none (filter (is_overdue now) session.pushed) (overdue_in others now) (rw is at left_none))

after_the_first : (keeps : Bool) (first : Pushed) (others : List Pushed) → cond keeps (first ∷ others) others ≡ [] → others ≡ []
after_the_first true first others none = absurd (cc)
after_the_first false first others none = none

the_first : (keeps : Bool) (first : Pushed) (others : List Pushed) → keeps ≡ true → cond keeps (first ∷ others) others ≡ [] → ⊥
the_first true first others passes none = cc
the_first false first others passes none = cc

-- a request that passes a test is kept by it
pub one_is_kept : (test : Pushed → Bool) (all : List Pushed) (place : ℕ) (request : Pushed) → place < length all → request ≡ get_or all place request
    → test request ≡ true → filter test all ≡ [] → ⊥
one_is_kept test [] place request below is passes none = absurd (omega arith)
one_is_kept test (first ∷ others) zero request below is passes none =
    the_first (test first) first (filter test others) (sym (ap test is) ∙ passes) none
one_is_kept test (first ∷ others) (suc place) request below is passes none =
    one_is_kept test others place request (omega arith) is passes (after_the_first (test first) first (filter test others) none)
