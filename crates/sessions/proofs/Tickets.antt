-- Tickets that rise.
use Rattle.std.proofs.Common.{◌≡◌, ◌<◌, ℕ, ◌==◌, Bool, true, false, cond, List, [], ◌∷◌, ◌++◌, Some, None, find, refl, ap, ◌∙◌, arith}
use Rattle.std.proofs.lemmas.Bool.Decides.{nat_tests}
use Rattle.sessions.specs.declared.request.OpenRequest.{OpenRequest}
use Rattle.sessions.specs.Windows.{without_first}
use Rattle.sessions.specs.Laws.{AreAbove, AreBelow, Rise}

abbrev pub is_of : ℕ → OpenRequest → Bool
is_of ticket request = request.ticket == ticket

above_added : (low : ℕ) (requests : List OpenRequest) (request : OpenRequest) → AreAbove low requests → low < request.ticket →
    AreAbove low (requests ++ request ∷ [])
above_added low [] request above less = (less, tt)
above_added low (first ∷ others) request above less = (above.0, above_added low others request above.1 less)

pub rise_added : (requests : List OpenRequest) (request : OpenRequest) → Rise requests → AreBelow requests request.ticket → Rise (requests ++ request ∷ [])
rise_added [] request rise below = (tt, tt)
rise_added (first ∷ others) request rise below = (above_added first.ticket others request rise.0 below.0, rise_added others request rise.1 below.1)

above_left : (low : ℕ) (requests : List OpenRequest) (p : OpenRequest → Bool) → AreAbove low requests → AreAbove low (without_first p requests)
above_left low [] p above = tt
above_left low (first ∷ others) p above = at_test (p first) (above_left low others p above.1)
  where
    at_test : (b : Bool) → AreAbove low (without_first p others) → AreAbove low (cond b others (first ∷ without_first p others))
    at_test true left = above.1
    at_test false left = (above.0, left)

pub rise_left : (requests : List OpenRequest) (p : OpenRequest → Bool) → Rise requests → Rise (without_first p requests)
rise_left [] p rise = tt
rise_left (first ∷ others) p rise = at_test (p first) (rise_left others p rise.1)
  where
    at_test : (b : Bool) → Rise (without_first p others) → Rise (cond b others (first ∷ without_first p others))
    at_test true left = rise.1
    at_test false left = (above_left first.ticket others p rise.0, left)

differ : (low n ticket : ℕ) → low ≡ ticket → low < n → n == ticket ≡ true → ⊥
differ low n ticket same above is = let e : n ≡ ticket = grind (arith, nat_tests) in omega arith

-- no ticket above one is it
none_above : (low ticket : ℕ) (requests : List OpenRequest) → low ≡ ticket → AreAbove low requests → find (is_of ticket) requests ≡ None
none_above low ticket [] same above = refl
none_above low ticket (first ∷ others) same above = at_test (first.ticket == ticket) refl (none_above low ticket others same above.1)
  where
    at_test : (b : Bool) → first.ticket == ticket ≡ b → find (is_of ticket) others ≡ None → cond b (Some first) (find (is_of ticket) others) ≡ None
    at_test true is none = absurd (differ low first.ticket ticket same above.0 is)
    at_test false is none = none

pub apart : (requests : List OpenRequest) (ticket : ℕ) → Rise requests → find (is_of ticket) (without_first (is_of ticket) requests) ≡ None
apart [] ticket rise = refl
apart (first ∷ others) ticket rise = at_test (first.ticket == ticket) refl (apart others ticket rise.1)
  where
    at_test : (b : Bool) → first.ticket == ticket ≡ b → find (is_of ticket) (without_first (is_of ticket) others) ≡ None →
        find (is_of ticket) (cond b others (first ∷ without_first (is_of ticket) others)) ≡ None
    at_test true is none = none_above first.ticket ticket others (grind (arith, nat_tests)) rise.0
    at_test false is none = ap (λ b. cond b (Some first) (find (is_of ticket) (without_first (is_of ticket) others))) is ∙ none
