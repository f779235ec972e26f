-- What each session is stays so if requests leave its windows.
use Rattle.std.proofs.Common.{◌≡◌, ◌≤◌, ◌∙◌, Bool, true, false, cond, suc, List, [], ◌∷◌, length, filter, ap, arith}
use Rattle.sessions.specs.declared.request.OpenRequest.{OpenRequest}
use Rattle.sessions.specs.declared.pushed.Pushed.{Pushed}
use Rattle.sessions.specs.Windows.{without_first}
use Rattle.sessions.specs.Session.{Session, IsSession}
use Rattle.sessions.proofs.Firsts.{no_longer, of_empty}

pub without_request : (session : Session) (p : OpenRequest → Bool) (requests : List OpenRequest) →
    requests ≡ without_first p session.requests → IsSession session →
    IsSession (record session { requests = requests })
without_request session p requests left is = record {
  account = is.account;
  requests = let fewer = no_longer p session.requests in let same = ap length left in omega arith;
  pushed = is.pushed;
  asks = λ silent. left ∙ of_empty p session.requests (is.asks silent);
  receives = is.receives;
  first = is.first;
  last = is.last;
}

pub without_pushed : (session : Session) (p : Pushed → Bool) (pushed : List Pushed) → pushed ≡ without_first p session.pushed →
    IsSession session →
    IsSession (record session { pushed = pushed })
without_pushed session p pushed left is = record {
  account = is.account;
  requests = is.requests;
  pushed = let fewer = no_longer p session.pushed in let same = ap length left in omega arith;
  asks = is.asks;
  receives = λ silent. left ∙ of_empty p session.pushed (is.receives silent);
  first = is.first;
  last = is.last;
}

no_more : (p : Pushed → Bool) (xs : List Pushed) → length (filter p xs) ≤ length xs
no_more p [] = omega arith
no_more p (x ∷ xs) = at_test (p x) (no_more p xs)
  where
    at_test : (b : Bool) → length (filter p xs) ≤ length xs → length (cond b (x ∷ filter p xs) (filter p xs)) ≤ suc (length xs)
    at_test true others = omega arith
    at_test false others = omega arith

pub filtered_pushed : (session : Session) (p : Pushed → Bool) (pushed : List Pushed) → pushed ≡ filter p session.pushed →
    IsSession session →
    IsSession (record session { pushed = pushed })
filtered_pushed session p pushed left is = record {
  account = is.account;
  requests = is.requests;
  pushed = let fewer = no_more p session.pushed in let same = ap length left in omega arith;
  asks = is.asks;
  receives = λ silent. left ∙ ap (filter p) (is.receives silent);
  first = is.first;
  last = is.last;
}
