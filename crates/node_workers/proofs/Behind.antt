-- A worker, from one attempt to the next.
use Rattle.std.proofs.Common.{ℕ, List, [], ◌∷◌, ◌++◌, Option, true, false, refl, sym, ap, subst, ◌∙◌, append_assoc}
use Rattle.pdu_bodies.specs.declared.pdu.Pdu.{Pdu}
use Rattle.sessions.specs.Session.{sequence_after}
use Rattle.node_threads.specs.Slips.{Slipped}
use Rattle.node_workers.specs.Attempts.{AreAttempts, HasWorkedTo, IsAttempt, Tries}

module _ {G : Type 0} (answers : G → List ℕ → List ℕ → Option Pdu → G → Type 0) (node : ℕ) where
  -- an attempt more, behind the others
  attempts_more : (first : ℕ) (was : G) (made : List Slipped) (last : ℕ) (between : G) (granted answered : Slipped) (new : G) →
      AreAttempts answers node first was made last between → IsAttempt answers node last between granted answered new →
      AreAttempts answers node first was (made ++ granted ∷ answered ∷ []) (sequence_after last) new
  attempts_more first was [] last between granted answered new same attempt = (
    new,
    subst (λ (g : G). IsAttempt answers node first g granted answered new) same.1
        (subst (λ (n : ℕ). IsAttempt answers node n between granted answered new) same.0 attempt),
    (ap sequence_after same.0, refl),
  )
  attempts_more first was (one ∷ []) last between granted answered new made attempt = absurd made
  attempts_more first was (one ∷ other ∷ later) last between granted answered new made attempt = (
    made.0,
    made.1,
    attempts_more (sequence_after first) made.0 later last between granted answered new made.2 attempt,
  )

  -- a worker has worked, and an attempt more was granted
  pub worked_more : (old : List Slipped) (was : G) (between : List Slipped) (then : G) (sequence : ℕ) (new : List Slipped) (is : G) →
      HasWorkedTo answers node old was between then sequence → Tries answers node sequence between then new is true →
      HasWorkedTo answers node old was new is (sequence_after sequence)
  worked_more old was between then sequence new is worked tried =
      let granted = tried.0 in
      let answered = tried.1 in
      record {
        made = worked.made ++ granted ∷ answered ∷ [];
        behind = tried.2 ∙ ap (λ slips. slips ++ granted ∷ answered ∷ []) worked.behind ∙ append_assoc old worked.made (granted ∷ answered ∷ []);
        attempts = attempts_more 1 was worked.made sequence then granted answered is worked.attempts tried.3;
      }
