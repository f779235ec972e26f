-- Until when no rule of a tick fits what is known, while no cancel_sm waits that matches (own).
use Rattle.std.specs.Prelude.{◌≡◌, ℕ, ◌+◌, ◌*◌, min, Bool, false, is_some, List, [], ◌∷◌, Option, Some, None, if◌then◌else◌}
use Rattle.mc_model.specs.message.Submission.{Submission}
use Rattle.mc_model.specs.message.Decree.{Attempt, Decree, Failed, Fate, Kind, Taken, Told}
use Rattle.mc_model.specs.message.Neighbours.{retry_delay}
use Rattle.mc_model.specs.message.Chain.{attempts_in, taken_in}
use Rattle.fate_chain.specs.declared.decree.Author.{Author}
use Rattle.tick_rules.specs.declared.attempted.Attempted.{Attempted}
use Rattle.tick_rules.specs.declared.reached.Reached.{Reached}
use Rattle.tick_rules.specs.declared.standpoint.Standpoint.{Standpoint}
use Rattle.tick_rules.specs.Dues.{own_rule}

-- the clock of a node begins at the start of 2000, and ends at the end of 2099
abbrev pub at_first : Author → Standpoint
at_first author = record { author = author; clock = 946684800 }

abbrev pub last_moment : ℕ
last_moment = 4102444799

-- A message that waits expires (5.2.16), and if an attempt may begin, its next one is due: from the schedule_delivery_time on (5.2.15), or 60
-- seconds for each attempt after the last failure. Any other one waits for no moment.
abbrev pub waits_until : Bool → Submission → Decree → List Decree → Kind → ℕ
waits_until begins taken newest older (Taken message) = if begins then min taken.expiry taken.schedule else taken.expiry
waits_until begins taken newest older (Attempt number) = last_moment
waits_until begins taken newest older (Failed error) =
    if begins then min taken.expiry (newest.moment + retry_delay * attempts_in (newest ∷ older)) else taken.expiry
waits_until begins taken newest older (Fate final error) = last_moment
waits_until begins taken newest older Told = last_moment

abbrev pub IsWaitBehind : Bool → List Decree → ℕ → Type 0
IsWaitBehind begins [] until = ⊥
IsWaitBehind begins (newest ∷ older) until = (taken : Submission) → taken_in (newest ∷ older) ≡ Some taken →
    until ≡ waits_until begins taken newest older newest.kind

-- it is none if a rule fits as the clock begins
abbrev pub until_behind : Author → Attempted → Reached → Decree → List Decree → Submission → Option ℕ
until_behind author a reached newest older taken =
    if is_some (own_rule (at_first author) a false reached newest older taken)
    then None
    else Some (waits_until reached.begins taken newest older newest.kind)

abbrev pub IsUntilBehind : Author → Attempted → Reached → List Decree → Option ℕ → Type 0
IsUntilBehind author a reached [] until = ⊥
IsUntilBehind author a reached (newest ∷ older) until = (taken : Submission) → taken_in (newest ∷ older) ≡ Some taken →
    until ≡ until_behind author a reached newest older taken
