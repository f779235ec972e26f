-- What is due behind a chain that is known, and its decree (own).
use Rattle.std.specs.Prelude.{◌≡◌, ℕ, Bool, ◌==◌, ◌&&◌, List, [], ◌∷◌, Option, Some, None, if◌then◌else◌}
use Rattle.std.specs.Option.{option_map, option_or}
use Rattle.mc_model.specs.message.Submission.{Submission}
use Rattle.mc_model.specs.message.Decree.{Decree, Deleted, Failed, Fate, Kind, Told}
use Rattle.mc_model.specs.message.Neighbours.{MayFollow}
use Rattle.mc_model.specs.message.Chain.{MayExtend, error_in, taken_in}
use Rattle.mc_model.specs.node.FirstRule.{Announce, Close, Delete, Expire, GiveUp, Lose, Rule, Try, Undeliver}
use Rattle.mc_model.specs.node.Outcome.{decree_of, no_session_error, older_incarnation_error}
use Rattle.node_model.specs.Proposer.{Start}
use Rattle.node_model.specs.Starts.{announced, is_idle, moment_behind, start_behind}
use Rattle.node_model.specs.Rules.{Fitting, attempt_rule, expiring, fitting, if_so, is_attempt_by, tried, undelivered}
use Rattle.fate_chain.specs.Kinds.{author_of}
use Rattle.delivery.specs.Due.{kind_due as kind_of_decree}
use Rattle.delivery.specs.declared.due_decree.DueDecree.{DueDecree}
use Rattle.delivery.specs.declared.due_decree.DueDecree.TheVariants as decrees
use Rattle.tick_rules.specs.declared.attempted.Attempted.{Attempted}
use Rattle.tick_rules.specs.declared.attempted.Closing.{Closing}
use Rattle.tick_rules.specs.declared.due.Due.{Due}
use Rattle.tick_rules.specs.declared.due.Due.TheVariants as dues
use Rattle.tick_rules.specs.declared.reached.Reached.{Reached}
use Rattle.tick_rules.specs.declared.standpoint.Standpoint.{Standpoint}
use Rattle.tick_rules.specs.Attempts.{attempted_at, closed_as}
use Rattle.tick_rules.specs.Standpoints.{kept_of, setup_of}

-- ---- what is due, as a rule of a tick

abbrev pub rule_by : DueDecree → Rule
rule_by decrees.Expired = Expire
rule_by decrees.Undeliverable = Undeliver
rule_by (decrees.Attempt number) = Try

abbrev pub rule_of : Due → Rule
rule_of (dues.Close closing) = Close
rule_of dues.Lose = Lose
rule_of dues.GiveUp = GiveUp
rule_of dues.Delete = Delete
rule_of dues.Told = Announce
rule_of (dues.Decree due) = rule_by due

-- what its decree decides, by the error of the last failure
abbrev pub kind_due : ℕ → Due → Kind
kind_due error (dues.Close closing) = decree_of (closed_as closing)
kind_due error dues.Lose = Failed older_incarnation_error
kind_due error dues.GiveUp = Failed no_session_error
kind_due error dues.Delete = Fate Deleted 0
kind_due error dues.Told = Told
kind_due error (dues.Decree due) = kind_of_decree error due

abbrev pub start_for : Standpoint → Decree → List Decree → Due → Start
start_for s newest older due = start_behind (setup_of s) (kept_of s) newest older (kind_due (error_in (newest ∷ older)) due)

abbrev pub fitting_for : Standpoint → Decree → List Decree → Due → Fitting
fitting_for s newest older due = record { rule = rule_of due; start = start_for s newest older due }

-- ---- which rule fits

-- its receipt is to be told
abbrev pub telling_rule : Standpoint → Submission → Decree → List Decree → Option Fitting
telling_rule s taken newest older = fitting Announce (announced (setup_of s) (kept_of s) taken newest older newest.kind)

-- of a message that waits, or whose fate is known
abbrev pub idle_rule : Standpoint → Bool → Bool → Submission → Decree → List Decree → Option Fitting
idle_rule s cancelled begins taken newest older =
    option_or (fitting Delete (if_so (is_idle newest.kind && cancelled) (Some (start_for s newest older dues.Delete))))
    (option_or (fitting Expire (expiring (setup_of s) (kept_of s) taken newest older))
    (option_or (fitting Undeliver (undelivered (setup_of s) (kept_of s) newest older newest.kind))
    (option_or (fitting Try (if_so begins (tried (setup_of s) (kept_of s) taken newest older newest.kind)))
    (telling_rule s taken newest older))))

-- of any message
abbrev pub own_rule : Standpoint → Attempted → Bool → Reached → Decree → List Decree → Submission → Option Fitting
own_rule s a cancelled reached newest older taken =
    if is_attempt_by s.author.node newest newest.kind
    then attempt_rule (setup_of s) (kept_of s) (attempted_at a) reached.up newest older
    else idle_rule s cancelled reached.begins taken newest older

-- it is what is due
abbrev pub IsDueBehind : Standpoint → Attempted → Bool → Reached → List Decree → Option Due → Type 0
IsDueBehind s a cancelled reached [] due = ⊥
IsDueBehind s a cancelled reached (newest ∷ older) due = (taken : Submission) → taken_in (newest ∷ older) ≡ Some taken →
    option_map (fitting_for s newest older) due ≡ own_rule s a cancelled reached newest older taken

-- the message is deleted, by requests alone
abbrev pub IsDeletion : Standpoint → Bool → List Decree → Option Due → Type 0
IsDeletion s cancelled [] due = ⊥
IsDeletion s cancelled (newest ∷ older) due = due ≡ (if is_idle newest.kind && cancelled then Some dues.Delete else None)

-- the receipt on its fate is to be told
abbrev pub IsTelling : Standpoint → List Decree → Option Due → Type 0
IsTelling s [] due = ⊥
IsTelling s (newest ∷ older) due = (taken : Submission) → taken_in (newest ∷ older) ≡ Some taken →
    option_map (fitting_for s newest older) due ≡ telling_rule s taken newest older

-- an attempt of this incarnation was closed so
abbrev pub IsEnd : Standpoint → Closing → List Decree → Option Due → Type 0
IsEnd s closing [] due = ⊥
IsEnd s closing (newest ∷ older) due =
    due ≡ (if is_attempt_by s.author.node newest newest.kind && newest.author.incarnation == s.author.incarnation
    then Some (dues.Close closing) else None)

-- ---- its decree

abbrev pub decree_for : Standpoint → Decree → ℕ → Due → Decree
decree_for s newest error due =
    record { author = author_of s.author; moment = moment_behind (kept_of s) newest; kind = kind_due error due }

abbrev pub IsDecreeBehind : Standpoint → List Decree → Due → Decree → Type 0
IsDecreeBehind s [] due decree = ⊥
IsDecreeBehind s (newest ∷ older) due decree = decree ≡ decree_for s newest (error_in (newest ∷ older)) due

-- it may follow
abbrev pub MayBeDue : Standpoint → List Decree → Due → Type 0
MayBeDue s [] due = ⊥
MayBeDue s (newest ∷ older) due =
    MayExtend (taken_in (newest ∷ older)) (newest ∷ older) (decree_for s newest (error_in (newest ∷ older)) due)

-- the chain with it
abbrev pub IsBehind : Standpoint → List Decree → Due → List Decree → Type 0
IsBehind s [] due chain = ⊥
IsBehind s (newest ∷ older) due chain = chain ≡ (start_for s newest older due).chain

-- it may follow an attempt, whatever the message
abbrev pub MayEnd : Standpoint → Decree → Due → Type 0
MayEnd s newest due = (message : Submission) (home attempts error : ℕ) →
    MayFollow message home attempts newest.author newest.moment newest.kind (author_of s.author) (moment_behind (kept_of s) newest) (kind_due error due)
