-- The chain of a message: the decrees on it, of which each may follow the one before.
use Rattle.std.specs.Prelude.{◌≡◌, ℕ, ◌+◌, ◌≤◌, List, [], ◌∷◌, ◌++◌, Option, Some, None}
use Rattle.mc_model.specs.message.Submission.{Submission}
use Rattle.mc_model.specs.message.Decree.{Attempt, Decree, Failed, Fate, Final, Kind, Taken, Told}
use Rattle.mc_model.specs.message.Neighbours.{MayBegin, MayFollow}

-- the decrees on one message, the newest first
pub record Chain : Type 0 where
  pub id : ℕ
  pub decrees : List Decree

-- what was taken, and how often it was attempted
abbrev pub taken_by : Kind → Option Submission → Option Submission
taken_by (Taken message) older = Some message
taken_by (Attempt number) older = older
taken_by (Failed error) older = older
taken_by (Fate final error) older = older
taken_by Told older = older

abbrev pub taken_in : List Decree → Option Submission
taken_in [] = None
taken_in (newest ∷ older) = taken_by newest.kind (taken_in older)

-- the node that took it
abbrev pub home_by : Kind → ℕ → ℕ → ℕ
home_by (Taken message) node older = node
home_by kind node older = older

abbrev pub home_in : List Decree → ℕ
home_in [] = 0
home_in (newest ∷ older) = home_by newest.kind newest.author.node (home_in older)

abbrev pub attempts_of : Kind → ℕ
attempts_of (Taken message) = 0
attempts_of (Attempt number) = 1
attempts_of (Failed error) = 0
attempts_of (Fate final error) = 0
attempts_of Told = 0

abbrev pub attempts_in : List Decree → ℕ
attempts_in [] = 0
attempts_in (newest ∷ older) = attempts_of newest.kind + attempts_in older

-- A decree may extend a chain: moments never fall, and it may follow the newest one.
abbrev pub MayExtend : Option Submission → List Decree → Decree → Type 0
MayExtend None decrees next = ⊥
MayExtend (Some message) [] next = ⊥
MayExtend (Some message) (newest ∷ older) next =
    (newest.moment ≤ next.moment)
    × MayFollow message (home_in (newest ∷ older)) (attempts_in (newest ∷ older)) newest.author newest.moment newest.kind
    next.author next.moment next.kind

-- A permitted chain: its first decree may begin it, and each other one may follow.
abbrev pub IsPermitted : ℕ → List Decree → Type 0
IsPermitted id [] = ⊥
IsPermitted id (only ∷ []) = MayBegin id only.author only.moment only.kind
IsPermitted id (newest ∷ older ∷ oldest) =
    IsPermitted id (older ∷ oldest) × MayExtend (taken_in (older ∷ oldest)) (older ∷ oldest) newest

-- the final state, where there is one: else the message is ENROUTE; that its receipt is told does not change it
abbrev pub final_by : Kind → Option Final → Option Final
final_by (Taken message) older = None
final_by (Attempt number) older = None
final_by (Failed error) older = None
final_by (Fate final error) older = Some final
final_by Told older = older

abbrev pub final_in : List Decree → Option Final
final_in [] = None
final_in (newest ∷ older) = final_by newest.kind (final_in older)

-- a chain without its Told, if it ends in one
abbrev pub untold_by : Kind → List Decree → List Decree → List Decree
untold_by Told whole older = older
untold_by kind whole older = whole

abbrev pub untold : List Decree → List Decree
untold [] = []
untold (newest ∷ older) = untold_by newest.kind (newest ∷ older) older

-- the error of the last failure or fate, and 0 where there is none
abbrev pub error_by : Kind → ℕ → ℕ
error_by (Taken message) older = 0
error_by (Attempt number) older = older
error_by (Failed error) older = error
error_by (Fate final error) older = error
error_by Told older = older

abbrev pub error_in : List Decree → ℕ
error_in [] = 0
error_in (newest ∷ older) = error_by newest.kind (error_in older)

-- a chain goes on from another, which may be itself
pub record GoesOn (chain first : List Decree) : Type 0 where
  pub more : List Decree
  pub chain_is : chain ≡ more ++ first
