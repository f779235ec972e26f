-- What is due for a message that waits for its next attempt (own; the states are those of SMPP 3.4, 5.2.28).
use Rattle.std.specs.Prelude.{◌≡◌, ℕ, ◌<◌, Bool, true, List, ◌∷◌, Option, Some, None}
use Rattle.mc_model.specs.message.Decree.{Attempt, Author, Decree, Expired, Failed, Fate, Kind, Taken, Told, Undeliverable}
use Rattle.mc_model.specs.message.Chain.{MayExtend, error_in, taken_in}
use Rattle.delivery.specs.declared.due_decree.DueDecree.{DueDecree}
use Rattle.delivery.specs.declared.due_decree.DueDecree.TheVariants as dues

-- what its decree decides, by the error of the last failure
abbrev pub kind_due : ℕ → DueDecree → Kind
kind_due error dues.Expired = Fate Expired 0
kind_due error dues.Undeliverable = Fate Undeliverable error
kind_due error (dues.Attempt number) = Attempt number

-- a decree of this kind may follow at a moment, whoever makes it
abbrev pub MayCome : List Decree → ℕ → Kind → Type 0
MayCome decrees moment kind = (author : Author) →
    MayExtend (taken_in decrees) decrees (record { author = author; moment = moment; kind = kind })

-- the message was taken, or an attempt of it failed
abbrev pub IsIdleKind : Kind → Type 0
IsIdleKind (Taken message) = Unit {0}
IsIdleKind (Attempt number) = ⊥
IsIdleKind (Failed error) = Unit {0}
IsIdleKind (Fate final error) = ⊥
IsIdleKind Told = ⊥

-- and the decree may follow now
pub record MayBeDue (decrees : List Decree) (now : ℕ) (due : DueDecree) : Type 0 where
  pub newest : Decree
  pub older : List Decree
  pub decrees_are : decrees ≡ newest ∷ older
  pub idle : IsIdleKind newest.kind
  pub may : MayCome decrees now (kind_due (error_in decrees) due)

-- an attempt needs a target that is up
abbrev pub NeedsUp : DueDecree → Bool → Type 0
NeedsUp (dues.Attempt number) up = up ≡ true
NeedsUp due up = Unit {0}

abbrev pub Fits : List Decree → ℕ → Bool → DueDecree → Type 0
Fits decrees now up due = MayBeDue decrees now due × NeedsUp due up

-- the end of the message comes before another attempt of it
abbrev pub order_of : DueDecree → ℕ
order_of dues.Expired = 1
order_of dues.Undeliverable = 2
order_of (dues.Attempt number) = 3

-- the first that fits is due
pub record IsFirstDue (decrees : List Decree) (now : ℕ) (up : Bool) (due : DueDecree) : Type 0 where
  pub fits : Fits decrees now up due
  pub first : (earlier : DueDecree) → order_of earlier < order_of due → Fits decrees now up earlier → ⊥

abbrev pub IsDue : List Decree → ℕ → Bool → Option DueDecree → Type 0
IsDue decrees now up None = (due : DueDecree) → Fits decrees now up due → ⊥
IsDue decrees now up (Some due) = IsFirstDue decrees now up due
