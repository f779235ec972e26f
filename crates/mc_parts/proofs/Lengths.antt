-- How long a chain may be.
use Rattle.std.proofs.Common.{ℕ, suc, ◌+◌, ◌*◌, ◌≤◌, List, [], ◌∷◌, length, Option, Some, None, arith}
use Rattle.mc_model.specs.message.Submission.{Submission}
use Rattle.mc_model.specs.message.Decree.{Decree, Author, Kind, Taken, Attempt, Failed, Fate, Told, Delivered, Expired, Deleted, Undeliverable, Rejected}
use Rattle.mc_model.specs.message.Neighbours.{MayBegin, MayFollow}
use Rattle.mc_model.specs.message.Chain.{IsPermitted, MayExtend, attempts_of, attempts_in}

-- the number of attempts, of which there are eight at most, and that of decrees
pub record AreAtMost (most_attempts most attempts count : ℕ) : Type 0 where
  pub tried : attempts ≤ most_attempts
  pub long : count ≤ most

-- by the newest decree
abbrev Counted : Kind → ℕ → ℕ → Type 0
Counted (Taken message) attempts count = AreAtMost 0 1 attempts count
Counted (Attempt number) attempts count = AreAtMost 8 (2 * attempts) attempts count
Counted (Failed error) attempts count = AreAtMost 8 (2 * attempts + 1) attempts count
Counted (Fate final error) attempts count = AreAtMost 8 (2 * attempts + 2) attempts count
Counted Told attempts count = AreAtMost 8 (2 * attempts + 3) attempts count

follows : (message : Submission) (home attempts : ℕ) (old : Author) (before : ℕ) (kind : Kind) (author : Author) (moment : ℕ) (next : Kind)
    (count : ℕ) → MayFollow message home attempts old before kind author moment next → Counted kind attempts count →
    Counted next (attempts_of next + attempts) (suc count)
follows message home attempts old before (Taken taken) author moment (Attempt number) count may so_far =
    record { tried = omega (arith, so_far.tried); long = omega (arith, so_far.long) }
follows message home attempts old before (Taken taken) author moment (Fate Expired error) count may so_far =
    record { tried = omega (arith, so_far.tried); long = omega (arith, so_far.long) }
follows message home attempts old before (Taken taken) author moment (Fate Deleted error) count may so_far =
    record { tried = omega (arith, so_far.tried); long = omega (arith, so_far.long) }
follows message home attempts old before (Taken taken) author moment (Fate Delivered error) count may so_far = absurd may
follows message home attempts old before (Taken taken) author moment (Fate Undeliverable error) count may so_far = absurd may
follows message home attempts old before (Taken taken) author moment (Fate Rejected error) count may so_far = absurd may
follows message home attempts old before (Taken taken) author moment (Taken again) count may so_far = absurd may
follows message home attempts old before (Taken taken) author moment (Failed error) count may so_far = absurd may
follows message home attempts old before (Taken taken) author moment Told count may so_far = absurd may
follows message home attempts old before (Attempt tried) author moment (Failed error) count may so_far =
    record { tried = omega (arith, so_far.tried); long = omega (arith, so_far.long) }
follows message home attempts old before (Attempt tried) author moment (Fate final error) count may so_far =
    record { tried = omega (arith, so_far.tried); long = omega (arith, so_far.long) }
follows message home attempts old before (Attempt tried) author moment (Taken again) count may so_far = absurd may
follows message home attempts old before (Attempt tried) author moment (Attempt number) count may so_far = absurd may
follows message home attempts old before (Attempt tried) author moment Told count may so_far = absurd may
follows message home attempts old before (Failed cause) author moment (Attempt number) count may so_far =
    record { tried = omega (arith, may.most); long = omega (arith, so_far.long) }
follows message home attempts old before (Failed cause) author moment (Fate final error) count may so_far =
    record { tried = omega (arith, so_far.tried); long = omega (arith, so_far.long) }
follows message home attempts old before (Failed cause) author moment (Taken again) count may so_far = absurd may
follows message home attempts old before (Failed cause) author moment (Failed error) count may so_far = absurd may
follows message home attempts old before (Failed cause) author moment Told count may so_far = absurd may
follows message home attempts old before (Fate final cause) author moment (Taken again) count may so_far = absurd may
follows message home attempts old before (Fate final cause) author moment (Attempt number) count may so_far = absurd may
follows message home attempts old before (Fate final cause) author moment (Failed error) count may so_far = absurd may
follows message home attempts old before (Fate final cause) author moment (Fate next error) count may so_far = absurd may
follows message home attempts old before (Fate final cause) author moment Told count may so_far =
    record { tried = omega (arith, so_far.tried); long = omega (arith, so_far.long) }
follows message home attempts old before Told author moment next count may so_far = absurd may

extends : (message : Option Submission) (older : Decree) (oldest : List Decree) (newest : Decree) →
    MayExtend message (older ∷ oldest) newest → Counted older.kind (attempts_in (older ∷ oldest)) (length (older ∷ oldest)) →
    Counted newest.kind (attempts_in (newest ∷ older ∷ oldest)) (length (newest ∷ older ∷ oldest))
extends None older oldest newest may so_far = absurd may
extends (Some message) older oldest newest may so_far =
    follows message _ _ older.author older.moment older.kind newest.author newest.moment newest.kind _ may.1 so_far

begins : (id : ℕ) (author : Author) (moment : ℕ) (kind : Kind) → MayBegin id author moment kind → Counted kind (attempts_of kind + 0) 1
begins id author moment (Taken message) may = record { tried = omega arith; long = omega arith }
begins id author moment (Attempt number) may = absurd may
begins id author moment (Failed error) may = absurd may
begins id author moment (Fate final error) may = absurd may
begins id author moment Told may = absurd may

counted : (id : ℕ) (newest : Decree) (older : List Decree) → IsPermitted id (newest ∷ older) →
    Counted newest.kind (attempts_in (newest ∷ older)) (length (newest ∷ older))
counted id newest [] permitted = begins id newest.author newest.moment newest.kind permitted
counted id newest (older ∷ oldest) permitted = extends _ older oldest newest permitted.1 (counted id older oldest permitted.0)

most : (kind : Kind) (attempts count : ℕ) → Counted kind attempts count → count ≤ 19
most (Taken message) attempts count so_far = omega (arith, so_far.long)
most (Attempt number) attempts count so_far = omega (arith, so_far.tried, so_far.long)
most (Failed error) attempts count so_far = omega (arith, so_far.tried, so_far.long)
most (Fate final error) attempts count so_far = omega (arith, so_far.tried, so_far.long)
most Told attempts count so_far = omega (arith, so_far.tried, so_far.long)

pub most_decrees : (id : ℕ) (decrees : List Decree) → IsPermitted id decrees → length decrees ≤ 19
most_decrees id [] permitted = absurd permitted
most_decrees id (newest ∷ older) permitted = most newest.kind _ _ (counted id newest older permitted)

tried : (kind : Kind) (attempts count : ℕ) → Counted kind attempts count → attempts ≤ 8
tried (Taken message) attempts count so_far = omega (arith, so_far.tried)
tried (Attempt number) attempts count so_far = so_far.tried
tried (Failed error) attempts count so_far = so_far.tried
tried (Fate final error) attempts count so_far = so_far.tried
tried Told attempts count so_far = so_far.tried

pub most_attempts : (id : ℕ) (decrees : List Decree) → IsPermitted id decrees → attempts_in decrees ≤ 8
most_attempts id [] permitted = absurd permitted
most_attempts id (newest ∷ older) permitted = tried newest.kind _ _ (counted id newest older permitted)
