-- What a tick makes of the table of a node by itself: each message gets the decree that is due (own).
use Rattle.std.specs.Prelude.{ℕ, ◌+◌, ◌*◌, max, Bool, ◌==◌, ◌&&◌, not, nat_le, nat_lt, List, [], ◌∷◌, ◌++◌, flat_map, map, Option, Some, None, if◌then◌else◌}
use Rattle.std.specs.Option.{option_or}
use Rattle.std.specs.Map.{keys_of}
use Rattle.mc_model.specs.message.Submission.{Submission}
use Rattle.mc_model.specs.message.Decree.{Attempt, Decree, Expired, Failed, Fate, Told, Kind, Taken, Undeliverable}
use Rattle.mc_model.specs.message.Neighbours.{most_attempts, retry_delay}
use Rattle.mc_model.specs.message.Chain.{attempts_in, taken_in}
use Rattle.mc_model.specs.node.Outcome.{no_session_error, older_incarnation_error}
use Rattle.mc_model.specs.node.Outputs.{Receipt}
use Rattle.node_model.specs.Answers.{receipts_of}
use Rattle.table_laws.specs.Tables.{Entry, TableNode, chain_at, decree_by, entry_at, is_to_tell, known_as, moment_behind, settled, tells, told_behind}

abbrev pub due_if : Bool → Kind → Option Kind
due_if test kind = if test then Some kind else None

-- An attempt of an older incarnation is lost, and one that was not granted fails if its target is not up.
abbrev pub due_of_attempt : TableNode → Bool → Bool → Decree → Option Kind
due_of_attempt t granted up newest =
    option_or (due_if (nat_lt newest.author.incarnation t.incarnation) (Failed older_incarnation_error))
    (due_if ((newest.author.incarnation == t.incarnation) && (not granted && not up)) (Failed no_session_error))

-- a message that waits for its next attempt expires
abbrev pub expires : Submission → ℕ → Option Kind
expires message now = due_if (nat_le message.expiry now) (Fate Expired 0)

-- the first attempt is due from the schedule on
abbrev pub tries : Bool → Submission → ℕ → Option Kind
tries up message now = due_if (up && (nat_le message.schedule now && nat_lt now message.expiry)) (Attempt 1)

-- all attempts failed
abbrev pub gives_up : ℕ → ℕ → Option Kind
gives_up attempts error = due_if (attempts == most_attempts) (Fate Undeliverable error)

-- the next attempt is due some time after the last failure
abbrev pub tries_again : Bool → Submission → ℕ → ℕ → ℕ → Option Kind
tries_again up message failed attempts now =
    due_if (up && (nat_lt attempts most_attempts && (nat_lt now message.expiry && nat_le (failed + retry_delay * attempts) now)))
    (Attempt (attempts + 1))

-- by the newest decree: whether it was granted, and whether the target of the message is up
abbrev pub due_behind : TableNode → Bool → Bool → Submission → Decree → List Decree → Kind → Option Kind
due_behind t granted up message newest older (Taken taken) =
    option_or (expires message (moment_behind t.clock (newest ∷ older))) (tries up message (moment_behind t.clock (newest ∷ older)))
due_behind t granted up message newest older (Attempt number) =
    if newest.author.node == 1 then due_of_attempt t granted up newest else None
due_behind t granted up message newest older (Failed error) =
    option_or (expires message (moment_behind t.clock (newest ∷ older)))
    (option_or (gives_up (attempts_in (newest ∷ older)) error)
    (tries_again up message newest.moment (attempts_in (newest ∷ older)) (moment_behind t.clock (newest ∷ older))))
due_behind t granted up message newest older (Fate final error) = due_if (is_to_tell message (newest ∷ older) (Fate final error)) Told
due_behind t granted up message newest older Told = None

abbrev pub due_of : TableNode → (List ℕ → Bool) → Bool → List Decree → Option Submission → Option Kind
due_of t up granted [] taken = None
due_of t up granted (newest ∷ older) None = None
due_of t up granted (newest ∷ older) (Some message) = due_behind t granted (up message.target) message newest older newest.kind

-- what is due for a message, if anything is; up says of which accounts a session may receive
abbrev pub due : TableNode → (List ℕ → Bool) → Entry → Option Kind
due t up entry = due_of t up entry.granted entry.chain (taken_in entry.chain)

abbrev pub entry_with : TableNode → Entry → Option Kind → Entry
entry_with t entry None = entry
entry_with t entry (Some kind) = settled t entry.chain (decree_by t entry.chain kind)

abbrev pub entry_then : TableNode → (List ℕ → Bool) → Entry → Entry
entry_then t up entry = entry_with t entry (due t up entry)

-- ---- a tick

abbrev pub at_clock : TableNode → ℕ → TableNode
at_clock t moment = record t { clock = max t.clock moment }

abbrev pub each_due : TableNode → (List ℕ → Bool) → TableNode
each_due t up = record t { table = map (λ entry. (entry.0, entry_then t up entry.1)) t.table }

abbrev pub ticked : TableNode → ℕ → (List ℕ → Bool) → TableNode
ticked t moment up = each_due (at_clock t moment) up

-- of one that had only to be told
abbrev pub receipts_at_once : TableNode → ℕ → List Decree → Option Kind → List Receipt
receipts_at_once t id old None = []
receipts_at_once t id old (Some kind) = receipts_of 1 t.incarnation id (known_as old) (decree_by t old kind ∷ old)

-- of one that ended now
abbrev pub receipts_behind : TableNode → ℕ → List Decree → Option Kind → List Receipt
receipts_behind t id old None = []
receipts_behind t id old (Some kind) =
    if tells old (decree_by t old kind)
    then receipts_of 1 t.incarnation id (known_as (decree_by t old kind ∷ old)) (told_behind t old (decree_by t old kind))
    else []

-- first those that had only to be told, then those that ended now, each by ascending ids
abbrev pub receipts_due : TableNode → (List ℕ → Bool) → List Receipt
receipts_due t up =
    flat_map (λ id. receipts_at_once t id (chain_at t.table id) (due t up (entry_at t.table id))) (keys_of t.table)
    ++ flat_map (λ id. receipts_behind t id (chain_at t.table id) (due t up (entry_at t.table id))) (keys_of t.table)

abbrev pub receipts_ticked : TableNode → ℕ → (List ℕ → Bool) → List Receipt
receipts_ticked t moment up = receipts_due (at_clock t moment) up
