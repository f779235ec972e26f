-- Delivery receipts: what one reports, to whom it goes, and those that wait for a session (SMPP 3.4, appendix B; the queue: own).
use Rattle.std.specs.Prelude.{ℕ, Bool, nat_lt, List, [], ◌∷◌, ◌++◌, filter, length, reverse, slice_get, Option, Some}
use Rattle.std.specs.Prelude.{None, option_map, if◌then◌else◌}
use Rattle.mc_model.specs.message.Chain.{taken_in}
use Rattle.mc_model.specs.message.Decree.{Decree, Fate, Kind, Told}
use Rattle.mc_model.specs.message.Submission.{Submission}
use Rattle.mc_model.specs.node.Outputs.{Receipt}
use Rattle.node_model.specs.Answers.{is_asked}
use Rattle.pdu_bodies.specs.declared.pdu.Pdu.{Pdu}
use Rattle.receipts.specs.Receipts.{receipt_message}
use Rattle.receipts.specs.Texts.{Report}
use Rattle.esme_service.specs.Pushes.{deliver_sm, is_of}

-- ---- what a receipt reports

-- the moment of the first decree
abbrev pub began_at : List Decree → Option ℕ
began_at decrees = option_map (λ (decree : Decree). decree.moment) (slice_get (reverse decrees) 0)

-- the report, if it was asked for
abbrev pub report_if : Bool → Report → Option Report
report_if asked report = if asked then Some report else None

-- of a message that was taken, by the fate that it has
abbrev pub reported_as : ℕ → Option ℕ → Option Submission → ℕ → Kind → Option Report
reported_as id (Some began) (Some taken) ended (Fate final error) =
    report_if (is_asked final taken) (record { id = id; taken = taken; began = began; final = final; error = error; ended = ended })
reported_as id began taken ended kind = None

abbrev pub reported_by_fate : ℕ → Option ℕ → Option Submission → List Decree → Option Report
reported_by_fate id began taken [] = None
reported_by_fate id began taken (newest ∷ older) = reported_as id began taken newest.moment newest.kind

-- that stands below a Told: of a chain that ends in another decree nothing is reported
abbrev pub reported_below : ℕ → Option ℕ → Option Submission → List Decree → Kind → Option Report
reported_below id began taken older Told = reported_by_fate id began taken older
reported_below id began taken older kind = None

abbrev pub reported_on : ℕ → List Decree → Option Report
reported_on id [] = None
reported_on id (newest ∷ older) = reported_below id (began_at (newest ∷ older)) (taken_in (newest ∷ older)) older newest.kind

abbrev pub reported_by : Receipt → Option Report
reported_by receipt = reported_on receipt.id receipt.chain

-- the deliver_sm of a report, with a sequence_number, for an ESME that knows optional parameters or does not
abbrev pub report_pdu : ℕ → Bool → Report → Pdu
report_pdu sequence optional report = deliver_sm sequence optional (receipt_message report)

-- ---- to whom it goes

-- the account that submitted the message
abbrev pub submitter_of : Receipt → Option (List ℕ)
submitter_of receipt = option_map (λ (taken : Submission). taken.submitter) (taken_in receipt.chain)

abbrev pub is_for : List ℕ → Receipt → Bool
is_for account receipt = is_of account (submitter_of receipt)

-- ---- receipts that wait

-- so many wait for an account at most (own)
abbrev pub most_waiting : ℕ
most_waiting = 10000

-- one more waits for this account, unless as many do as may
abbrev pub waits_for : List ℕ → List Receipt → Receipt → List Receipt
waits_for account waiting receipt = if nat_lt (length (filter (is_for account) waiting)) most_waiting then waiting ++ receipt ∷ [] else waiting

abbrev pub waits_if : List Receipt → Receipt → Option (List ℕ) → List Receipt
waits_if waiting receipt None = waiting
waits_if waiting receipt (Some account) = waits_for account waiting receipt

-- one more waits for the account that submitted its message
abbrev pub waits : List Receipt → Receipt → List Receipt
waits waiting receipt = waits_if waiting receipt (submitter_of receipt)
