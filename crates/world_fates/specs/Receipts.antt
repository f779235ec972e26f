-- Of each message_id one delivery receipt is printed at most.
use Rattle.std.specs.Prelude.{ℕ, ◌≤◌, ◌==◌, Bool, false, List, count_by}
use Rattle.script_text.specs.Prints.{At, Print, Refuses, Reports, StopsSettling, WorldPrint}
use Rattle.script_text.specs.Script.{prints_of}

-- a delivery receipt (SMPP 3.4, 5.2.12) whose message_id is this number in decimals
abbrev pub is_receipt_of : ℕ → Print → Bool
is_receipt_of id (Reports session sequence optional report) = report.id == id
is_receipt_of id other = false

-- at whatever node
abbrev pub is_receipt_at : ℕ → WorldPrint → Bool
is_receipt_at id (At node print) = is_receipt_of id print
is_receipt_at id (Refuses number) = false
is_receipt_at id StopsSettling = false

-- Of all that a script prints, at whatever nodes and on whatever sessions, one delivery receipt at most is of each message_id.
abbrev pub OneReceiptIsPrinted : Type 0
OneReceiptIsPrinted = (script : List ℕ) (id : ℕ) → count_by (is_receipt_at id) (prints_of script) ≤ 1
