-- Of the lines that a script writes one at most is a delivery receipt of each message_id.
use Rattle.std.proofs.Common.{◌≡◌, ℕ, ◌≤◌, ◌<◌, ◌^◌, true, Bool, cond, List, [], ◌∷◌, ◌++◌, None, refl, sym, ap, subst, ◌∙◌, inl, inr, arith}
use Rattle.std.specs.Prelude.{◌==◌, count_by}
use Rattle.std.specs.Fmt.{decimal}
use Rattle.std.proofs.lemmas.Bool.Decides.{nat_tests}
use Rattle.std.proofs.lemmas.Fmt.{decimal_injective}
use Rattle.std.proofs.lemmas.List.Sums.{sum_by-append, sum_by-cons}
use Rattle.mc_model.specs.synod.Lists.{In}
use Rattle.mc_parts.proofs.Membership.{in_right}
use Rattle.script_lines.specs.Lines.{lines_of}
use Rattle.script_text.specs.Prints.{WorldPrint, world_line}
use Rattle.script_text.specs.Script.{prints_of, text_of}
use Rattle.script_text.specs.Settings.{script_settings}
use Rattle.world_fates.specs.Receipts.{is_receipt_at, is_receipt_of}
use Rattle.world_fates.proofs.Printing.{good_lines}
use Rattle.world_fates.proofs.Standing.{one_receipt}
use Rattle.octet_laws.specs.Tellings.{HaveOneReceipt, IsReceiptLine}
use Rattle.octet_laws.proofs.Fates.{lines_report}
use Rattle.octet_laws.proofs.Lines.{both_printed, feed, pdu_printed}

-- ---- prints that are receipts of one message

module _ (id : ℕ) where
  abbrev one_at : WorldPrint → ℕ
  one_at print = cond (is_receipt_at id print) 1 0

  abbrev receipts_in : List WorldPrint → ℕ
  receipts_in prints = count_by (is_receipt_at id) prints

  is_one : (print : WorldPrint) → is_receipt_at id print ≡ true → one_at print ≡ 1
  is_one print is = ap (λ (test : Bool). cond {A = ℕ} test 1 0) is

  one_least : (prints : List WorldPrint) (print : WorldPrint) → In print prints → is_receipt_at id print ≡ true → 1 ≤ receipts_in prints
  one_least [] print among is = absurd among
  one_least (first ∷ prints) print (inl same) is =
      let whole = sum_by-cons one_at first prints in
      let here = ap one_at (sym same) ∙ is_one print is in
      omega (arith, whole, here)
  one_least (first ∷ prints) print (inr later) is =
      let whole = sum_by-cons one_at first prints in
      let least = one_least prints print later is in
      omega (arith, whole, least)

  two_least : (prints before : List WorldPrint) (first : WorldPrint) (rest : List WorldPrint) (second : WorldPrint) → prints ≡ before ++ first ∷ rest →
      In second rest → is_receipt_at id first ≡ true → is_receipt_at id second ≡ true → 2 ≤ receipts_in prints
  two_least prints before first rest second split among is also =
      let both = ap receipts_in split ∙ sum_by-append one_at before (first ∷ rest) in
      let whole = sum_by-cons one_at first rest in
      let here = is_one first is in
      let least = one_least rest second among also in
      omega (arith, both, whole, here, least)

-- ---- the print of a line

record IsReceiptPrint (print : WorldPrint) (message_id : List ℕ) : Type 0 where
  id : ℕ
  small : id < 2 ^ 64
  message : decimal id ≡ message_id
  is : is_receipt_at id print ≡ true

receipt_print : (script : List ℕ) (print : WorldPrint) (line more message_id : List ℕ) → In print (prints_of script) → world_line print ≡ line ++ more ++ feed →
    IsReceiptLine line message_id → IsReceiptPrint print message_id
receipt_print script print line more message_id among written receipt =
    let brings = pdu_printed print line more receipt.octets written receipt.line_is in
    let good = good_lines script_settings (lines_of script) None in
    let printed = lines_report good.lines good.inputs (prints_of script) good.last good.joins brings.node brings.printed brings.pdu receipt.octets message_id
    receipt.state (subst (λ (p : WorldPrint). In p (prints_of script)) brings.print_is among) brings.pdu_is brings.octets_are receipt.reports in
    let id = printed.tells.report.id in
    record {
      id = id;
      small = printed.small;
      message = printed.tells.message;
      is = ap (is_receipt_at id) brings.print_is ∙ ap (is_receipt_of id) printed.tells.printed ∙ same_number id;
    }
  where
    same_number : (number : ℕ) → (number == number) ≡ true
    same_number number = grind (arith, nat_tests)

pub written_once : (script written later : List ℕ) → written ++ later ≡ text_of script → HaveOneReceipt (lines_of written)
written_once script written later is before one rest other message_id lines among first second =
    let both = both_printed (prints_of script) written later is before one rest other lines among in
    let behind = λ (print : WorldPrint) (there : In print (both.first ∷ both.rest)).
    subst (In print) (sym both.prints_are) (in_right print both.before (both.first ∷ both.rest) there) in
    let here = receipt_print script both.first one both.more message_id (behind both.first (inl refl)) both.written first in
    let there = receipt_print script both.second.print other both.second.more message_id (behind both.second.print (inr both.second.among))
    both.second.written second in
    let same : there.id ≡ here.id = decimal_injective there.id here.id there.small here.small (there.message ∙ sym here.message) in
    let two = two_least here.id (prints_of script) both.before both.first both.rest both.second.print both.prints_are both.second.among here.is
    (subst (λ (id : ℕ). is_receipt_at id both.second.print ≡ true) same there.is) in
    let most = one_receipt script here.id in
    omega (arith, two, most)
