-- The text of a receipt tells the message_id and the final state of its report.
use Rattle.std.proofs.Common.{◌≡◌, ℕ, List, [], ◌∷◌, ◌++◌, length, drop, Option, Some, refl, sym, ap, subst, ◌∙◌, append_assoc, inl, inr, arith}
use Rattle.std.specs.Prelude.{codes, find, option_map}
use Rattle.std.specs.Fmt.{decimal}
use Rattle.std.specs.Str.{bytes_eq}
use Rattle.std.proofs.lemmas.List.Elements.{recursion_from_All}
use Rattle.mc_model.specs.message.Decree.{Deleted, Delivered, Expired, Final, Rejected, Undeliverable}
use Rattle.mc_model.specs.synod.Lists.{In}
use Rattle.fate_chain.specs.States.{final_code}
use Rattle.receipts.specs.Texts.{Report, date, dates_part, delivered_count, fate_part, message_part, receipt_text, stat, text_part, three_digits}
use Rattle.octet_laws.specs.Tellings.{IsReceiptText, final_states}
use Rattle.octet_laws.proofs.Words.{cons_rest, decimal_lacks, split}
use Rattle.octet_laws.proofs.Reading.{same_front}

-- ---- the name of a final state

abbrev state_named : List ℕ → Option ℕ
state_named name = option_map (λ (entry : ℕ × List ℕ). entry.0) (find (λ (entry : ℕ × List ℕ). bytes_eq entry.1 name) final_states)

stat_named : (final : Final) → state_named (stat final) ≡ Some (final_code final)
stat_named Delivered = refl
stat_named Expired = refl
stat_named Deleted = refl
stat_named Undeliverable = refl
stat_named Rejected = refl

entry_named : (entry : ℕ × List ℕ) → In entry final_states → (state_named entry.1 ≡ Some entry.0) × (length entry.1 ≡ 7)
entry_named entry (inl same) = subst (λ (e : ℕ × List ℕ). (state_named e.1 ≡ Some e.0) × (length e.1 ≡ 7)) (sym same) (refl, refl)
entry_named entry (inr (inl same)) = subst (λ (e : ℕ × List ℕ). (state_named e.1 ≡ Some e.0) × (length e.1 ≡ 7)) (sym same) (refl, refl)
entry_named entry (inr (inr (inl same))) = subst (λ (e : ℕ × List ℕ). (state_named e.1 ≡ Some e.0) × (length e.1 ≡ 7)) (sym same) (refl, refl)
entry_named entry (inr (inr (inr (inl same)))) = subst (λ (e : ℕ × List ℕ). (state_named e.1 ≡ Some e.0) × (length e.1 ≡ 7)) (sym same) (refl, refl)
entry_named entry (inr (inr (inr (inr (inl same))))) = subst (λ (e : ℕ × List ℕ). (state_named e.1 ≡ Some e.0) × (length e.1 ≡ 7)) (sym same) (refl, refl)
entry_named entry (inr (inr (inr (inr (inr none))))) = absurd none

stat_length : (final : Final) → length (stat final) ≡ 7
stat_length Delivered = refl
stat_length Expired = refl
stat_length Deleted = refl
stat_length Undeliverable = refl
stat_length Rejected = refl

count_length : (final : Final) → length (delivered_count final) ≡ 3
count_length Delivered = refl
count_length Expired = refl
count_length Deleted = refl
count_length Undeliverable = refl
count_length Rejected = refl

-- ---- one part behind the other

same_rest : (one other first second : List ℕ) → length one ≡ length other → one ++ first ≡ other ++ second → first ≡ second
same_rest [] [] first second same is = is
same_rest [] (octet ∷ other) first second same is = absurd (omega (arith, same))
same_rest (octet ∷ one) [] first second same is = absurd (omega (arith, same))
same_rest (octet ∷ one) (digit ∷ other) first second same is =
    same_rest one other first second (omega (arith, same)) (cons_rest octet digit (one ++ first) (other ++ second) is)

-- four parts, and what stands behind them
four_parts : (a b c d rest : List ℕ) → a ++ b ++ c ++ d ++ rest ≡ a ++ (b ++ (c ++ (d ++ rest)))
four_parts a b c d rest =
    append_assoc (a ++ b ++ c) d rest ∙ append_assoc (a ++ b) c (d ++ rest) ∙ append_assoc a b (c ++ (d ++ rest))

-- what stands behind the message_id
abbrev behind_id : Report → List ℕ
behind_id report = codes " sub:001 dlvrd:" ++ (delivered_count report.final ++ (dates_part report ++ (fate_part report ++ text_part report)))

text_is : (report : Report) → receipt_text report ≡ codes "id:" ++ (decimal report.id ++ behind_id report)
unfolding receipt_text
text_is report =
    append_assoc (message_part report ++ dates_part report) (fate_part report) (text_part report)
    ∙ append_assoc (message_part report) (dates_part report) (fate_part report ++ text_part report)
    ∙ four_parts (codes "id:") (decimal report.id) (codes " sub:001 dlvrd:") (delivered_count report.final)
    (dates_part report ++ (fate_part report ++ text_part report))

module _ (text message_id : List ℕ) (state : ℕ) (is : IsReceiptText text message_id state) where
  abbrev from_stat : List ℕ
  from_stat = codes " stat:" ++ (is.name ++ is.rest)

  abbrev from_done : List ℕ
  from_done = codes " done date:" ++ (is.done_date ++ from_stat)

  abbrev from_submit : List ℕ
  from_submit = codes " submit date:" ++ (is.submit_date ++ from_done)

  abbrev from_delivered : List ℕ
  from_delivered = codes " dlvrd:" ++ (is.delivered ++ from_submit)

  abbrev to_delivered : List ℕ
  to_delivered = codes "id:" ++ message_id ++ codes " sub:" ++ is.submitted

  abbrev to_done : List ℕ
  to_done = to_delivered ++ codes " dlvrd:" ++ is.delivered ++ codes " submit date:" ++ is.submit_date

  said_is : text ≡ codes "id:" ++ (message_id ++ (codes " sub:" ++ (is.submitted ++ from_delivered)))
  said_is =
      is.text_is
      ∙ append_assoc (to_done ++ codes " done date:" ++ is.done_date ++ codes " stat:") is.name is.rest
      ∙ append_assoc (to_done ++ codes " done date:" ++ is.done_date) (codes " stat:") (is.name ++ is.rest)
      ∙ append_assoc (to_done ++ codes " done date:") is.done_date from_stat
      ∙ append_assoc to_done (codes " done date:") (is.done_date ++ from_stat)
      ∙ append_assoc (to_delivered ++ codes " dlvrd:" ++ is.delivered ++ codes " submit date:") is.submit_date from_done
      ∙ append_assoc (to_delivered ++ codes " dlvrd:" ++ is.delivered) (codes " submit date:") (is.submit_date ++ from_done)
      ∙ append_assoc (to_delivered ++ codes " dlvrd:") is.delivered from_submit
      ∙ append_assoc to_delivered (codes " dlvrd:") (is.delivered ++ from_submit)
      ∙ four_parts (codes "id:") message_id (codes " sub:") is.submitted from_delivered

pub receipt_told : (report : Report) (message_id : List ℕ) (state : ℕ) → IsReceiptText (receipt_text report) message_id state →
    (decimal report.id ≡ message_id) × (final_code report.final ≡ state)
receipt_told report message_id state is =
    let whole = sym (text_is report) ∙ said_is (receipt_text report) message_id state is in
    let ids = split 32 (decimal report.id) message_id _ _ (decimal_lacks 32 (omega arith) report.id)
    (recursion_from_All (λ (octet : ℕ). octet ≡ 32 → ⊥) message_id is.one_word) (ap (drop 3) whole) in
    let counts = same_rest (codes "001") is.submitted _ _ (sym is.submitted_digits) (ap (drop 4) ids.rests) in
    let dates = same_rest (delivered_count report.final) is.delivered _ _ (count_length report.final ∙ sym is.delivered_digits) (ap (drop 7) counts) in
    let in_parts = sym (four_parts (codes " submit date:") (date report.began) (codes " done date:") (date report.ended)
    (fate_part report ++ text_part report)) ∙ dates in
    let done = same_rest (date report.began) is.submit_date _ _ (sym is.submit_digits) (ap (drop 13) in_parts) in
    let fate = same_rest (date report.ended) is.done_date _ _ (sym is.done_digits) (ap (drop 11) done) in
    let fate_parts = sym (four_parts (codes " stat:") (stat report.final) (codes " err:") (three_digits report.error) (text_part report)) ∙ fate in
    let entry = entry_named (state, is.name) is.named in
    let name = same_front (stat report.final) is.name _ _ (stat_length report.final ∙ sym entry.1) (ap (drop 6) fate_parts) in (
      ids.words,
      one_state _ _ (sym (stat_named report.final) ∙ ap state_named name ∙ entry.0),
    )
  where
    one_state : (one other : ℕ) → Some one ≡ Some other → one ≡ other
    one_state one other is = cc
