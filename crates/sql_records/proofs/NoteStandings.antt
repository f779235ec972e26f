-- A row stands for one note.
use Rattle.std.proofs.Common.{◌≡◌, Some, sym, ap, subst, ◌∙◌}
use Rattle.mc_model.specs.synod.Acceptor.{SlotRecord, after_vote}
use Rattle.mc_model.specs.synod.Packet.{Slot}
use Rattle.noting_store.specs.Noted.{Noted, nodes_in}
use Rattle.record_rows.specs.Known.{Known}
use Rattle.sql_records.specs.Standing.{IsRowOf}
use Rattle.sql_records.proofs.Keys.{key_of_one, same_number}
use Rattle.sql_records.proofs.Standings.{row_of_one}
use Rattle.sql_records.specs.Noting.{IsNoteRow, entry_in}

note_by : (one other : Noted) → one.slot ≡ other.slot → one.vote ≡ other.vote → one.voters ≡ other.voters → one ≡ other
note_by one other slot vote voters = λ i. record { slot = slot i; vote = vote i; voters = voters i }

pub note_of_one : (k : Known) (one other : Noted) → IsNoteRow k one → IsNoteRow k other → one ≡ other
note_of_one k one other is also =
    let slot : one.slot ≡ other.slot = key_of_one one.slot other.slot (entry_in k).0 is.vote.key also.vote.key in
    let here = subst (λ (s : Slot). IsRowOf s (after_vote one.vote) (entry_in k)) slot is.vote in
    let same : Some one.vote ≡ Some other.vote =
    ap (λ (r : SlotRecord). r.vote) (row_of_one other.slot (after_vote one.vote) (after_vote other.vote) (entry_in k) here also.vote) in
    let vote : one.vote ≡ other.vote = cc in
    let set : is.set ≡ also.set = same_number is.set also.set (sym is.voters ∙ also.voters) in
    note_by one other slot vote (is.told ∙ ap nodes_in set ∙ sym also.told)
