use Rattle.std.proofs.Common.{rules, subst}
use Rattle.record_rows.specs.Content.{slot_of, body_of}
use Rattle.sql_records.specs.Standing.{IsVoteIn}
use Rattle.sql_records.proofs.Keys.{key_of_one}
use Rattle.sql_records.proofs.row.record_of.Goals as goal

pub returns-in_err-report-clause-damaged : goal.returns-in_err-report-clause-damaged
returns-in_err-report-clause-damaged c is slot r row =
    let same = key_of_one slot c.in_ok-slot.slot (slot_of c.args.row.now) row.key c.in_ok-slot.ensures.ok in
    c.in_err-report.ensures.damaged (search rules) r.vote (subst (λ s. IsVoteIn s r.vote (body_of c.args.row.now)) same row.vote)
