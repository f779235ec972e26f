use Rattle.sql_records.proofs.VoterSets.{SetTo}
use Rattle.sql_records.proofs.voters.set_in.Given as goal

abbrev pub invariant-loop-number : goal.invariant-loop-number
invariant-loop-number l = SetTo l.set l.bits l.number
