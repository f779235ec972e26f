use Rattle.sql_records.proofs.VoterSets.{SetTo}
use Rattle.sql_records.proofs.voters.bits_of.Given as goal

abbrev pub invariant-loop-number : goal.invariant-loop-number
invariant-loop-number l = SetTo l.bits l.set l.number
