use Rattle.std.proofs.Common.{refl}
use Rattle.std.proofs.lemmas.Bool.{lt-ltb}
use Rattle.octet_fields.specs.Reading.{taken_at}
use Rattle.octet_fields.proofs.reading.taken_at.Goals as goal

pub returns-then-count-most-clause-read : goal.returns-then-count-most-clause-read
unfolding taken_at
returns-then-count-most-clause-read c = rw (lt-ltb c.args.most c.args.count c.if-count-most.true) refl
