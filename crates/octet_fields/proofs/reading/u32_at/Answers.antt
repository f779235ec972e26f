use Rattle.std.proofs.Common.{refl}
use Rattle.std.proofs.lemmas.List.{take_rest}
use Rattle.octet_fields.specs.Reading.{content_at}
use Rattle.octet_fields.proofs.Octets.{four_at}
use Rattle.octet_fields.proofs.reading.u32_at.Goals as goal

pub returns-clause-read : goal.returns-clause-read
returns-clause-read c =
    rw (four_at c.args.octets.now c.from_be_bytes.result c.in-len4-up.len_at_least c.from_be_bytes.ensures, take_rest) refl

pub returns-clause-any : goal.returns-clause-any
unfolding content_at
returns-clause-any c =
    rw (four_at c.args.octets.now c.from_be_bytes.result c.in-len4-up.len_at_least c.from_be_bytes.ensures, take_rest) refl
