use Rattle.octet_fields.proofs.Records.{front_takes}
use Rattle.octet_fields.proofs.laws.read_is_spelled.Goals as goal

pub returns : goal.returns
returns g c = λ parts octets rest contents are read.
    let taken = front_takes parts octets (contents, rest) are read in
    (taken.parts, taken.within)
