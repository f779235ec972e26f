use Rattle.fate_chain.proofs.Written.{octet_within, moment_within}
use Rattle.fate_chain.proofs.writing.put_handling.Goals as goal

pub returns-clause-limits : goal.returns-clause-limits
returns-clause-limits c =
    let octets = c.put_octets.ensures.octets in
    rw (← c.message.view_is) (octet_within _ (octets 0), (octet_within _ (octets 1), (octet_within _ (octets 2), (octet_within _ (octets 3), (octet_within _ (octets 4), (moment_within _ c.put_moment.ensures.range, (moment_within _ c.put_moment-2.ensures.range, tt)))))))
