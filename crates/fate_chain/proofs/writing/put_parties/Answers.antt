use Rattle.std.proofs.Common.{arith}
use Rattle.fate_chain.proofs.Written.{octet_within, text_within}
use Rattle.fate_chain.proofs.writing.put_parties.Goals as goal

pub returns-clause-limits : goal.returns-clause-limits
returns-clause-limits c =
    let source = c.in_ok-put_address.ensures in
    let destination = c.in_ok-put_address-2.ensures in
    rw (← c.message.view_is) (text_within 16 _ (omega arith) c.put_text.ensures.text, (text_within 16 _ (omega arith) c.put_text-2.ensures.text, (text_within 6 _ (omega arith) c.put_text-3.ensures.text, (octet_within _ source.ton, (octet_within _ source.npi, (text_within 21 _ (omega arith) source.digits, (octet_within _ destination.ton, (octet_within _ destination.npi, (text_within 21 _ (omega arith) destination.digits, tt)))))))))
