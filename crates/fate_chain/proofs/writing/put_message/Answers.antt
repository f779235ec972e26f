use Rattle.std.proofs.Common.{is_ok, refl, ap, arith}
use Rattle.pdu_fields.proofs.Optional.{optional-again}
use Rattle.fate_chain.proofs.writing.put_message.Goals as goal

pub returns-clause-fits : goal.returns-clause-fits
returns-clause-fits c =
    let texts = c.in_ok-put_texts.ensures in
    let passed = texts.passed in
    record {
      parties = c.in_ok-put_parties.ensures.limits;
      handling = c.in_ok-put_handling.ensures.limits;
      texts = ((texts.content.most, refl), ((omega (arith, passed.most), ap is_ok (optional-again _ passed)), tt));
      beside = texts.content.beside;
      passed = passed;
    }
