use Rattle.std.proofs.lemmas.Result.{on_ok_weaker}
use Rattle.pdu_codec.proofs.writing.encode.Goals as goal

pub returns-clause-fits : goal.returns-clause-fits
returns-clause-fits c =
    on_ok_weaker c.put_body.result (λ _. record {
      status = c.head_of-head.ensures.status;
      sequence = c.head_of-head.ensures.sequence;
      body =
          c.put_body.ensures.limits;
    }) c.put_body.ensures.ok
