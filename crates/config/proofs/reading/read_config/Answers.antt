use Rattle.config.proofs.Blank.{blank_lacks_a_key}
use Rattle.config.proofs.reading.read_config.Goals as goal

pub returns-in_err-build-clause-memory : goal.returns-in_err-build-clause-memory
returns-in_err-build-clause-memory c = λ _ blank. blank_lacks_a_key _ _ c.in_ok-document.ensures.table c.in_ok-check.ensures blank
