use Rattle.std.proofs.Common.{List, ℕ, sym, subst}
use Rattle.std.specs.Net.Grammar.{IsSocketV4Text}
use Rattle.config.proofs.listen.read_listen.Goals as goal

pub returns-in-Err : goal.returns-in-Err
returns-in-Err c = λ address is. c.in-Err.ensures address (subst (λ (text : List ℕ). IsSocketV4Text text address) (sym c.as_bytes-2.ensures.value) is.written)
