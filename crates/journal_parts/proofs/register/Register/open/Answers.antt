use Rattle.std.proofs.Common.{◌≡◌, List, IfOk, sym, subst, arith}
use Rattle.journal_parts.specs.declared.carried.Carried.{Carried}
use Rattle.journal_parts.specs.Numbers.{RiseWithin}
use Rattle.journal_parts.specs.Registers.{Registered}
use Rattle.journal_parts.proofs.register.Register.open.Goals as goal

pub begin-requires-clause-rise : goal.begin-requires-clause-rise
begin-requires-clause-rise g c = subst (λ (cs : List Carried). RiseWithin 0 g.L.Begins.numbers.count cs) (sym c.new.ensures.items) (omega arith)

pub returns-clause-carried : goal.returns-clause-carried
returns-clause-carried g c =
    subst (λ (cs : List Carried). IfOk c.begin.result (λ (register : Registered). register.carried ≡ cs)) c.new.ensures.items c.begin.ensures.carried
