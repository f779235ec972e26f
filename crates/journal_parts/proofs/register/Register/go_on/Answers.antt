use Rattle.std.proofs.Common.{◌≡◌, ℕ, List, IfOk, sym, subst, ◌∙◌}
use Rattle.mc_model.specs.synod.Lists.{In}
use Rattle.journal_parts.specs.declared.carried.Carried.{Carried}
use Rattle.journal_parts.specs.Numbers.{RiseWithin}
use Rattle.journal_parts.specs.Registers.{Registered}
use Rattle.journal_parts.proofs.register.Register.go_on.Goals as goal

pub begin-requires-clause-sent : goal.begin-requires-clause-sent
begin-requires-clause-sent g c = c.requires.sent ∙ sym c.packets.ensures

pub begin-requires-clause-carried : goal.begin-requires-clause-carried
begin-requires-clause-carried g c = λ one among.
    c.requires.carried one (subst (λ (cs : List Carried). In one cs) c.in_ok-carried.ensures.items among)

pub begin-requires-clause-rise : goal.begin-requires-clause-rise
begin-requires-clause-rise g c =
    subst (λ (n : ℕ). RiseWithin 0 n c.in_ok-carried.carried.items) (sym c.requires.sent) c.in_ok-carried.ensures.rise

pub returns-clause-carried : goal.returns-clause-carried
returns-clause-carried g c =
    subst (λ (cs : List Carried). IfOk c.begin.result (λ (register : Registered). register.carried ≡ cs)) c.in_ok-carried.ensures.items
    c.begin.ensures.carried
