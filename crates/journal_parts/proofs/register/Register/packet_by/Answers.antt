use Rattle.std.proofs.Common.{Some, refl, ap}
use Rattle.journal_parts.specs.Entries.{number_by}
use Rattle.journal_parts.specs.Registers.{AsksInVain}
use Rattle.journal_parts.proofs.Faults.{absent_not_told}
use Rattle.journal_parts.proofs.Finding.{not_in_vain}
use Rattle.journal_parts.proofs.register.Register.packet_by.Goals as goal

pub returns-in_err-copy-in-Some-clause-absent : goal.returns-in_err-copy-in-Some-clause-absent
returns-in_err-copy-in-Some-clause-absent g c =
    absent_not_told c.from_residual.result (AsksInVain g.L.Begins.numbers c.args.self.now c.args.step.now) c.from_residual.ensures.1
    (not_in_vain g.L.Begins.numbers c.args.self.now c.args.step.now c.in-Deliver.number (Some c.in-Some.packet)
    (ap number_by c.in-Deliver.is) refl c.in-Some.ensures.none)

pub returns-in_ok-copy-in-Some-clause-absent : goal.returns-in_ok-copy-in-Some-clause-absent
returns-in_ok-copy-in-Some-clause-absent g c = (
  (λ is. absurd cc),
  (λ asks. absurd (not_in_vain g.L.Begins.numbers c.args.self.now c.args.step.now c.in-Deliver.number (Some c.in-Some.packet)
      (ap number_by c.in-Deliver.is) refl c.in-Some.ensures.none asks)),
)
