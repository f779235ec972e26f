use Rattle.std.proofs.Common.{rules, Some, sym, ap, ◌∙◌}
use Rattle.fate_chain.proofs.Permitted.{submission_of, first_taken}
use Rattle.fate_chain.specs.Kinds.{kind_of}
use Rattle.fate_chain.proofs.chain.Chain.submission.Goals as goal

pub unreachable-requires : goal.unreachable-requires
unreachable-requires c =
    first_taken c.self.inside.id c.self.inside.decrees c.unwrap-first.result.now c.first-2.inside.kind c.self.invariant (search rules)
    (ap (λ d. d.kind) c.first-2.view_is) c.in_default.not-Taken

pub returns : goal.returns
returns c =
    rw (← c.self.view_is) (submission_of c.self.inside.id c.self.inside.decrees c.unwrap-first.result.now c.in-Taken.message
    c.self.invariant (search rules) (sym (ap (λ d. d.kind) c.first-2.view_is) ∙ ap kind_of c.in-Taken.is) ∙ ap Some (sym c.submission.ensures))
