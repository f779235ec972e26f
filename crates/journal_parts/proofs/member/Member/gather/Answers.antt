use Rattle.std.proofs.Common.{ℕ, ap, subst, ◌∙◌}
use Rattle.std.specs.Prelude.{IfOk}
use Rattle.journal_parts.specs.Gathering.{AllDeliver, AreNumbered}
use Rattle.journal_parts.specs.Members.{Membered}
use Rattle.journal_parts.proofs.member.Member.gather.Goals as goal

pub returns-clause-steps : goal.returns-clause-steps
returns-clause-steps g c =
    subst (λ (n : ℕ). IfOk c.of.result (λ ready. AllDeliver n ready.dones))
    (c.node.ensures ∙ ap (λ (v : Membered _). v.post.node.kept.setup.node) c.self.view_is) c.of.ensures.steps

pub returns-clause-numbers : goal.returns-clause-numbers
returns-clause-numbers g c =
    subst (λ (n : ℕ). IfOk c.of.result (λ ready. AreNumbered n c.args.numbers.now ready.dones))
    (c.node.ensures ∙ ap (λ (v : Membered _). v.post.node.kept.setup.node) c.self.view_is) c.of.ensures.numbers
