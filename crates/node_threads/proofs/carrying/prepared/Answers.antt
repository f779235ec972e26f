use Rattle.std.proofs.Common.{rules, ◌≡◌, ℕ, List, sym, subst}
use Rattle.journal_parts.specs.Gathering.{AllDeliver, AreNumbered}
use Rattle.node_threads.specs.Carrying.{AreSplit}
use Rattle.node_threads.proofs.carrying.prepared.Goals as goal

pub returns-clause-steps : goal.returns-clause-steps
returns-clause-steps g c = subst (λ (n : ℕ). AllDeliver n c.in_ok-ready.ready.dones) (sym c.requires.node) c.in_ok-ready.ensures.steps

pub returns-clause-all : goal.returns-clause-all
returns-clause-all g c =
    let same : c.as_slice.result.now ≡ c.in_ok-group.field-0.numbers.items = search rules in (
      c.as_slice.result.now,
      subst (λ (n : ℕ). AreNumbered n c.as_slice.result.now c.in_ok-ready.ready.dones) (sym c.requires.node) c.in_ok-ready.ensures.numbers,
      subst (λ (ns : List ℕ). AreSplit c.args.numbers.now ns c.in_ok-group.field-0.apart.items) (sym same) c.in_ok-group.ensures.all,
    )
