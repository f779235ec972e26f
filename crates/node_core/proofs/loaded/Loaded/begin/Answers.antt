use Rattle.std.proofs.Common.{◌∙◌, ap, subst, refl, sym}
use Rattle.mc_model.specs.node.Setup.{Setup}
use Rattle.node_core.specs.Loadings.{IsLoaded, Loading}
use Rattle.node_core.proofs.Loading.{fails_behind, holds_after, opens_over, own_after}
use Rattle.node_core.proofs.loaded.Loaded.begin.Goals as goal

pub make-requires : goal.make-requires
make-requires g c =
    let stored = g.S.StableStore.stored in
    let holds = holds_after (stored c.self.inside.store) (stored c.raise.new.store) c.self.inside.kept c.raise.new.kept c.self.invariant c.in-Ok.ensures.ok in
    record {
      saved = λ works. holds;
      own = (own_after (stored c.self.inside.store) (stored c.raise.new.store) c.self.inside.kept c.raise.new.kept c.self.invariant c.in-Ok.ensures.ok).own;
      finished = λ works. refl;
      settled = λ works. refl;
      pending = tt;
      halted = λ left may. g.met.S.StableStore.settled c.raise.new.store _ left holds may;
    }

pub returns-in-Ok-clause-ok : goal.returns-in-Ok-clause-ok
returns-in-Ok-clause-ok g c with store loaded =
    opens_over g.S.StableStore.stored with store c.self.inside.store c.raise.new.store c.self.inside.kept c.raise.new.kept c.make.result c.of-life.result
    (subst (λ (l : Loading g.row.S.Denot). IsLoaded g.S.StableStore.stored with store l) (sym c.self.view_is) loaded)
    c.in-Ok.ensures.ok c.make.ensures.kept c.make.ensures.broken c.make.ensures.store
    (c.of-life.ensures.node ∙ c.node.ensures ∙ ap (λ (s : Setup). s.node) c.setup.ensures)
    (c.of-life.ensures.incarnation ∙ c.incarnation.ensures)

pub returns-in-Err-clause-err : goal.returns-in-Err-clause-err
returns-in-Err-clause-err g c with store loaded =
    let stored = g.S.StableStore.stored in
    let is = subst (λ (l : Loading g.row.S.Denot). IsLoaded stored with store l) (sym c.self.view_is) loaded in
    fails_behind c.in-Err.fault (stored store) (stored c.self.inside.store) (stored c.raise.new.store) is.stays is.left is.goes_on c.in-Err.ensures.err
