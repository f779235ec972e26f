use Rattle.std.proofs.Common.{◌≡◌, ◌∙◌, refl, sym, ap, subst}
use Rattle.node_parts.specs.Rising.{AreRising}
use Rattle.node_parts.specs.Sleeping.{dozed, ids_of, reach_noted}
use Rattle.node_parts.proofs.Listings.{mapped_ids}
use Rattle.node_parts.proofs.Waking.{awake_gathered}
use Rattle.node_parts.proofs.sleepers.doze_live.Goals as goal

pub returns-clause-awake : goal.returns-clause-awake
returns-clause-awake c =
    let live = c.doze_each.new.self.items in
    let look = dozed c.args.shelf.now.entries c.args.noted.now.me (reach_noted c.args.noted.now) c.args.clock.now in
    let ids : ids_of live ≡ ids_of c.args.live.now.items =
    ap ids_of c.doze_each.ensures.items ∙ mapped_ids look (λ l. refl) c.args.live.now.items in
    let rise = subst AreRising (sym ids) c.requires.rising in
    rw (c.soonest-awake.ensures, c.gather.ensures.ids) (awake_gathered live 4102444799 rise)
