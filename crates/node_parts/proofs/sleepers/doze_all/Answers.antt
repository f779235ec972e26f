use Rattle.std.proofs.Common.{◌≡◌, ◌∙◌, ℕ, suc, ◌+◌, ◌∷◌, List, Some, drop, refl, sym, ap, arith}
use Rattle.std.proofs.Math.Seq.{drop-cons}
use Rattle.node_parts.specs.Sleeping.{dozed, ids_of, reach_noted}
use Rattle.node_parts.specs.Waking.{all_looked_at}
use Rattle.node_parts.proofs.Waking.{ids_looked_at}
use Rattle.node_parts.proofs.sleepers.doze_all.Goals as goal

pub loop-id-preserved : goal.loop-id-preserved
loop-id-preserved c =
    let look = dozed c.args.shelf.now.entries c.args.noted.now.me (reach_noted c.args.noted.now) (Some c.args.clock) in
    let before = c.loop-id.live.items in
    let ids = c.args.ids.now in
    let place = c.loop-id.id-index in
    let more : suc place ≡ place + 1 = omega arith in
    let next : drop place ids ≡ c.id-item.result ∷ drop (place + 1) ids =
    drop-cons ids place c.id-item.result c.loop-id-test.true ∙ (λ i. sym c.id-item.is i ∷ drop (more i) ids) in
    let old = c.loop-id.invariant in (
      rw (c.doze_one.ensures.items) (sym (ap (λ (ns : List ℕ). all_looked_at look ns before) next) ∙ old.0),
      (
        ap ids_of c.doze_one.ensures.items ∙ ids_looked_at look (λ l. refl) c.id-item.result before ∙ old.1.0,
        c.doze_one.ensures.width ∙ old.1.1,
      ),
    )
