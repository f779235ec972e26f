use Rattle.std.proofs.Common.{◌≡◌, rules, sym, ◌∙◌}
use Rattle.fate_chain.proofs.Sameness.{chains_same, decrees_same}
use Rattle.fate_chain.proofs.chain.Chain.is.Goals as goal

pub returns-then-eq : goal.returns-then-eq
returns-then-eq c =
    let one = c.list.ensures in
    let two = c.list-then-eq.ensures in
    let ids : c.self.inside.id ≡ c.other.inside.id = search rules in
    rw (← c.self.view_is, ← c.other.view_is) (
      λ is. chains_same c.self.inside.id c.other.inside.id c.self.inside.decrees c.other.inside.decrees ids
          (sym one ∙ (c.are_same.ensures.0 is ∙ two)),
      λ same. c.are_same.ensures.1 (one ∙ (decrees_same c.self.inside.id c.other.inside.id c.self.inside.decrees
          c.other.inside.decrees same ∙ sym two)),
    )
