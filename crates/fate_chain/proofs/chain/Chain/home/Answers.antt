use Rattle.std.proofs.Common.{◌∙◌, sym, ap}
use Rattle.mc_model.specs.message.Chain.{Chain}
use Rattle.mc_model.specs.message.Ids.{node_of}
use Rattle.mc_parts.proofs.Tellings.{home_is_named}
use Rattle.fate_chain.proofs.chain.Chain.home.Goals as goal

pub returns : goal.returns
returns c =
    c.node.ensures ∙ ap (λ (chain : Chain). node_of chain.id) c.self.view_is
    ∙ sym (home_is_named c.args.self.now.id c.args.self.now.decrees c.bounds.ensures.permitted)
