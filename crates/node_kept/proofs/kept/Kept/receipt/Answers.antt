use Rattle.std.proofs.Common.{[], ◌∷◌, ◌∙◌, ap, sym}
use Rattle.mc_model.specs.message.Chain.{Chain}
use Rattle.node_model.specs.Reported.{receipt_of}
use Rattle.node_kept.proofs.Knowing.{told_here}
use Rattle.node_kept.proofs.kept.Kept.receipt.Goals as goal

pub returns : goal.returns
returns c =
    ap (λ (chain : Chain). receipt_of chain ∷ []) c.in_ok-copy.ensures
    ∙ sym (told_here c.args.self.now.setup.node c.args.self.now.incarnation c.args.chain.now.id c.args.chain.now.decrees c.newest.result.now
    c.bounds.ensures.permitted c.newest.ensures (sym c.is_told_here.ensures ∙ c.if-not-is_told_here.false))
