use Rattle.std.proofs.Common.{sym, ap, ◌∙◌}
use Rattle.fate_chain.specs.Kinds.{kind_of}
use Rattle.fate_chain.proofs.Untold.{told_has_older, newest_is_below, newest_is_open}
use Rattle.fate_chain.proofs.chain.Chain.newest_untold.Goals as goal

pub below_newest-requires : goal.below_newest-requires
below_newest-requires c =
    told_has_older c.args.self.now.id c.args.self.now.decrees c.newest-newest.result.now c.bounds.ensures.permitted c.newest-newest.ensures
    (sym (ap (λ d. d.kind) c.newest.view_is) ∙ ap kind_of c.in-Told.is)

pub returns-in-Told : goal.returns-in-Told
returns-in-Told c =
    let below = newest_is_below c.args.self.now.id c.args.self.now.decrees c.newest-newest.result.now c.below_newest.result.now
    c.bounds.ensures.permitted c.newest-newest.ensures (sym (ap (λ d. d.kind) c.newest.view_is) ∙ ap kind_of c.in-Told.is) c.below_newest.ensures in
    record { newest = below.first; state = below.state }

pub returns-in_default : goal.returns-in_default
returns-in_default c =
    let newest = newest_is_open c.args.self.now.decrees c.newest-newest.result.now c.newest.inside.kind c.newest-newest.ensures
    (ap (λ d. d.kind) c.newest.view_is) c.in_default.not-Told in
    record { newest = newest.first; state = newest.state }
