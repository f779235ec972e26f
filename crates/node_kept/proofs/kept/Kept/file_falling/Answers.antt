use Rattle.std.proofs.Common.{◌≡◌, ◌++◌, ◌∷◌, [], refl, rules}
use Rattle.node_kept.proofs.Opening.{fills_all, fills_first, fills_on}
use Rattle.node_kept.proofs.kept.Kept.file_falling.Goals as goal

pub loop-stored-init : goal.loop-stored-init
loop-stored-init c = fills_first c.args.records.items c.args.records.items c.args.self.now refl

pub loop-stored-preserved : goal.loop-stored-preserved
loop-stored-preserved c =
    let split : c.loop-stored.records.items ≡ c.pop.new.self.items ++ c.in-Some.stored ∷ [] = search rules in
    fills_on c.loop-stored.records.items c.pop.new.self.items c.args.records.items c.in-Some.stored c.args.self.now c.loop-stored.self
    c.file.new.self split c.in_ok-file.ensures c.loop-stored.invariant

pub returns : goal.returns
returns c =
    let none : c.loop-stored.records.items ≡ [] = search rules in
    fills_all c.loop-stored.records.items c.args.records.items c.args.self.now c.loop-stored.self none c.loop-stored.invariant
