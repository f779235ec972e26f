use Rattle.std.proofs.Common.{◌≡◌, ◌∷◌, [], rules}
use Rattle.node_kept.proofs.Opening.{rises_all, rises_first, rises_on}
use Rattle.node_kept.proofs.kept.Kept.file_rising.Goals as goal

pub loop-stored-init : goal.loop-stored-init
loop-stored-init c = rises_first c.args.records.items c.from_vec-left.result.items c.args.self.now c.from_vec-left.ensures.items

pub loop-stored-preserved : goal.loop-stored-preserved
loop-stored-preserved c =
    let split : c.loop-stored.left.items ≡ c.in-Some.stored ∷ c.pop_front.new.self.items = search rules in
    rises_on c.loop-stored.left.items c.pop_front.new.self.items c.args.records.items c.in-Some.stored c.args.self.now c.loop-stored.self
    c.file_first.new.self split c.in_ok-file_first.ensures c.loop-stored.invariant

pub returns : goal.returns
returns c =
    let none : c.loop-stored.left.items ≡ [] = search rules in
    rises_all c.loop-stored.left.items c.args.records.items c.args.self.now c.loop-stored.self none c.loop-stored.invariant
