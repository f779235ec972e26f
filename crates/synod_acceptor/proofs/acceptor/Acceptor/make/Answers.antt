use Rattle.std.proofs.Common.{◌≡◌, ◌++◌, ◌∷◌, [], ◌∙◌, rules}
use Rattle.synod_acceptor.proofs.Slots.{applied}
use Rattle.synod_acceptor.proofs.acceptor.Acceptor.make.Goals as goal

pub loop-after-preserved : goal.loop-after-preserved
loop-after-preserved c =
    let split : c.loop-after.records.items ≡ c.pop.new.self.items ++ c.in-Some.after ∷ [] = search rules in
    λ slot. applied c.loop-after.records.items c.pop.new.self.items c.in-Some.after c.loop-after.acceptor c.apply.new.self slot split
    (c.in_ok-apply.ensures.ok slot) ∙ c.loop-after.invariant slot
