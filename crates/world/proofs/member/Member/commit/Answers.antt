use Rattle.world.proofs.Committing.{sound_after}
use Rattle.world.proofs.member.Member.commit.Goals as goal

pub invariant_of-self : goal.invariant_of-self
invariant_of-self c =
    sound_after c.commit.result c.self.inside.node c.commit.new.self c.args.pending.input c.self.inside.life c.self.invariant c.commit.ensures.ok
    c.commit.ensures.started c.commit.ensures.faults c.commit.ensures.broken c.commit.ensures.rose c.commit.ensures.memory
