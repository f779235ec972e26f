use Rattle.std.proofs.Common.{refl}
use Rattle.journal_parts.specs.Members.{posted}
use Rattle.journal_parts.proofs.Readies.{taken_quietly}
use Rattle.journal_parts.proofs.post.Post.take_quietly.Goals as goal

pub returns-clause-taken : goal.returns-clause-taken
returns-clause-taken g c = λ took.
    taken_quietly g.S.StableStore.stored (posted c.args.self.now) (record {
      node = c.take_quietly.new.self;
      halted = (posted c.args.self.now).halted;
      astray = c.args.self.now.astray;
    }) c.args.done.now c.in-Some.packet c.requires c.in-Some.is c.is_well_made.ensures (c.take_quietly.ensures.taken took)
    c.take_quietly.ensures.store refl refl
