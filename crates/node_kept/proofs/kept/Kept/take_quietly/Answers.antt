use Rattle.node_kept.proofs.Quiet.{taken_quietly}
use Rattle.node_kept.proofs.kept.Kept.take_quietly.Goals as goal

pub returns-in-Some-clause-taken : goal.returns-in-Some-clause-taken
returns-in-Some-clause-taken c _ =
    taken_quietly c.args.self.now c.count_if.new.kept c.args.packet.now c.in-Some.quiet c.requires c.in-Some.ensures c.count_if.ensures.entries
