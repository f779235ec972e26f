use Rattle.std.proofs.Common.{refl}
use Rattle.script_runner.proofs.Leaving.{restarted_does_if, unbegun_does_if}
use Rattle.script_runner.proofs.centre.Centre.restart.Goals as goal

pub returns-in-Ok : goal.returns-in-Ok
returns-in-Ok c =
    restarted_does_if c.args.self.now (record c.args.self.now { world = c.restart.new.self }) c.args.node c.place_of-at.result c.place_of-at.ensures
    c.leave.result c.leave.new.self c.in-Ok.given c.args.text.now.items c.leave.new.text.items c.in-Ok.ensures.leads refl refl c.leave.ensures

pub returns-in-Err : goal.returns-in-Err
returns-in-Err c =
    unbegun_does_if c.args.self.now (record c.args.self.now { world = c.restart.new.self }) c.args.node c.place_of-at.result c.place_of-at.ensures
    c.refuse.result c.in-Err.fault c.args.text.now.items c.refuse.new.text.items c.in-Err.ensures.leads refl refl c.refuse.ensures
