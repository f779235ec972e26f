use Rattle.std.proofs.Common.{refl}
use Rattle.script_runner.proofs.Coming.{uncrashed_does_if}
use Rattle.script_runner.proofs.Leaving.{crashed_does_if}
use Rattle.script_runner.proofs.centre.Centre.crash.Goals as goal

pub returns-in-Ok : goal.returns-in-Ok
returns-in-Ok c =
    crashed_does_if c.leave.result c.args.self.now (record c.args.self.now { world = c.crash.new.self }) c.leave.new.self c.args.node c.place_of-at.result
    c.args.number c.args.found c.in-Ok.given c.args.text.now.items c.leave.new.text.items c.place_of-at.ensures c.in-Ok.ensures.leads refl refl c.leave.ensures

pub returns-in-Err : goal.returns-in-Err
returns-in-Err c =
    uncrashed_does_if c.refuse.result c.args.self.now (record c.args.self.now { world = c.crash.new.self }) c.args.node c.place_of-at.result c.args.number
    c.args.found c.in-Err.fault c.args.text.now.items c.refuse.new.text.items c.place_of-at.ensures c.in-Err.ensures.leads refl refl c.refuse.ensures
