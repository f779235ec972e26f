use Rattle.std.proofs.Common.{refl}
use Rattle.script_runner.proofs.Coming.{delivered_does_if, delivered_ups_if, undelivered_does_if, undelivered_ups_if}
use Rattle.script_runner.proofs.centre.Centre.deliver.Goals as goal

pub returns-in_ok-tell-in-Ok-clause-comes : goal.returns-in_ok-tell-in-Ok-clause-comes
returns-in_ok-tell-in-Ok-clause-comes c =
    delivered_does_if c.args.self.now (record c.args.self.now { world = c.deliver.new.self }) c.tell.new.self c.args.node c.place_of-at.result c.args.number
    c.in-Ok.given c.args.text.now.items c.tell.new.text.items c.place_of-at.ensures c.in-Ok.ensures.leads c.in-Ok.ensures.up refl
    c.in_ok-tell-in-Ok.ensures c.add.result (record c.tell.new.self { arrivals = c.add.new.self }) refl refl refl c.add.ensures.came

pub returns-in_ok-tell-in-Ok-clause-up : goal.returns-in_ok-tell-in-Ok-clause-up
returns-in_ok-tell-in-Ok-clause-up c =
    delivered_ups_if c.add.result c.args.self.now (record c.args.self.now { world = c.deliver.new.self }) c.tell.new.self c.args.node c.place_of-at.result
    c.args.number c.in-Ok.given c.args.text.now.items c.tell.new.text.items c.place_of-at.ensures c.in-Ok.ensures.leads c.in-Ok.ensures.up refl
    c.in_ok-tell-in-Ok.ensures

pub returns-in-Err-clause-comes : goal.returns-in-Err-clause-comes
returns-in-Err-clause-comes c =
    undelivered_does_if c.refuse.result c.args.self.now (record c.args.self.now { world = c.deliver.new.self }) c.args.node c.place_of-at.result c.args.number
    c.in-Err.fault c.args.text.now.items c.refuse.new.text.items c.place_of-at.ensures c.in-Err.ensures.leads refl refl c.refuse.ensures

pub returns-in-Err-clause-up : goal.returns-in-Err-clause-up
returns-in-Err-clause-up c =
    undelivered_ups_if c.refuse.result c.args.self.now c.deliver.new.self c.args.node c.place_of-at.result c.args.number c.in-Err.fault
    c.args.text.now.items c.refuse.new.text.items c.place_of-at.ensures c.in-Err.ensures.leads c.refuse.ensures
