use Rattle.node_threads.proofs.CarriedSlips.{carries_front, come_together, sound_front}
use Rattle.node_threads.proofs.carrying.take_all.Goals as goal

pub enter_each-entered-requires-clause-sound : goal.enter_each-entered-requires-clause-sound
enter_each-entered-requires-clause-sound g c =
    let front = c.commit_all-copies.ensures.front in sound_front c.commit_all-copies.result.0.items front.0 c.args.ready.dones front.1

pub returns-in-Some-clause-carries : goal.returns-in-Some-clause-carries
returns-in-Some-clause-carries g c =
    let front = c.commit_all-copies.ensures.front in
    carries_front c.args.door.now.node c.args.seat.now.slips c.enter_each-entered.new.seat.slips c.commit_all-copies.result.0.items front.0
    c.args.ready.dones c.requires.steps front.1 c.enter_each-entered.ensures.slips

pub returns-in-None-clause-carries : goal.returns-in-None-clause-carries
returns-in-None-clause-carries g c =
    let front = c.commit_all-copies.ensures.front in
    carries_front c.args.door.now.node c.args.seat.now.slips c.enter_each-entered.new.seat.slips c.commit_all-copies.result.0.items front.0
    c.args.ready.dones c.requires.steps front.1 c.enter_each-entered.ensures.slips

pub returns-in-None-2-clause-carries : goal.returns-in-None-2-clause-carries
returns-in-None-2-clause-carries g c =
    let front = c.commit_all-copies.ensures.front in
    carries_front c.args.door.now.node c.args.seat.now.slips c.enter_each-entered.new.seat.slips c.commit_all-copies.result.0.items front.0
    c.args.ready.dones c.requires.steps front.1 c.enter_each-entered.ensures.slips

pub returns-in-None-clause-all : goal.returns-in-None-clause-all
returns-in-None-clause-all g c = λ numbers are.
    come_together c.args.door.now.node numbers c.args.seat.now.slips c.enter_each-entered.new.seat.slips c.commit_all-copies.result.0.items c.args.ready.dones are
    (c.commit_all-copies.ensures.all c.in-None.is) (c.enter_each-entered.ensures.each c.if-entered.true)
