use Rattle.std.proofs.Common.{◌≡◌, Some, None, sym}
use Rattle.node_parts.specs.Reaching.{reach_of}
use Rattle.shelf.specs.Shelved.{value_at}
use Rattle.node_model.specs.Ticks.{ticked}
use Rattle.node_kept.specs.Keeping.{kept_of}
use Rattle.node_kept.proofs.Answering.{taken_fresh, taken_there}
use Rattle.node_kept.proofs.TickTurns.{asked_timely, rests_first, turn_found}
use Rattle.node_kept.proofs.kept.Kept.turn_of.Goals as goal

pub returns-in-Some-clause-turned : goal.returns-in-Some-clause-turned
returns-in-Some-clause-turned c =
    let k = c.args.self.now in
    let m = c.in-Some.message.now in
    let found : Some m ≡ value_at k.messages.entries c.args.id = rw c.in-Some.is at c.find.ensures.value in
    turn_found k c.args.id c.args.at.now (reach_of c.args.reach.now) m c.turn.result (taken_there k c.args.id m (sym found)) c.turn.ensures.same c.turn.ensures.turned

pub returns-in-Some-clause-idle : goal.returns-in-Some-clause-idle
returns-in-Some-clause-idle c none =
    let k = c.args.self.now in
    let m = c.in-Some.message.now in
    let found : Some m ≡ value_at k.messages.entries c.args.id = rw c.in-Some.is at c.find.ensures.value in
    let taken = taken_there k c.args.id m (sym found) in
    c.turn.ensures.idle k.setup (ticked (kept_of k) c.args.at.now.clock)
    (rests_first k c.args.id m c.args.at.now c.requires.own c.requires.node c.requires.incarnation taken) none

pub returns-in-None-clause-turned : goal.returns-in-None-clause-turned
returns-in-None-clause-turned c =
    let k = c.args.self.now in
    let m = c.fresh-message.result in
    let fresh = c.fresh-message.ensures in
    let none : None ≡ value_at k.messages.entries c.args.id = rw c.in-None.is at c.find.ensures.value in
    let own = (rw (c.author.ensures.node, c.author.ensures.incarnation, c.nodes.ensures) at fresh.own) c.args.id c.find.ensures.named in
    turn_found k c.args.id c.args.at.now (reach_of c.args.reach.now) m c.turn-in-None.result
    (taken_fresh k c.args.id m (sym none) (fresh.message c.args.id) fresh.records own) c.turn-in-None.ensures.same c.turn-in-None.ensures.turned

pub returns-in-None-clause-idle : goal.returns-in-None-clause-idle
returns-in-None-clause-idle c no_rule =
    let k = c.args.self.now in
    let m = c.fresh-message.result in
    let fresh = c.fresh-message.ensures in
    let none : None ≡ value_at k.messages.entries c.args.id = rw c.in-None.is at c.find.ensures.value in
    let own = (rw (c.author.ensures.node, c.author.ensures.incarnation, c.nodes.ensures) at fresh.own) c.args.id c.find.ensures.named in
    let taken = taken_fresh k c.args.id m (sym none) (fresh.message c.args.id) fresh.records own in
    c.turn-in-None.ensures.idle k.setup (ticked (kept_of k) c.args.at.now.clock)
    (rests_first k c.args.id m c.args.at.now c.requires.own c.requires.node c.requires.incarnation taken) no_rule

pub turn-requires : goal.turn-requires
turn-requires c = (asked_timely c.args.self.now c.args.at.now.clock c.requires.own).told

pub turn-requires-in-None : goal.turn-requires-in-None
turn-requires-in-None c = (asked_timely c.args.self.now c.args.at.now.clock c.requires.own).told
