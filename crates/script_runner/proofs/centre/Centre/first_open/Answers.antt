use Rattle.std.proofs.Common.{◌<◌, false, sym, arith}
use Rattle.mc_types.specs.Nodes.{has}
use Rattle.script_lines.specs.Said.{nodes_with}
use Rattle.script_text.specs.World.{lacks}
use Rattle.script_runner.proofs.Lacking.{lacks_so, one_further}
use Rattle.script_runner.proofs.Searching.{none_below}
use Rattle.script_runner.proofs.centre.Centre.first_open.Goals as goal

pub loop-place-preserved : goal.loop-place-preserved
loop-place-preserved c =
    λ w is number j least below within.
    let nodes = nodes_with (has c.args.nodes) in
    let before : number < c.loop-place.first = omega (arith, below, c.min-first.ensures) in
    let here : number < c.first_lacked.result = omega (arith, below, c.min-first.ensures) in
    one_further (lacks w nodes number) c.loop-place.place (λ k earlier. c.loop-place.invariant w is number k least before earlier)
    (lacks_so c.args.self.now w nodes number c.loop-place.place c.of.result false is c.of.ensures
    (sym (c.first_lacked.ensures number least here))) j within

pub returns : goal.returns
returns c =
    λ w is.
    none_below w (nodes_with (has c.args.nodes)) c.loop-place.first
    (λ number j least below within. c.loop-place.invariant w is number j least below
    (let few = is.few in omega (arith, c.loop-place-test.false, few, within)))
