use Rattle.std.proofs.Common.{◌+◌, length, ap, sym, ◌∙◌, arith}
use Rattle.mc_types.specs.Nodes.{has}
use Rattle.script_lines.specs.Said.{nodes_with}
use Rattle.script_runner.proofs.Repeating.{sent_count}
use Rattle.script_runner.proofs.Searching.{first_due, nothing_due}
use Rattle.script_runner.proofs.centre.Centre.due.Goals as goal

pub returns-in-Some : goal.returns-in-Some
returns-in-Some c =
    λ w is none.
    let sent = sent_count c.args.self.now w is in
    let of = ap length c.packets.ensures in
    first_due w (nodes_with (has c.args.nodes)) (c.loop-place.place + 1) c.in-Some.node (c.loop-place.invariant w is none)
    (omega (arith, c.loop-place-test.true, c.len-place-end.ensures, sent, of)) (sym (c.lacking.ensures w is) ∙ c.in-Some.is)

pub returns : goal.returns
returns c =
    λ w is none.
    let sent = sent_count c.args.self.now w is in
    let of = ap length c.packets.ensures in
    nothing_due w (nodes_with (has c.args.nodes)) (c.loop-place.place + 1) (c.loop-place.invariant w is none)
    (omega (arith, c.loop-place-test.false, c.len-place-end.ensures, sent, of))
