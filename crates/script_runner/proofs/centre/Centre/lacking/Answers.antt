use Rattle.std.proofs.Common.{◌≡◌, ◌+◌, true, false, List, Some, sym, ap, ◌∙◌, arith}
use Rattle.mc_types.specs.Nodes.{has}
use Rattle.script_lines.specs.Said.{nodes_with}
use Rattle.sim_net.specs.Network.{numbered}
use Rattle.synod_acceptor.specs.declared.packet.Packet.{Packet as Sent}
use Rattle.script_text.specs.World.{lacks, takes_part}
use Rattle.script_runner.proofs.Lacking.{first_lacks, lacks_so, none_lacks, not_due, one_further}
use Rattle.script_runner.proofs.centre.Centre.lacking.Goals as goal

pub returns-then-not-takes_part : goal.returns-then-not-takes_part
returns-then-not-takes_part c =
    λ w is.
    let nodes = nodes_with (has c.args.nodes) in
    not_due c.args.self.now w nodes c.args.number c.in_ok-packet.packet.now is
    (c.in_ok-packet.ensures.packet ∙ ap (λ (sent : List Sent). numbered sent c.args.number) c.packets.ensures)
    (sym (c.if-not-takes_part.ensures ∙ ap (takes_part nodes) c.sender.ensures))

pub returns-then-lacks : goal.returns-then-lacks
returns-then-lacks c =
    λ w is.
    let nodes = nodes_with (has c.args.nodes) in
    let part = sym (c.if-not-takes_part.ensures ∙ ap (takes_part nodes) c.sender.ensures) in
    let lacked = lacks_so c.args.self.now w nodes c.args.number c.loop-place.place c.of.result true is c.of.ensures c.if-lacks.ensures in
    let number : c.of-then-lacks.result ≡ 1 + c.loop-place.place = omega (arith, c.of-then-lacks.ensures) in
    ap Some number
    ∙ first_lacks c.args.self.now w nodes c.args.number c.in_ok-packet.packet.now is
    (c.in_ok-packet.ensures.packet ∙ ap (λ (sent : List Sent). numbered sent c.args.number) c.packets.ensures) part c.loop-place.place
    (c.loop-place.invariant w is) lacked

pub loop-place-preserved : goal.loop-place-preserved
loop-place-preserved c =
    λ w is.
    let nodes = nodes_with (has c.args.nodes) in
    let not_here = lacks_so c.args.self.now w nodes c.args.number c.loop-place.place c.of.result false is c.of.ensures c.if-lacks.ensures in
    one_further (lacks w nodes c.args.number) c.loop-place.place (c.loop-place.invariant w is) not_here

pub returns : goal.returns
returns c =
    λ w is.
    let nodes = nodes_with (has c.args.nodes) in
    let part = sym (c.if-not-takes_part.ensures ∙ ap (takes_part nodes) c.sender.ensures) in
    none_lacks c.args.self.now w nodes c.args.number c.in_ok-packet.packet.now is
    (c.in_ok-packet.ensures.packet ∙ ap (λ (sent : List Sent). numbered sent c.args.number) c.packets.ensures) part
    (λ j below. c.loop-place.invariant w is j (omega (arith, c.loop-place-test.false, below)))
