use Rattle.std.proofs.Common.{◌≡◌, ◌+◌, Some, None, subst, arith, rules}
use Rattle.std.specs.List.{find}
use Rattle.toml.specs.View.{view}
use Rattle.config.specs.Building.{IsNodeRow}
use Rattle.config.specs.Faults.{is_numbered}
use Rattle.config.proofs.Built.{IsBegun, all_found, begun_more, nodes_stop, nodes_end}
use Rattle.config.proofs.build.nodes_of.Goals as goal

pub returns-in_default : goal.returns-in_default
returns-in_default c =
    let none : None ≡ find (λ row. is_numbered (c.loop-place.place + 1) (view row)) c.args.rows.now = search rules in
    nodes_stop c.args.rows.now c.loop-place.place c.loop-place.nodes.items c.requires.numbers c.loop-place.invariant none

pub node_of-requires : goal.node_of-requires
node_of-requires c =
    let found : Some c.in-Some.row.now ≡ find (λ row. is_numbered (c.loop-place.place + 1) (view row)) c.args.rows.now = search rules in
    all_found (λ row. IsNodeRow (view row)) (λ row. is_numbered (c.loop-place.place + 1) (view row)) c.args.rows.now c.in-Some.row.now c.requires.rows found

pub loop-place-preserved : goal.loop-place-preserved
loop-place-preserved c =
    let found : Some c.in-Some.row.now ≡ find (λ row. is_numbered (c.loop-place.place + 1) (view row)) c.args.rows.now = search rules in
    begun_more c.args.rows.now c.loop-place.place c.loop-place.nodes.items c.push.new.self.items c.in-Some.row.now c.in_ok-node_of.field-0
    c.loop-place.invariant found c.in_ok-node_of.ensures c.in_ok-push.ensures.items

pub returns : goal.returns
returns c =
    nodes_end c.args.rows.now c.loop-place.nodes.items c.requires.numbers
    (let nine : c.loop-place.place ≡ 9 = omega arith in subst
    (λ n. IsBegun c.args.rows.now n c.loop-place.nodes.items) nine c.loop-place.invariant)
