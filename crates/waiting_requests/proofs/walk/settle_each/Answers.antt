use Rattle.std.proofs.Common.{◌≡◌, ◌<◌, length, rules, arith}
use Rattle.std.specs.Box.{with_value}
use Rattle.std.specs.Prelude.{slice_index_or}
use Rattle.node_model.specs.Packets.{settled_for}
use Rattle.waiting_requests.proofs.Walks.{changed_back, changed_front, in_box}
use Rattle.waiting_requests.proofs.walk.settle_each.Goals as goal

pub loop-one-preserved : goal.loop-one-preserved
loop-one-preserved c =
    let f = settled_for c.args.nodes c.args.chain.now.id c.args.chain.now.decrees in
    let cur = c.loop-one.held in
    let old = c.args.held.now in
    let i = c.loop-one.one-index in
    let b = with_value (slice_index_or cur i c.one-item.result) c.settle_for.new.self in
    let len = c.loop-one.invariant.len in
    let within : i < length cur = omega arith in
    let before : i < length old = omega (arith, len, within) in
    let x = c.one-item.result in
    let here : in_box b ≡ f (in_box x) = search rules in
    record {
      len = search rules;
      front = changed_front f old cur i x b within before c.one-item.is here c.loop-one.invariant.front c.loop-one.invariant.back;
      back = changed_back f old cur i x b within before c.one-item.is c.loop-one.invariant.back;
    }
