use Rattle.std.proofs.Common.{◌≡◌, [], rules}
use Rattle.node_threads.specs.Loadings.{CantBegin}
use Rattle.node_threads.proofs.Loadings.{all_begun, fails_there, next_begun, none_begun}
use Rattle.node_threads.proofs.Openings.{as_they_are}
use Rattle.node_threads.proofs.loading.begin_nodes.Goals as goal

pub loop-one-init : goal.loop-one-init
loop-one-init g c =
    none_begun g.S.StableStore.stored c.args.loaded.items c.from_vec-left.result.items c.in_ok-nodes.nodes.items c.in_ok-lives.lives.items
    c.from_vec-left.ensures.items c.in_ok-nodes.ensures.items c.in_ok-lives.ensures.items

pub loop-one-preserved : goal.loop-one-preserved
loop-one-preserved g c =
    next_begun g.S.StableStore.stored c.args.loaded.items c.in-Some.one c.loop-one.left.items c.pop_front.new.self.items c.loop-one.nodes.items
    c.push.new.self.items c.loop-one.lives.items c.push-in-Some.new.self.items c.in_ok-node.node c.in_ok-node.life c.loop-one.invariant
    c.in-Some.ensures.items (c.in_ok-node.ensures.begins, c.in_ok-node.ensures.finished, c.in_ok-node.ensures.untold)
    c.in_ok-push.ensures.items c.in_ok-push-2.ensures.items

pub returns-clause-opened : goal.returns-clause-opened
returns-clause-opened g c =
    let none : c.loop-one.left.items ≡ [] = search rules in
    all_begun g.S.StableStore.stored c.args.loaded.items c.loop-one.left.items c.loop-one.nodes.items c.loop-one.lives.items none c.loop-one.invariant

pub returns-clause-begins : goal.returns-clause-begins
returns-clause-begins g c defaults stores are =
    let none : c.loop-one.left.items ≡ [] = search rules in
    let over = all_begun g.S.StableStore.stored c.args.loaded.items c.loop-one.left.items c.loop-one.nodes.items c.loop-one.lives.items none
    c.loop-one.invariant defaults stores are in
    as_they_are g.S.StableStore.stored defaults stores c.loop-one.nodes.items c.loop-one.lives.items over

pub returns-in_err-node-clause-fault : goal.returns-in_err-node-clause-fault
returns-in_err-node-clause-fault g c =
    let fails : CantBegin g.S.StableStore.stored c.args.loaded.items c.in_err-node.field-0.0 =
    fails_there g.S.StableStore.stored c.args.loaded.items c.loop-one.left.items c.pop_front.new.self.items c.in-Some.one c.loop-one.nodes.items
    c.loop-one.lives.items c.in_err-node.field-0.0 c.loop-one.invariant c.in-Some.ensures.items c.in_err-node.ensures.fault in
    search (rules, fails)
