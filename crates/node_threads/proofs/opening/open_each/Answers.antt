use Rattle.std.proofs.Common.{◌≡◌, ◌+◌, length, ◌∙◌, arith}
use Rattle.node_core.specs.Setups.{setup_with}
use Rattle.node_threads.proofs.Openings.{none_yet, one_next}
use Rattle.node_threads.proofs.opening.open_each.Goals as goal

pub loop-store-init : goal.loop-store-init
loop-store-init g c =
    none_yet g.S.StableStore.stored (length c.args.stores.items) c.args.defaults c.args.stores.items c.from_vec-left.result.items
    c.in_ok-nodes.nodes.items c.in_ok-lives.lives.items c.from_vec-left.ensures.items c.in_ok-nodes.ensures.items c.in_ok-lives.ensures.items

pub loop-store-preserved : goal.loop-store-preserved
loop-store-preserved g c =
    let place : c.len.result + 1 ≡ length c.loop-store.nodes.items + 1 = omega arith in
    let all : c.len-count.result ≡ length c.args.stores.items = omega arith in
    let setup : c.setup_at-setup.result ≡ setup_with (length c.loop-store.nodes.items + 1) (length c.args.stores.items) c.args.defaults.first_serial c.args.defaults.default_validity =
    c.setup_at-setup.ensures ∙ (λ i. setup_with (place i) (all i) c.args.defaults.first_serial c.args.defaults.default_validity) in
    one_next g.S.StableStore.stored (length c.args.stores.items) c.args.defaults c.args.stores.items c.in-Some.store c.loop-store.left.items
    c.pop_front.new.self.items c.loop-store.nodes.items c.push.new.self.items c.loop-store.lives.items c.push-in-Some.new.self.items
    c.setup_at-setup.result c.in_ok-node.node c.in_ok-node.life c.loop-store.invariant c.in-Some.ensures.items setup c.in_ok-node.ensures.opened
    c.in_ok-push.ensures.items c.in_ok-push-2.ensures.items
