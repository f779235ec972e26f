use Rattle.std.proofs.Common.{◌≡◌, ◌+◌, [], length, ◌∙◌, arith, rules}
use Rattle.node_core.specs.Setups.{setup_with}
use Rattle.node_threads.proofs.Loadings.{all_loaded, next_loaded, none_loaded}
use Rattle.node_threads.proofs.loading.load_each.Goals as goal

pub loop-store-init : goal.loop-store-init
loop-store-init g c =
    none_loaded g.S.StableStore.stored (length c.args.stores.items) c.args.defaults c.args.stores.items c.from_vec-left.result.items
    c.in_ok-loaded.loaded.items c.from_vec-left.ensures.items c.in_ok-loaded.ensures.items

pub loop-store-preserved : goal.loop-store-preserved
loop-store-preserved g c =
    let place : c.len.result + 1 ≡ length c.loop-store.loaded.items + 1 = omega arith in
    let all : c.len-count.result ≡ length c.args.stores.items = omega arith in
    let setup : c.setup_at-setup.result ≡ setup_with (length c.loop-store.loaded.items + 1) (length c.args.stores.items) c.args.defaults.first_serial c.args.defaults.default_validity =
    c.setup_at-setup.ensures ∙ (λ i. setup_with (place i) (all i) c.args.defaults.first_serial c.args.defaults.default_validity) in
    next_loaded g.S.StableStore.stored (length c.args.stores.items) c.args.defaults c.args.stores.items c.in-Some.store c.loop-store.left.items
    c.pop_front.new.self.items c.loop-store.loaded.items c.push.new.self.items c.setup_at-setup.result c.in_ok-one.one c.loop-store.invariant
    c.in-Some.ensures.items setup c.in_ok-one.ensures.loaded c.in_ok-push.ensures.items

pub returns-clause-loaded : goal.returns-clause-loaded
returns-clause-loaded g c =
    let none : c.loop-store.left.items ≡ [] = search rules in
    all_loaded g.S.StableStore.stored (length c.args.stores.items) c.args.defaults c.args.stores.items c.loop-store.left.items c.loop-store.loaded.items none
    c.loop-store.invariant
