use Rattle.std.proofs.Common.{◌≡◌, ◌≤◌, ℕ, List, length, sym, subst, rules}
use Rattle.std.specs.Prelude.{filter}
use Rattle.std.proofs.lemmas.Fn.{filter_same}
use Rattle.node_parts.specs.Living.{is_live_in}
use Rattle.node_parts.proofs.Waking.{none_left_out}
use Rattle.node_parts.proofs.message_shelf.unlist.Goals as goal

pub returns-then-len-were-clause-live : goal.returns-then-len-were-clause-live
returns-then-len-were-clause-live c =
    c.keep_live.ensures.items

pub returns-then-len-were-clause-awake : goal.returns-then-len-were-clause-awake
returns-then-len-were-clause-awake c =
    filter_same _ (is_live_in c.args.shelf.now.entries) _ (λ x b g k. search rules) _ _ c.retain.ensures.filtered

pub returns-else-len-were-clause-awake : goal.returns-else-len-were-clause-awake
returns-else-len-were-clause-awake c =
    filter_same _ (is_live_in c.args.shelf.now.entries) _ (λ x b g k. search rules) _ _ c.retain.ensures.filtered

pub returns-else-len-were-clause-live : goal.returns-else-len-were-clause-live
returns-else-len-were-clause-live c =
    let entries = c.args.shelf.now.entries in
    let ids = c.args.awake.now.items in
    let stay : c.retain.new.self.items ≡ filter (is_live_in entries) ids =
    filter_same _ (is_live_in entries) _ (λ x b g k. search rules) _ _ c.retain.ensures.filtered in
    let most : length ids ≤ length c.retain.new.self.items = search rules in
    sym (none_left_out entries c.args.live.now.items ids c.requires (subst (λ (ns : List ℕ). length ids ≤ length ns) stay most))
