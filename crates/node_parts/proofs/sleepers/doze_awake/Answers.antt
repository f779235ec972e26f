use Rattle.std.proofs.Common.{◌≡◌, ◌∙◌, ℕ, List, Some, map, sym, ap, subst, rules}
use Rattle.std.specs.Prelude.{filter}
use Rattle.std.specs.Option.{is_none}
use Rattle.std.proofs.lemmas.Fn.{filter_same}
use Rattle.node_parts.specs.declared.listing.Listing.{Listing}
use Rattle.node_parts.specs.Rising.{AreRising}
use Rattle.node_parts.specs.Sleeping.{dozed, ids_of, reach_noted}
use Rattle.node_parts.specs.Waking.{AreAwake, all_looked_at, soonest_at, until_at}
use Rattle.node_parts.proofs.Looking.{all_dozed, awake_dozed, rise_dozed}
use Rattle.node_parts.proofs.sleepers.doze_awake.Goals as goal

pub soonest_at-awake-requires : goal.soonest_at-awake-requires
soonest_at-awake-requires c =
    let entries = c.args.shelf.now.entries in
    let me = c.args.noted.now.me in
    let reach = reach_noted c.args.noted.now in
    let old = c.args.live.now.items in
    let ids = c.args.awake.now.ids.items in
    let look = dozed entries me reach (Some c.args.clock) in
    let live : c.doze_all.new.live.items ≡ map look old =
    c.doze_all.ensures.live
    ∙ ap (λ (ns : List ℕ). all_looked_at look ns old) c.deref.ensures.value
    ∙ all_dozed entries me reach c.args.clock c.args.awake.now.until old ids c.requires.rising c.requires.awake c.requires.clock in
    subst (λ (ls : List Listing). AreRising (ids_of ls)) (sym live)
    (rise_dozed entries me reach c.args.clock c.args.awake.now.until old ids c.requires.rising c.requires.awake c.requires.clock)

live_is : (c : goal.After-retain) → c.doze_all.new.live.items
    ≡ map (dozed c.args.shelf.now.entries c.args.noted.now.me (reach_noted c.args.noted.now) (Some c.args.clock)) c.args.live.now.items
live_is c =
    let entries = c.args.shelf.now.entries in
    let me = c.args.noted.now.me in
    let reach = reach_noted c.args.noted.now in
    let old = c.args.live.now.items in
    c.doze_all.ensures.live
    ∙ ap (λ (ns : List ℕ). all_looked_at (dozed entries me reach (Some c.args.clock)) ns old) c.deref.ensures.value
    ∙ all_dozed entries me reach c.args.clock c.args.awake.now.until old c.args.awake.now.ids.items c.requires.rising c.requires.awake c.requires.clock

pub returns-clause-live : goal.returns-clause-live
returns-clause-live c = live_is c

pub returns-clause-awake : goal.returns-clause-awake
returns-clause-awake c =
    let entries = c.args.shelf.now.entries in
    let me = c.args.noted.now.me in
    let reach = reach_noted c.args.noted.now in
    let old = c.args.live.now.items in
    let ids = c.args.awake.now.ids.items in
    let until = c.args.awake.now.until in
    let look = dozed entries me reach (Some c.args.clock) in
    let new = c.doze_all.new.live.items in
    let live : new ≡ map look old = live_is c in
    let rise : AreRising (ids_of new) =
    subst (λ (ls : List Listing). AreRising (ids_of ls)) (sym live)
    (rise_dozed entries me reach c.args.clock until old ids c.requires.rising c.requires.awake c.requires.clock) in
    let soonest : c.soonest_at-awake.result ≡ soonest_at new ids until =
    c.soonest_at-awake.ensures ∙ ap (λ ns. soonest_at new ns until) c.deref-2.ensures.value in
    let stay : c.retain.new.self.items ≡ filter (λ id. is_none (until_at new id)) ids =
    filter_same _ (λ id. is_none (until_at new id)) _ (λ x b g k. search (rules, rise)) _ _ c.retain.ensures.filtered in
    rw (soonest, stay)
    (subst (λ (ls : List Listing). AreAwake (soonest_at ls ids until) ls (filter (λ id. is_none (until_at ls id)) ids)) (sym live)
    (awake_dozed entries me reach c.args.clock until old ids c.requires.rising c.requires.awake c.requires.clock))
