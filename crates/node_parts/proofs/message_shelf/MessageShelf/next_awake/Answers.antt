use Rattle.std.proofs.Common.{◌<◌, ℕ, List, rules, subst}
use Rattle.std.specs.Prelude.{min}
use Rattle.std.specs.Vec.{vec_capacity}
use Rattle.mc_model.specs.synod.Lists.{In}
use Rattle.waiting_requests.specs.Numbers.{IsLeastFrom}
use Rattle.node_parts.specs.Sleeping.{ids_of}
use Rattle.node_parts.proofs.Dozing.{next_awake_is, next_due_is}
use Rattle.node_parts.proofs.Living.{next_live_is}
use Rattle.node_parts.proofs.message_shelf.MessageShelf.next_awake.Goals as goal

pub returns-in-Some : goal.returns-in-Some
returns-in-Some c =
    let s = c.self.inside in
    let room = min s.live.width (vec_capacity s.awake.ids) in
    let clock = c.in-Some.clock in
    let before : clock < s.awake.until = search rules in
    rw (c.in-Some.is, ← c.self.view_is)
    (next_awake_is s.shelf.entries s.live.items room s.noted c.self.invariant.0 c.self.invariant.1.0 clock
    s.awake.until s.awake.ids.items c.self.invariant.1.1 before c.args.from c.next_from.result
    (subst (λ (ids : List ℕ). IsLeastFrom c.args.from (λ id. In id ids) c.next_from.result) c.deref.ensures.value c.next_from.ensures))

pub returns-in-Some-2 : goal.returns-in-Some-2
returns-in-Some-2 c =
    let s = c.self.inside in
    let room = min s.live.width (vec_capacity s.awake.ids) in
    rw (c.in-Some-2.is, ← c.self.view_is)
    (next_due_is s.shelf.entries s.live.items room s.noted c.self.invariant.0 c.self.invariant.1.0 c.in-Some-2.clock
    c.args.from c.due_from.result
    c.due_from.ensures)

pub returns-in-None : goal.returns-in-None
returns-in-None c =
    let s = c.self.inside in
    let room = min s.live.width (vec_capacity s.awake.ids) in
    rw (c.in-None.is, ← c.self.view_is)
    (next_live_is s.shelf.entries (ids_of s.live.items) room c.args.from c.least_from.result c.self.invariant.0
    c.least_from.ensures)
