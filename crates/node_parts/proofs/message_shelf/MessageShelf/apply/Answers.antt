use Rattle.std.proofs.Common.{◌≡◌, ◌-◌, ℕ, List, length, sym, ap, subst, ◌∙◌, arith}
use Rattle.std.specs.Prelude.{min}
use Rattle.std.specs.BTreeSet.{insert_key}
use Rattle.std.specs.Ordering.{nat_cmp}
use Rattle.std.specs.Vec.{vec_capacity}
use Rattle.shelf.specs.Shelved.{with_value}
use Rattle.node_parts.specs.declared.message.Message.{Message as Filed}
use Rattle.node_parts.specs.Living.{AreListed, Listed}
use Rattle.node_parts.specs.Recording.{IsRecordable, recorded_in}
use Rattle.node_parts.specs.Sleeping.{AreNoted, ids_of}
use Rattle.node_parts.specs.Waking.{AreAwake}
use Rattle.node_parts.proofs.Dozing.{noted_put}
use Rattle.node_parts.proofs.Living.{changed_length, relisted, room_to_relist}
use Rattle.node_parts.proofs.Recording.{recorded_there}
use Rattle.node_parts.proofs.Waking.{awake_put, fewer_awake}
use Rattle.node_parts.proofs.message_shelf.MessageShelf.apply.Goals as goal

pub enlist-requires-clause-room : goal.enlist-requires-clause-room
enlist-requires-clause-room c =
    let s = c.self.inside in
    let cap = min s.live.width (vec_capacity s.awake.ids) in
    let is = subst (λ (l : Listed). IsRecordable l.entries c.args.id c.args.change c.args.room) (sym c.self.view_is) c.requires in
    let fits = room_to_relist s.shelf.entries (ids_of s.live.items) cap c.args.id is.message (recorded_in is.message c.args.change)
    c.self.invariant.0 c.ascends.ensures is.kept in
    omega (arith, fits)

pub put-requires-clause-room : goal.put-requires-clause-room
put-requires-clause-room c =
    let s = c.self.inside in
    let cap = min s.live.width (vec_capacity s.awake.ids) in
    let is = subst (λ (l : Listed). IsRecordable l.entries c.args.id c.args.change c.args.room) (sym c.self.view_is) c.requires in
    let fits = room_to_relist s.shelf.entries (ids_of s.live.items) cap c.args.id is.message (recorded_in is.message c.args.change)
    c.self.invariant.0 c.ascends.ensures is.kept in
    let fewer = fewer_awake s.awake.until s.live.items s.awake.ids.items c.self.invariant.1.1 c.args.id c.self.invariant.0.rising in
    omega (arith, fits, fewer)

pub invariant_of-self : goal.invariant_of-self
invariant_of-self c =
    let s = c.self.inside in
    let entries = s.shelf.entries in
    let ids = ids_of s.live.items in
    let cap = min s.live.width (vec_capacity s.awake.ids) in
    let is = subst (λ (l : Listed). IsRecordable l.entries c.args.id c.args.change c.args.room) (sym c.self.view_is) c.requires in
    let to = recorded_in is.message c.args.change in
    let put : c.apply_on.new.shelf.entries ≡ with_value entries c.args.id to =
    c.apply_on.ensures.entries ∙ recorded_there entries c.args.id c.args.change is.message is.kept in (
      subst (λ (n : ℕ). AreListed c.apply_on.new.shelf.entries (ids_of c.enlist.new.self.items) n)
          (sym (λ i. min (c.enlist.ensures.width i) (c.put.ensures.capacity i)))
          (subst (λ (ls : List ℕ). AreListed c.apply_on.new.shelf.entries ls cap) (sym c.enlist.ensures.ids)
          (subst (λ (es : List (ℕ × Filed)). AreListed es (insert_key nat_cmp ids c.args.id) cap) (sym put)
          (relisted entries ids cap c.args.id is.message to c.self.invariant.0 c.ascends.ensures is.kept))),
      (
        subst (λ (es : List (ℕ × Filed)). AreNoted s.noted es c.enlist.new.self.items) (sym put)
            (noted_put s.noted entries s.live.items c.enlist.new.self.items c.args.id to c.enlist.ensures.woken c.self.invariant.1.0),
        subst (AreAwake s.awake.until c.enlist.new.self.items) (sym c.put.ensures.ids)
            (awake_put s.awake.until s.live.items s.awake.ids.items c.self.invariant.1.1 c.args.id c.enlist.new.self.items c.enlist.ensures.woken
            c.enlist.ensures.ids),
      ),
    )

pub returns-clause-listings : goal.returns-clause-listings
returns-clause-listings c =
    let s = c.self.inside in
    let entries = s.shelf.entries in
    let cap = min s.live.width (vec_capacity s.awake.ids) in
    let is = subst (λ (l : Listed). IsRecordable l.entries c.args.id c.args.change c.args.room) (sym c.self.view_is) c.requires in
    let to = recorded_in is.message c.args.change in
    let count : length c.apply_on.new.shelf.entries ≡ length entries =
    ap length (c.apply_on.ensures.entries ∙ recorded_there entries c.args.id c.args.change is.message is.kept)
    ∙ changed_length entries (ids_of s.live.items) cap c.args.id is.message to c.self.invariant.0 c.ascends.ensures is.kept in
    let same = c.enlist.ensures.width in
    let alike = c.put.ensures.capacity in
    let view : c.args.self.now.listings ≡ cap - length entries = sym (ap (λ (l : Listed). l.listings) c.self.view_is) in
    omega (arith, count, same, alike, view)
