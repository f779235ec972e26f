use Rattle.std.proofs.Common.{◌≡◌, ◌<◌, ◌≤◌, ◌-◌, ◌+◌, ℕ, List, length, sym, ap, subst, arith}
use Rattle.std.specs.Prelude.{min}
use Rattle.std.specs.Box.{box_value}
use Rattle.std.specs.BTreeSet.{insert_key}
use Rattle.std.specs.List.Sorted.{IsStrictlySortedBy}
use Rattle.std.specs.Map.{keys_of}
use Rattle.std.specs.Ordering.{nat_cmp}
use Rattle.std.specs.Vec.{vec_capacity}
use Rattle.shelf.specs.Shelved.{with_value}
use Rattle.node_parts.specs.declared.message.Message.{Message as Filed}
use Rattle.node_parts.specs.Living.{AreListed}
use Rattle.node_parts.specs.Sleeping.{AreNoted, ids_of}
use Rattle.node_parts.specs.Waking.{AreAwake}
use Rattle.node_parts.proofs.Dozing.{noted_put}
use Rattle.node_parts.proofs.Living.{listed_put, listings_left, room_to_list}
use Rattle.node_parts.proofs.Waking.{awake_put, fewer_awake}
use Rattle.node_parts.proofs.message_shelf.MessageShelf.put.Goals as goal

pub enlist-requires-clause-room : goal.enlist-requires-clause-room
enlist-requires-clause-room c =
    let entries = c.self.inside.shelf.entries in
    let cap = min c.self.inside.live.width (vec_capacity c.self.inside.awake.ids) in
    let more : 0 < cap - length entries = rw (← c.self.view_is) at c.requires.listings in
    let put : c.put.new.self.entries ≡ with_value entries c.args.id (box_value c.args.message) = rw c.number.ensures.value at c.put.ensures.entries in
    let fits = room_to_list entries (ids_of c.self.inside.live.items) cap c.args.id (box_value c.args.message) c.self.invariant.0 more
    (subst (λ (es : List (ℕ × Filed)). IsStrictlySortedBy nat_cmp (keys_of es)) put c.ascends.ensures) in
    omega (arith, fits)

pub put-requires-2-clause-room : goal.put-requires-2-clause-room
put-requires-2-clause-room c =
    let entries = c.self.inside.shelf.entries in
    let cap = min c.self.inside.live.width (vec_capacity c.self.inside.awake.ids) in
    let more : 0 < cap - length entries = rw (← c.self.view_is) at c.requires.listings in
    let put : c.put.new.self.entries ≡ with_value entries c.args.id (box_value c.args.message) = rw c.number.ensures.value at c.put.ensures.entries in
    let fits = room_to_list entries (ids_of c.self.inside.live.items) cap c.args.id (box_value c.args.message) c.self.invariant.0 more
    (subst (λ (es : List (ℕ × Filed)). IsStrictlySortedBy nat_cmp (keys_of es)) put c.ascends.ensures) in
    let s = c.self.inside in
    let fewer = fewer_awake s.awake.until s.live.items s.awake.ids.items c.self.invariant.1.1 c.args.id c.self.invariant.0.rising in
    omega (arith, fits, fewer)

pub invariant_of-self : goal.invariant_of-self
invariant_of-self c =
    let s = c.self.inside in
    let entries = s.shelf.entries in
    let ids = ids_of s.live.items in
    let cap = min s.live.width (vec_capacity s.awake.ids) in
    let more : 0 < cap - length entries = rw (← c.self.view_is) at c.requires.listings in
    let put : c.put.new.self.entries ≡ with_value entries c.args.id (box_value c.args.message) = rw c.number.ensures.value at c.put.ensures.entries in (
      subst (λ (n : ℕ). AreListed c.put.new.self.entries (ids_of c.enlist.new.self.items) n)
          (sym (λ i. min (c.enlist.ensures.width i) (c.put-2.ensures.capacity i)))
          (subst (λ (ls : List ℕ). AreListed c.put.new.self.entries ls cap) (sym c.enlist.ensures.ids)
          (subst (λ (es : List (ℕ × Filed)). AreListed es (insert_key nat_cmp ids c.args.id) cap) (sym put)
          (listed_put entries ids cap c.args.id (box_value c.args.message) c.self.invariant.0 more))),
      (
        subst (λ (es : List (ℕ × Filed)). AreNoted s.noted es c.enlist.new.self.items) (sym put)
            (noted_put s.noted entries s.live.items c.enlist.new.self.items c.args.id (box_value c.args.message) c.enlist.ensures.woken c.self.invariant.1.0),
        subst (AreAwake s.awake.until c.enlist.new.self.items) (sym c.put-2.ensures.ids)
            (awake_put s.awake.until s.live.items s.awake.ids.items c.self.invariant.1.1 c.args.id c.enlist.new.self.items c.enlist.ensures.woken
            c.enlist.ensures.ids),
      ),
    )

pub returns-clause-listings : goal.returns-clause-listings
returns-clause-listings c =
    let entries = c.self.inside.shelf.entries in
    let cap = min c.self.inside.live.width (vec_capacity c.self.inside.awake.ids) in
    let put : c.put.new.self.entries ≡ with_value entries c.args.id (box_value c.args.message) = rw c.number.ensures.value at c.put.ensures.entries in
    let left : cap - length entries ≤ (cap - length c.put.new.self.entries) + 1 =
    subst (λ (es : List (ℕ × Filed)). cap - length entries ≤ (cap - length es) + 1) (sym put)
    (listings_left entries cap c.args.id (box_value c.args.message)) in
    let same = c.enlist.ensures.width in
    let alike = c.put-2.ensures.capacity in
    let view : c.args.self.now.listings ≡ cap - length entries = sym (ap (λ s. s.listings) c.self.view_is) in
    omega (arith, left, same, alike, view)
