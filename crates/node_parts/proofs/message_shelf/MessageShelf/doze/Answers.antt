use Rattle.std.proofs.Common.{◌≡◌, ℕ, Some, refl, sym, subst, arith}
use Rattle.std.specs.Prelude.{IsSome, min}
use Rattle.std.specs.Vec.{vec_capacity}
use Rattle.std.proofs.lemmas.List.{length-map}
use Rattle.node_parts.specs.declared.listing.Listing.{Listing}
use Rattle.node_parts.specs.declared.noted.Noted.{Noted}
use Rattle.node_parts.specs.Living.{Listed}
use Rattle.node_parts.specs.Sleeping.{IsNoted, ids_of}
use Rattle.node_parts.proofs.Dozing.{shelf_dozed}
use Rattle.node_parts.proofs.Living.{few_listed}
use Rattle.node_parts.proofs.message_shelf.MessageShelf.doze.Goals as goal

pub doze_due-requires-clause-room : goal.doze_due-requires-clause-room
doze_due-requires-clause-room c =
    let s = c.self.inside in
    let fits = few_listed s.shelf.entries (ids_of s.live.items) (min s.live.width (vec_capacity s.awake.ids)) c.self.invariant.0 c.ascends.ensures in
    let many = length-map s.live.items (λ (l : Listing). l.id) in
    omega (arith, fits, many)

pub invariant_of-self : goal.invariant_of-self
invariant_of-self c =
    let s = c.self.inside in
    let me = c.args.at.now.author in
    let up = c.args.reach.up in
    let held : Noted = record { me = me; up = up; tries = c.are_all.result } in
    let asleep = c.asleep_at-asleep.result in
    let new = c.doze_due.new in
    -- if there is a clock, it is noted for the author, the accounts and attempts
    let known : (at : ℕ) → asleep ≡ Some at → IsNoted s.noted me up.items held.tries =
    (λ at is. subst (λ (l : Listed). IsNoted l.noted me up.items held.tries) (sym c.self.view_is)
    (subst (IsNoted c.args.self.now.noted me up.items) (sym c.are_all.ensures) (c.asleep_at-asleep.ensures.noted.0 (subst IsSome (sym is) refl)))) in
    shelf_dozed s.noted held s.shelf.entries s.live.items new.live.items new.awake.ids.items (min s.live.width (vec_capacity s.awake.ids))
    (min new.live.width (vec_capacity new.awake.ids)) new.awake.until asleep known c.doze_due.ensures.live
    (λ i. min (c.doze_due.ensures.capacity i) (c.doze_due.ensures.room i)) c.doze_due.ensures.awake c.self.invariant.0 c.self.invariant.1.0
