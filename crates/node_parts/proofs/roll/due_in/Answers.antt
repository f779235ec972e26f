use Rattle.std.proofs.Common.{◌≡◌, ◌+◌, ◌++◌, [], List, Some, None, drop, sym, ap, subst, arith}
use Rattle.std.proofs.lemmas.List.{drop_all}
use Rattle.node_parts.specs.Sleeping.{IsDueIn, ids_of}
use Rattle.waiting_requests.specs.Numbers.{IsLeastFrom}
use Rattle.shelf.specs.Parted.{all_in}
use Rattle.shelf.proofs.Parting.{all_drop}
use Rattle.node_parts.specs.declared.listing.Listing.{Listing}
use Rattle.node_parts.specs.Rising.{AreRising}
use Rattle.node_parts.proofs.Rolled.{due_among, ids_joined, least_behind, least_front, least_none, rise_front, rise_rest}
use Rattle.node_parts.proofs.roll.due_in.Goals as goal

pub due_from-requires : goal.due_from-requires
due_from-requires c =
    let part = c.part-item.result in
    let rest = all_in (drop (c.loop-part.part-index + 1) c.args.parts.now) in
    let all : all_in (drop c.loop-part.part-index c.args.parts.now) ≡ part.items ++ rest = all_drop c.args.parts.now c.loop-part.part-index part c.loop-part-test.true c.part-item.is in
    rw c.deref.ensures.value
    (rise_front (ids_of part.items) (ids_of rest)
    (subst AreRising (ids_joined part.items rest) (subst (λ (ls : List Listing). AreRising (ids_of ls)) all c.loop-part.invariant.rising)))

pub loop-part-preserved : goal.loop-part-preserved
loop-part-preserved c =
    let part = c.part-item.result in
    let rest = all_in (drop (c.loop-part.part-index + 1) c.args.parts.now) in
    let all : all_in (drop c.loop-part.part-index c.args.parts.now) ≡ part.items ++ rest = all_drop c.args.parts.now c.loop-part.part-index part c.loop-part-test.true c.part-item.is in
    let none : IsLeastFrom c.args.from (IsDueIn c.args.clock part.items) None =
    subst (λ (ls : List Listing). IsLeastFrom c.args.from (IsDueIn c.args.clock ls) None) c.deref.ensures.value c.in_default.ensures in
    record {
      rising = rise_rest (ids_of part.items) (ids_of rest)
          (subst AreRising (ids_joined part.items rest) (subst (λ (ls : List Listing). AreRising (ids_of ls)) all c.loop-part.invariant.rising));
      rest = λ least found. c.loop-part.invariant.rest least
          (subst (λ (ls : List Listing). IsLeastFrom c.args.from (IsDueIn c.args.clock ls) least) (sym all)
          (least_behind (IsDueIn c.args.clock) (due_among c.args.clock) c.args.from part.items rest least none found));
    }

pub returns-in-Some : goal.returns-in-Some
returns-in-Some c =
    let part = c.part-item.result in
    let rest = all_in (drop (c.loop-part.part-index + 1) c.args.parts.now) in
    let all : all_in (drop c.loop-part.part-index c.args.parts.now) ≡ part.items ++ rest = all_drop c.args.parts.now c.loop-part.part-index part c.loop-part-test.true c.part-item.is in
    let found : IsLeastFrom c.args.from (IsDueIn c.args.clock part.items) (Some c.in-Some.id) =
    subst (λ (ls : List Listing). IsLeastFrom c.args.from (IsDueIn c.args.clock ls) (Some c.in-Some.id)) c.deref.ensures.value c.in-Some.ensures in
    c.loop-part.invariant.rest (Some c.in-Some.id)
    (subst (λ (ls : List Listing). IsLeastFrom c.args.from (IsDueIn c.args.clock ls) (Some c.in-Some.id)) (sym all)
    (least_front (IsDueIn c.args.clock) (due_among c.args.clock) c.args.from part.items rest c.in-Some.id
    (subst (λ (ls : List Listing). AreRising (ids_of ls)) all c.loop-part.invariant.rising) found))

pub returns : goal.returns
returns c =
    let none : all_in (drop c.loop-part.part-index c.args.parts.now) ≡ [] = ap all_in (drop_all c.loop-part.part-index c.args.parts.now (omega arith)) in
    c.loop-part.invariant.rest None
    (subst (λ (ls : List Listing). IsLeastFrom c.args.from (IsDueIn c.args.clock ls) None) (sym none) (least_none (IsDueIn c.args.clock) (due_among c.args.clock) c.args.from))
