use Rattle.std.proofs.Common.{rules, ◌≡◌, ◌<◌, ◌∷◌, ◌++◌, ◌+◌, get_or, [], ℕ, List, add-one, suc, length, length-append, map, take, refl, sym, ap, subst, ◌∙◌, arith}
use Rattle.std.specs.Arc.{arc_value}
use Rattle.std.specs.declared.sync.Arc.{Arc}
use Rattle.std.proofs.Math.Seq.{take-length}
use Rattle.std.proofs.lemmas.List.{map-append}
use Rattle.synod_acceptor.specs.declared.packet.Packet.{Packet}
use Rattle.journal_parts.specs.declared.done.Done.{Done}
use Rattle.journal_parts.specs.Gathering.{AllDeliver, AreGathered, AreNumbered, entry_done}
use Rattle.journal_parts.proofs.Gathering.{all_deliver, gathered_more, numbered_more}
use Rattle.journal_parts.proofs.GoingOn.{there_is}
use Rattle.journal_parts.proofs.ready_group.ReadyGroup.of.Goals as goal

pub loop-place-preserved : goal.loop-place-preserved
loop-place-preserved c =
    let below : c.loop-place.place < length c.args.group.packets = search rules in
    let at = there_is c.args.group.packets c.loop-place.place below in
    let dones : map arc_value c.push-in-loop-place.new.self.items ≡ map arc_value c.loop-place.dones.items ++ arc_value c.in_ok-done.done ∷ [] =
    ap (λ (ds : List (Arc Done _)). map arc_value ds) c.in_ok-push-2.ensures.items ∙ map-append arc_value c.loop-place.dones.items (c.in_ok-done.done ∷ []) in
    let one : c.in_ok-of.field-0 ≡ entry_done (arc_value c.in_ok-done.done) = search rules in
    let copies : c.push.new.self.items ≡ map entry_done (map arc_value c.push-in-loop-place.new.self.items) =
    c.in_ok-push.ensures.items
    ∙ (λ i. c.loop-place.invariant.1 i ++ one i ∷ [])
    ∙ sym (map-append entry_done (map arc_value c.loop-place.dones.items) (arc_value c.in_ok-done.done ∷ []))
    ∙ ap (λ (ds : List Done). map entry_done ds) (sym dones) in
    let more = gathered_more c.args.group.was c.args.group.packets (map arc_value c.loop-place.dones.items) c.loop-place.place at.0 (arc_value c.in_ok-done.done)
    c.loop-place.invariant.0 at.1 (c.in_ok-done.ensures.gathered at.0 at.1) in
    let count = c.loop-place.invariant.2 in
    let pushed = ap length c.in_ok-push-2.ensures.items in
    let longer = length-append c.loop-place.dones.items (c.in_ok-done.done ∷ []) in (
      subst (λ (n : ℕ). AreGathered c.args.group.was (take n c.args.group.packets) (map arc_value c.push-in-loop-place.new.self.items))
          (sym (add-one c.loop-place.place))
          (subst (λ (ds : List Done). AreGathered c.args.group.was (take (suc c.loop-place.place) c.args.group.packets) ds) (sym dones) more),
      copies,
      omega (arith, count, pushed, longer),
      subst (λ (ds : List Done). AreNumbered c.args.node (take (c.loop-place.place + 1) c.args.numbers.now) ds) (sym dones)
          (numbered_more c.args.node c.args.numbers.now (map arc_value c.loop-place.dones.items) c.loop-place.place (get_or c.args.numbers.now c.loop-place.place 0)
          (arc_value c.in_ok-done.done) (search rules) refl c.in_ok-done.ensures.step c.loop-place.invariant.3),
    )

pub returns-clause-steps : goal.returns-clause-steps
returns-clause-steps c =
    let end : c.loop-place.place ≡ length c.args.group.packets = search rules in
    let whole : AreGathered c.args.group.was c.args.group.packets (map arc_value c.loop-place.dones.items) =
    subst (λ (ps : List Packet). AreGathered c.args.group.was ps (map arc_value c.loop-place.dones.items))
    (ap (λ (n : ℕ). take n c.args.group.packets) end ∙ take-length c.args.group.packets) c.loop-place.invariant.0 in
    subst (λ (n : ℕ). AllDeliver n (map arc_value c.loop-place.dones.items)) (sym c.requires.node)
    (all_deliver c.args.group.was c.args.group.packets (map arc_value c.loop-place.dones.items) whole)

pub returns-clause-numbers : goal.returns-clause-numbers
returns-clause-numbers c =
    let end : c.loop-place.place ≡ length c.args.numbers.now = search rules in
    subst (λ (ns : List ℕ). AreNumbered c.args.node ns (map arc_value c.loop-place.dones.items))
    (ap (λ (n : ℕ). take n c.args.numbers.now) end ∙ take-length c.args.numbers.now) c.loop-place.invariant.3
