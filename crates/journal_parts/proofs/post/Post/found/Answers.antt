use Rattle.std.proofs.Common.{◌≡◌, ◌++◌, ℕ, List, Some, length, map, refl, sym, ap, subst, arith}
use Rattle.std.specs.Arc.{arc_value}
use Rattle.std.specs.declared.sync.Arc.{Arc}
use Rattle.std.proofs.lemmas.List.{length-map}
use Rattle.journal_parts.specs.Gathering.{IsHaltedAt}
use Rattle.journal_parts.specs.declared.done.Done.{Done}
use Rattle.journal_parts.specs.Members.{halt_of, posted}
use Rattle.journal_parts.proofs.Gathering.{all_deliver, fewer_taken, settled_so}
use Rattle.journal_parts.proofs.post.Post.found.Goals as goal

pub halted_at-taken-requires-clause-place : goal.halted_at-taken-requires-clause-place
halted_at-taken-requires-clause-place g c =
    let settled = c.in-Ok.ensures.settled c.requires.waits in
    let fewer = fewer_taken c.args.self.now.node c.settle.new.self c.in-Ok.outputs.items (map arc_value c.args.dones.items) c.requires.gathered settled in
    let count = c.len.ensures in
    let same = length-map c.args.dones.items (arc_value {X = Done}) in
    omega (arith, fewer, count, same)

pub halted_at-taken-requires-clause-deliver : goal.halted_at-taken-requires-clause-deliver
halted_at-taken-requires-clause-deliver g c = (
  c.args.self.now.node.kept.setup.node,
  all_deliver c.args.self.now.node.kept c.args.self.now.node.waiting (map arc_value c.args.dones.items) c.requires.gathered,
)

pub returns-in-Ok-clause-takes : goal.returns-in-Ok-clause-takes
returns-in-Ok-clause-takes g c =
    let outputs = c.in-Ok.outputs.items in
    let dones = map arc_value c.args.dones.items in
    let taken = map arc_value c.halted_at-taken.result.0.items in
    let packet = (halt_of c.halted_at-taken.result.1).1 in
    let long = c.len.ensures in
    let own = c.in-Ok.outputs.ok in
    let count : c.len.result ≡ length outputs = omega (arith, long, own) in
    let at : IsHaltedAt dones (length outputs) taken packet =
    subst (λ (n : ℕ). IsHaltedAt dones n taken packet) count c.halted_at-taken.ensures in
    settled_so g.S.StableStore.stored (posted c.args.self.now)
    (posted (record { node = c.settle.new.self; halted = Some c.halted_at-taken.result.1; astray = c.args.self.now.astray })) outputs dones taken packet
    c.requires.gathered (c.in-Ok.ensures.settled c.requires.waits) at refl c.in-Ok.ensures.same.setup c.in-Ok.ensures.goes_on.doubt

pub returns-in-Err-clause-front : goal.returns-in-Err-clause-front
returns-in-Err-clause-front g c = (map arc_value c.args.dones.items, ap (λ (ds : List (Arc Done _)). map arc_value ds ++ map arc_value c.args.dones.items) (sym c.clear.ensures.items))
