use Rattle.std.proofs.Common.{◌≡◌, ◌∷◌, [], rules, ap}
use Rattle.mc_model.specs.synod.Acceptor.{Records}
use Rattle.node_kept.proofs.Groups.{all_taken, begins_taking, first_fits, first_grouped, starts_so, taking_goes_on}
use Rattle.node_kept.proofs.kept.Kept.install_each.Goals as goal

pub loop-step-init : goal.loop-step-init
loop-step-init c =
    begins_taking c.args.self.now c.args.steps.items c.from_vec-left.result.items c.args.changes.items c.from_vec-waiting.result.items
    c.from_vec-left.ensures.items c.from_vec-waiting.ensures.items c.requires.steps c.requires.own c.requires.changes c.requires.room c.requires.listings

pub install_one-requires-clause-step : goal.install_one-requires-clause-step
install_one-requires-clause-step c =
    let split : c.loop-step.left.items ≡ c.in-Some.step ∷ c.pop_front.new.self.items = search rules in
    first_grouped c.args.self.now c.loop-step.self c.loop-step.self _ c.loop-step.left.items _ c.in-Some.step _ _ [] split c.loop-step.invariant

pub install_one-requires-clause-room : goal.install_one-requires-clause-room
install_one-requires-clause-room c =
    let split : c.loop-step.left.items ≡ c.in-Some.step ∷ c.pop_front.new.self.items = search rules in
    (first_fits c.args.self.now c.loop-step.self c.loop-step.self _ c.loop-step.left.items _ c.in-Some.step _ _ [] split c.loop-step.invariant).0

pub install_one-requires-clause-listings : goal.install_one-requires-clause-listings
install_one-requires-clause-listings c =
    let split : c.loop-step.left.items ≡ c.in-Some.step ∷ c.pop_front.new.self.items = search rules in
    (first_fits c.args.self.now c.loop-step.self c.loop-step.self _ c.loop-step.left.items _ c.in-Some.step _ _ [] split c.loop-step.invariant).1

pub install_one-requires-clause-change : goal.install_one-requires-clause-change
install_one-requires-clause-change c =
    let split : c.loop-step.left.items ≡ c.in-Some.step ∷ c.pop_front.new.self.items = search rules in
    starts_so c.in-Some.step c.loop-step.left.items c.pop_front.new.self.items c.loop-step.waiting.items split c.loop-step.invariant.changes_are

pub loop-step-preserved : goal.loop-step-preserved
loop-step-preserved c =
    let split : c.loop-step.left.items ≡ c.in-Some.step ∷ c.pop_front.new.self.items = search rules in
    taking_goes_on c.args.self.now c.loop-step.self c.install_one.new.self _ c.loop-step.left.items c.pop_front.new.self.items c.in-Some.step _
    c.loop-step.waiting.items c.install_one.new.changes.items split c.loop-step.invariant c.install_one.ensures.taken c.install_one.ensures.changes

pub returns-clause-taken : goal.returns-clause-taken
returns-clause-taken c =
    let none : c.loop-step.left.items ≡ [] = search rules in
    (all_taken c.args.self.now c.loop-step.self _ c.loop-step.left.items _ c.loop-step.waiting.items none c.loop-step.invariant).taken

pub returns-clause-records : goal.returns-clause-records
returns-clause-records c = λ slot.
    let none : c.loop-step.left.items ≡ [] = search rules in
    ap (λ (records : Records). records slot)
    (all_taken c.args.self.now c.loop-step.self _ c.loop-step.left.items _ c.loop-step.waiting.items none c.loop-step.invariant).records

pub returns-clause-own : goal.returns-clause-own
returns-clause-own c =
    let none : c.loop-step.left.items ≡ [] = search rules in
    (all_taken c.args.self.now c.loop-step.self _ c.loop-step.left.items _ c.loop-step.waiting.items none c.loop-step.invariant).own
