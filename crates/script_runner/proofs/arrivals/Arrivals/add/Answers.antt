use Rattle.std.proofs.Common.{ℕ, ◌-◌, ◌≤◌, List, length, Some, sym, ap, subst, ◌∙◌, arith}
use Rattle.std.specs.Prelude.{◌==◌, ◌&&◌, ◌||◌}
use Rattle.sim_net.specs.Network.{numbered}
use Rattle.script_runner.specs.Arrivals.{Came, came_in, is_among}
use Rattle.script_runner.proofs.Arriving.{at_index, one_came, place_of, still_marked}
use Rattle.script_runner.proofs.arrivals.Arrivals.add.Goals as goal

pub invariant_of-self : goal.invariant_of-self
invariant_of-self c =
    let inside = c.self.inside in
    let place = c.args.number - 1 in
    let reached = subst (λ (all : Came). c.args.number ≤ length all.sets) (sym c.self.view_is) c.in_ok-reach.ensures.reached in
    let below = place_of c.args.number (length inside.sets.items) c.requires reached in
    let found = at_index inside.sets.items place c.index_mut.result.now below ∙ ap Some (sym c.index_mut.ensures.value) in
    still_marked inside.sets.items place c.index_mut.result.now c.add.new.self c.args.node inside.marks found c.add.ensures c.self.invariant

pub returns-clause-came : goal.returns-clause-came
returns-clause-came c = λ other at.
    let sets = c.self.inside.sets.items in
    let place = c.args.number - 1 in
    let reached = subst (λ (all : Came). c.args.number ≤ length all.sets) (sym c.self.view_is) c.in_ok-reach.ensures.reached in
    let below = place_of c.args.number (length sets) c.requires reached in
    let found = at_index sets place c.index_mut.result.now below ∙ ap Some (sym c.index_mut.ensures.value) in
    let came = one_came sets place c.index_mut.result.now c.add.new.self c.args.node other at found c.add.ensures in
    let before = ap (λ (all : Came). came_in all other at) c.self.view_is ∙ c.in_ok-reach.ensures.same other at in
    ap (λ (after : List ℕ). is_among (numbered after other) at) c.count_on.ensures
    ∙ came
    ∙ ap (λ (n : ℕ). (other == n && at == c.args.node) || is_among (numbered sets other) at) (omega (arith, c.requires))
    ∙ ap (λ b. (other == c.args.number && at == c.args.node) || b) before
