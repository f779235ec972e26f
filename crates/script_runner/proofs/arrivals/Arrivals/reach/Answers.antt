use Rattle.std.proofs.Common.{◌≡◌, ℕ, ◌+◌, ◌<◌, List, [], ◌∷◌, length, length-append, sym, ap, subst, ◌∙◌, arith, rules}
use Rattle.sim_net.specs.Network.{numbered}
use Rattle.script_runner.specs.Arrivals.{AreMarked, Came, came_in, is_among}
use Rattle.script_runner.proofs.Arriving.{longer_marked, nearer, one_more}
use Rattle.script_runner.proofs.arrivals.Arrivals.reach.Goals as goal

pub loop-self-init : goal.loop-self-init
loop-self-init c = record {
  came = λ other at. ap (λ (all : Came). came_in all other at) c.self.view_is;
  marked = c.self.invariant;
  kept =
      let same : length c.self.inside.sets.items ≡ length c.args.self.now.sets = ap (λ (all : Came). length all.sets) c.self.view_is in
      omega (arith, same);
}

pub loop-self-smaller : goal.loop-self-smaller
loop-self-smaller c =
    let below : length c.loop-self.self-inside.sets.items < c.args.number = grind (arith, c.len.ensures, c.loop-self-test.true) in
    nearer c.loop-self.self-inside.sets.items c.push.new.self.items c.empty.result c.args.number below c.in_ok-push.ensures.items

pub loop-self-preserved : goal.loop-self-preserved
loop-self-preserved c =
    let was = c.loop-self.self-inside in
    record {
      came = λ other at.
          ap (λ (sets : List ℕ). is_among (numbered sets other) at) c.in_ok-push.ensures.items
          ∙ one_more was.sets.items c.empty.result other at (c.empty.ensures at)
          ∙ c.loop-self.invariant.came other at;
      marked = subst (λ (sets : List ℕ). AreMarked sets was.marks) (sym c.in_ok-push.ensures.items)
          (longer_marked was.sets.items c.empty.result was.marks c.empty.ensures c.loop-self.invariant.marked);
      kept =
          let longer : length c.push.new.self.items ≡ length was.sets.items + 1 =
          ap length c.in_ok-push.ensures.items ∙ length-append was.sets.items (c.empty.result ∷ []) in
          omega (arith, longer, c.loop-self.invariant.kept);
    }

pub invariant_of-self : goal.invariant_of-self
invariant_of-self c = c.loop-self.invariant.marked

pub invariant_of-self-in_err-push : goal.invariant_of-self-in_err-push
invariant_of-self-in_err-push c =
    let was = c.loop-self.self-inside in
    subst (λ (sets : List ℕ). AreMarked sets was.marks) (sym c.in_err-push.ensures.items) c.loop-self.invariant.marked

pub returns-in_err-push-clause-same : goal.returns-in_err-push-clause-same
returns-in_err-push-clause-same c =
    λ other at. ap (λ (sets : List ℕ). is_among (numbered sets other) at) c.in_err-push.ensures.items ∙ c.loop-self.invariant.came other at

pub returns-in_err-push-clause-memory : goal.returns-in_err-push-clause-memory
returns-in_err-push-clause-memory c =
    let below : length c.loop-self.self-inside.sets.items < c.args.number = grind (arith, c.len.ensures, c.loop-self-test.true) in
    let short : length c.args.self.now.sets < c.args.number = omega (arith, below, c.loop-self.invariant.kept) in
    search (rules, short)

pub returns-clause-same : goal.returns-clause-same
returns-clause-same c = c.loop-self.invariant.came
