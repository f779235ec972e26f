use Rattle.std.proofs.Common.{◌≡◌, ℕ, subst, arith}
use Rattle.script_site.specs.Standing.{IsEmpty}
use Rattle.script_runner.specs.Centres.{AreEmpty}
use Rattle.script_runner.proofs.Opening.{none_empty, one_empty}
use Rattle.script_runner.proofs.centre.empty_sites.Goals as goal

pub loop-place-init : goal.loop-place-init
loop-place-init c = none_empty c.in_ok-sites.sites.items c.in_ok-sites.ensures.items

pub loop-place-preserved : goal.loop-place-preserved
loop-place-preserved c =
    one_empty c.loop-place.place c.loop-place.sites.items c.push.new.self.items c.none.result c.loop-place.invariant
    (subst (λ (n : ℕ). IsEmpty n c.none.result) c.of.ensures c.none.ensures) c.in_ok-push.ensures.items

pub returns : goal.returns
returns c =
    let all : c.loop-place.place ≡ c.args.nodes = omega (arith, c.loop-place-test.false, c.loop-place.auto.place-end) in
    subst (λ (count : ℕ). AreEmpty count c.loop-place.sites.items) all c.loop-place.invariant
