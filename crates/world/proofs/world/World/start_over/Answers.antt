use Rattle.std.proofs.Common.{◌≡◌, ℕ, ◌<◌, Result, Ok, Err, IfErr, IsErrAnd, length, sym, subst, arith}
use Rattle.world.specs.declared.fault.WorldFault.{WorldFault}
use Rattle.world.specs.Runs.{HaltsOver}
use Rattle.world.proofs.Restarting.{AreBegun, halts, none_begun, one_begun, starts_over}
use Rattle.world.proofs.world.World.start_over.Goals as goal

pub loop-place-init : goal.loop-place-init
loop-place-init c = none_begun c.args.self.now

pub restart_at-requires : goal.restart_at-requires
restart_at-requires c = omega (arith, c.loop-place-test.true, c.nodes-place-end.ensures, c.loop-place.invariant.nodes)

err_of : {A : Type 0} (r : Result A WorldFault) (fault : WorldFault) (P : WorldFault → Type 0) → IsErrAnd r (λ other. other ≡ fault) → P fault → IfErr r P
err_of (Ok done) fault P is holds = tt
err_of (Err other) fault P is holds = subst P (sym is) holds

pub returns-in_err-restart_at-clause-halts : goal.returns-in_err-restart_at-clause-halts
returns-in_err-restart_at-clause-halts c =
    let old = c.args.self.now in
    let more : c.loop-place.place < length old.members = omega (arith, c.loop-place-test.true, c.nodes-place-end.ensures) in
    err_of c.from_residual.result c.in_err-restart_at.field-0.0 (λ fault. HaltsOver old fault c.restart_at.new.self) c.from_residual.ensures.1
    (halts old c.loop-place.self c.restart_at.new.self c.loop-place.place c.in_err-restart_at.field-0.0 more c.loop-place.invariant
    c.in_err-restart_at.ensures.refused c.in_err-restart_at.ensures.stays)

pub loop-place-preserved : goal.loop-place-preserved
loop-place-preserved c =
    one_begun c.args.self.now c.loop-place.self c.restart_at.new.self c.loop-place.place c.in_ok-restart_at.field-0 c.loop-place.invariant
    c.in_ok-restart_at.ensures.begun

pub returns-clause-over : goal.returns-clause-over
returns-clause-over c =
    let old = c.args.self.now in
    let all : c.loop-place.place ≡ length old.members = omega (arith, c.loop-place-test.false, c.loop-place.auto.place-end, c.nodes-place-end.ensures) in
    starts_over old c.loop-place.self c.forget_packets.new.self (subst (λ (count : ℕ). AreBegun old count c.loop-place.self) all c.loop-place.invariant)
    c.forget_packets.ensures
