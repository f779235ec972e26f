use Rattle.std.proofs.Common.{ℕ, List, ◌∷◌, sym}
use Rattle.mc_model.specs.message.Decree.{Decree}
use Rattle.octet_fields.specs.declared.defect.Defect.TheVariants.{Extra}
use Rattle.fate_chain.specs.Octets.{decree_seen}
use Rattle.fate_chain.proofs.Steps.{so-far-more, so-far-err, so-far-all, chain_at-err, chain_at-more, chain_at-all, progress-stands}
use Rattle.fate_chain.proofs.Steps.{progress-fails, nothing_left, something_left}
use Rattle.fate_chain.proofs.reading.check.Goals as goal

pub returns-in-Err : goal.returns-in-Err
returns-in-Err c =
    let known = c.loop-left.invariant in
    let defect = c.in-Err.field-0 in (
      defect,
      chain_at-err c.args.head.now.format c.args.head.now.id c.args.head.now.count c.args.head.now.decrees.now defect
          (so-far-err c.args.head.now.format c.args.head.now.count c.args.head.now.decrees.now c.loop-left.left known.read c.loop-left.rest.now defect known.so_far
          c.loop-left-test.true c.in-Err.ensures.read),
    )

pub loop-left-preserved : goal.loop-left-preserved
loop-left-preserved c =
    let known = c.loop-left.invariant in
    let x : Decree × List ℕ = (decree_seen c.in-Ok.found.0, c.in-Ok.found.1.now) in
    record {
      read = x.0 ∷ known.read;
      so_far = so-far-more c.args.head.now.format c.args.head.now.count c.args.head.now.decrees.now c.loop-left.left known.read c.loop-left.rest.now x known.so_far
          c.loop-left-test.true c.in-Ok.ensures.read;
      comes = c.after-progress.ensures known.read x.0 known.comes c.mark.ensures;
    }

pub returns-then-not-is_empty : goal.returns-then-not-is_empty
returns-then-not-is_empty c =
    let known = c.loop-left.invariant in (
      Extra,
      chain_at-more c.args.head.now.format c.args.head.now.id c.args.head.now.count c.args.head.now.decrees.now known.read c.loop-left.rest.now
          (so-far-all c.args.head.now.format c.args.head.now.count c.args.head.now.decrees.now c.loop-left.left known.read c.loop-left.rest.now known.so_far c.loop-left-test.false)
          (something_left c.loop-left.rest.now (sym c.if-not-is_empty.ensures)),
    )

pub returns-in-Stands : goal.returns-in-Stands
returns-in-Stands c =
    let known = c.loop-left.invariant in
    let all = so-far-all c.args.head.now.format c.args.head.now.count c.args.head.now.decrees.now c.loop-left.left known.read c.loop-left.rest.now known.so_far c.loop-left-test.false in (
      record { id = c.args.head.now.id; decrees = known.read },
      chain_at-all c.args.head.now.format c.args.head.now.id c.args.head.now.count c.args.head.now.decrees.now known.read c.loop-left.rest.now all
          (nothing_left c.loop-left.rest.now (sym c.if-not-is_empty.ensures)),
      progress-stands c.args.head.now.id known.read c.loop-left.progress c.in-Stands.field-0 known.comes c.in-Stands.is,
      tt,
    )

pub returns-in_default : goal.returns-in_default
returns-in_default c =
    let known = c.loop-left.invariant in
    let all = so-far-all c.args.head.now.format c.args.head.now.count c.args.head.now.decrees.now c.loop-left.left known.read c.loop-left.rest.now known.so_far c.loop-left-test.false in (
      record { id = c.args.head.now.id; decrees = known.read },
      chain_at-all c.args.head.now.format c.args.head.now.id c.args.head.now.count c.args.head.now.decrees.now known.read c.loop-left.rest.now all
          (nothing_left c.loop-left.rest.now (sym c.if-not-is_empty.ensures)),
      progress-fails c.args.head.now.id known.read c.loop-left.progress known.comes c.in_default.not-Stands,
    )
