use Rattle.std.proofs.Common.{ℕ, List, reverse}
use Rattle.mc_model.specs.message.Decree.{Decree}
use Rattle.fate_chain.specs.Octets.{decree_seen}
use Rattle.fate_chain.proofs.Steps.{so-far-more, so-far-err, so-far-all, ok-not-err, pushed}
use Rattle.fate_chain.proofs.reading.decrees_of.Goals as goal

pub unreachable-requires : goal.unreachable-requires
unreachable-requires c =
    let defect = c.in-Err.field-0 in
    ok-not-err _ defect c.requires (so-far-err c.args.head.now.format c.args.head.now.count c.args.head.now.decrees.now c.loop-left.left
    (reverse c.loop-left.decrees.items) c.loop-left.rest.now defect c.loop-left.invariant c.loop-left-test.true c.in-Err.ensures.read)

pub loop-left-preserved : goal.loop-left-preserved
loop-left-preserved c =
    let x : Decree × List ℕ = (decree_seen c.in-Ok.found.0, c.in-Ok.found.1.now) in
    rw (pushed c.loop-left.decrees.items c.push.new.self.items c.in_ok-decree.field-0 x.0 c.in_ok-push.ensures.items c.in_ok-decree.ensures)
    (so-far-more c.args.head.now.format c.args.head.now.count c.args.head.now.decrees.now c.loop-left.left
    (reverse c.loop-left.decrees.items) c.loop-left.rest.now x c.loop-left.invariant c.loop-left-test.true c.in-Ok.ensures.read)

pub returns : goal.returns
returns c = (
  c.loop-left.rest.now,
  so-far-all c.args.head.now.format c.args.head.now.count c.args.head.now.decrees.now c.loop-left.left
      (reverse c.loop-left.decrees.items) c.loop-left.rest.now c.loop-left.invariant c.loop-left-test.false,
)
