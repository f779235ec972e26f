use Rattle.std.proofs.Common.{refl}
use Rattle.script_text.specs.Runner.{on_tick}
use Rattle.script_runner.proofs.Moving.{acts_does_if, away_does_if}
use Rattle.script_runner.proofs.centre.Centre.tick.Goals as goal

pub returns-in-Ok : goal.returns-in-Ok
returns-in-Ok c =
    acts_does_if c.tick.result c.args.self.now _ c.args.node c.in-Ok.at (λ runner. on_tick runner c.args.moment) c.index_mut.result.now
    (record { world = c.tick.new.world; site = c.tick.new.self }) c.args.text.now.items c.tick.new.text.items
    c.in-Ok.ensures.found c.index_mut.ensures.value c.tick.ensures refl refl refl

pub returns-in-Err : goal.returns-in-Err
returns-in-Err c =
    away_does_if c.write_declined.result c.args.self.now c.args.node c.in-Err.refusal (λ runner. on_tick runner c.args.moment) c.args.text.now.items
    c.write_declined.new.text.items c.in-Err.ensures.away c.write_declined.ensures
