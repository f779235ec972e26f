use Rattle.std.proofs.Common.{refl}
use Rattle.script_text.specs.Runner.{on_grant}
use Rattle.script_runner.proofs.Moving.{acts_does_if, away_does_if}
use Rattle.script_runner.proofs.centre.Centre.grant.Goals as goal

pub returns-in-Ok : goal.returns-in-Ok
returns-in-Ok c =
    acts_does_if c.grant.result c.args.self.now _ c.args.node c.in-Ok.at (λ runner. on_grant runner c.args.id) c.index_mut.result.now
    (record { world = c.grant.new.world; site = c.grant.new.self }) c.args.text.now.items c.grant.new.text.items
    c.in-Ok.ensures.found c.index_mut.ensures.value c.grant.ensures refl refl refl

pub returns-in-Err : goal.returns-in-Err
returns-in-Err c =
    away_does_if c.write_declined.result c.args.self.now c.args.node c.in-Err.refusal (λ runner. on_grant runner c.args.id) c.args.text.now.items
    c.write_declined.new.text.items c.in-Err.ensures.away c.write_declined.ensures
