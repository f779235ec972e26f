use Rattle.script_text.specs.Settings.{settings_of}
use Rattle.script_runner.specs.declared.centre.Centre.{Centre}
use Rattle.script_runner.proofs.Opening.{starts_as}
use Rattle.script_runner.proofs.centre.Centre.start.Goals as goal

pub returns-in-Ok : goal.returns-in-Ok
returns-in-Ok c =
    let centre : Centre = record { world = c.in-Ok.world; sites = c.in_ok-sites.sites; arrivals = c.none.result } in
    starts_as (settings_of c.args.config.now) c.args.nodes c.args.serial centre c.requires.few c.in_ok-sites.ensures c.in-Ok.ensures.stands c.none.ensures
