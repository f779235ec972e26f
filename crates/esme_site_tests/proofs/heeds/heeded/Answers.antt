use Rattle.esme_service.specs.Settings.{settings_of}
use Rattle.esme_site.proofs.Askers.{heard_asks}
use Rattle.esme_site_tests.proofs.heeds.heeded.Goals as goal

pub heed-requires : goal.heed-requires
heed-requires c =
    heard_asks c.args.service.now c.hear.new.self 2 c.in-Ok.heard (settings_of c.args.config.now) c.args.frame.now c.in-Ok.ensures.heard c.in-Ok.ensures.after
    c.in-Ok.ensures.goes
