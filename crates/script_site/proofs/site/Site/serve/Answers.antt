use Rattle.esme_service.specs.Settings.{settings_of}
use Rattle.esme_site.proofs.Askers.{heard_asks}
use Rattle.script_site.proofs.Heeding.{frame_acts}
use Rattle.script_site.proofs.site.Site.serve.Goals as goal

pub heed-requires : goal.heed-requires
heed-requires c =
    heard_asks c.args.self.now.service c.hear.new.self c.args.number c.in_ok-heard.heard (settings_of c.args.config.now) c.args.octets.now
    c.in_ok-heard.ensures.heard c.in_ok-heard.ensures.after c.in_ok-heard.ensures.goes

pub returns : goal.returns
returns c =
    frame_acts (settings_of c.args.config.now) c.args.number (record { world = c.args.world.now; site = c.args.self.now }) c.hear.new.self c.in_ok-heard.heard
    c.post_on.result (record { world = c.heed.new.world; site = c.heed.new.self }) (record { world = c.heed.new.world; site = c.post_on.new.self })
    c.args.text.now.items c.heed.new.text.items c.post_on.new.text.items
    c.requires c.in_ok-heed.ensures c.post_on.ensures
    c.args.octets.now c.in_ok-heard.ensures.heard c.in_ok-heard.ensures.after c.in_ok-heard.ensures.goes
