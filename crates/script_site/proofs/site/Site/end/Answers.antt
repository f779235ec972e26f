use Rattle.esme_service.specs.Settings.{settings_of}
use Rattle.esme_site.proofs.Askers.{ended_asks}
use Rattle.script_site.proofs.Heeding.{end_acts}
use Rattle.script_site.proofs.site.Site.end.Goals as goal

pub heed-requires : goal.heed-requires
heed-requires c =
    ended_asks c.args.self.now.service c.hear_wrong_length-heard.new.self c.args.number c.hear_wrong_length-heard.result
    c.hear_wrong_length-heard.ensures.heard c.hear_wrong_length-heard.ensures.after

pub returns : goal.returns
returns c =
    end_acts (settings_of c.args.config.now) c.args.number (record { world = c.args.world.now; site = c.args.self.now }) c.hear_wrong_length-heard.new.self
    c.hear_wrong_length-heard.result
    c.post_on.result (record { world = c.heed.new.world; site = c.heed.new.self }) (record { world = c.heed.new.world; site = c.post_on.new.self })
    c.args.text.now.items c.heed.new.text.items c.post_on.new.text.items
    c.requires c.in_ok-heed.ensures c.post_on.ensures
    c.hear_wrong_length-heard.ensures.heard c.hear_wrong_length-heard.ensures.after c.hear_wrong_length-heard.ensures.goes
