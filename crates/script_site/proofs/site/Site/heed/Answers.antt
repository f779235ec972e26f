use Rattle.esme_service.specs.Settings.{settings_of}
use Rattle.esme_site.specs.Heeding.{heeded_prints}
use Rattle.script_site.proofs.AddedLines.{text_so}
use Rattle.script_site.proofs.Heeded.{heeded_acts}
use Rattle.script_site.proofs.site.Site.heed.Goals as goal

pub returns-in-Ok : goal.returns-in-Ok
returns-in-Ok c =
    heeded_acts (settings_of c.args.config.now) c.args.number (record { world = c.args.world.now; site = c.args.self.now }) c.heed-heeded.new.service
    c.heed-heeded.new.steps c.conclude_heeded.new.world c.args.text.now.items c.put_back.new.text.items c.conclude_heeded.result c.args.heard c.in-Ok.heeded
    c.in-Ok.ensures.heeds
    (text_so c.conclude_heeded.result c.args.self.now.node c.behind-lines.result.node c.heed-heeded.new.outlet.node c.args.text.now.items
    c.behind-lines.result.text.items c.heed-heeded.new.outlet.text.items c.put_back.new.text.items c.behind-lines.ensures.node c.behind-lines.ensures.text
    c.put_back.ensures (heeded_prints c.args.config.now.system_id c.args.number c.in-Ok.heeded) c.in-Ok.ensures.put)
    c.conclude_heeded.ensures
