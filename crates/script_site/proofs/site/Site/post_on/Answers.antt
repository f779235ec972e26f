use Rattle.script_site.proofs.Heeding.{posts_on}
use Rattle.script_site.proofs.site.Site.post_on.Goals as goal

pub returns : goal.returns
returns c =
    posts_on c.post_on.result (record { world = c.args.world.now; site = c.args.self.now }) c.post_on.new.service c.args.number c.clock-now.result
    c.args.text.now.items c.post_on.new.text.items c.clock-now.ensures c.post_on.ensures
