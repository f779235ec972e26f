use Rattle.script_site.proofs.Granting.{granted_acts, refused_acts}
use Rattle.script_site.proofs.site.Site.grant.Goals as goal

pub returns-in-Refused : goal.returns-in-Refused
returns-in-Refused c =
    refused_acts (record { world = c.args.world.now; site = c.args.self.now }) c.args.id c.write_ungranted.result c.grant.new.world c.in-Refused.reason
    c.args.text.now.items c.write_ungranted.new.text.items (rw c.in-Refused.is at c.in_ok-reason.ensures) c.write_ungranted.ensures

pub returns-in-Granted : goal.returns-in-Granted
returns-in-Granted c =
    granted_acts (record { world = c.args.world.now; site = c.args.self.now }) c.args.id c.send.result c.grant.new.world
    (record { world = c.send.new.world; site = c.send.new.self }) c.in-Granted.chain c.args.text.now.items c.send.new.text.items
    (rw c.in-Granted.is at c.in_ok-reason.ensures) c.send.ensures
