use Rattle.script_site.proofs.Ticking.{tick_acts}
use Rattle.script_site.proofs.site.Site.tick.Goals as goal

pub returns : goal.returns
returns c =
    tick_acts c.make_room.result (record { world = c.args.world.now; site = c.args.self.now }) c.take.new.world c.write_replies.new.service
    (record { world = c.make_room.new.world; site = c.make_room.new.self }) c.args.moment c.of_all.result c.in_ok-up.up.items c.in_ok-given.given c.args.text.now.items
    c.write_replies.new.text.items c.make_room.new.text.items
    c.in_ok-up.ensures.up c.of_all.ensures.reach c.in_ok-given.ensures.taken c.in_ok-write_replies.ensures.told c.in_ok-write_replies.ensures.waiting c.make_room.ensures
