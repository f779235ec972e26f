use Rattle.std.proofs.Common.{◌∙◌}
use Rattle.script_site.proofs.Ticking.{room_acts}
use Rattle.script_site.proofs.site.Site.make_room.Goals as goal

pub returns : goal.returns
returns c =
    room_acts c.post_for_all.result (record { world = c.args.world.now; site = c.args.self.now })
    (record { world = c.give_up.new.world; site = c.give_up.new.self }) c.post_for_all.new.service c.clock-now.result c.clock-now-2.result c.deref.result.now
    c.args.text.now.items c.post_for_all.new.text.items
    c.clock-now.ensures c.in_ok-give_up.ensures (c.deref.ensures.value ∙ c.in_ok-up.ensures.up) c.clock-now-2.ensures c.post_for_all.ensures
