use Rattle.std.proofs.Common.{◌∙◌}
use Rattle.script_site.proofs.Ticking.{gave_up}
use Rattle.script_site.proofs.site.Site.give_up.Goals as goal

pub returns : goal.returns
returns c =
    gave_up (record { world = c.args.world.now; site = c.args.self.now }) c.give_up.new.world c.let_go_overdue.new.self c.args.now c.deref.result.now
    (c.deref.ensures.value ∙ c.in_ok-overdue.ensures.found) c.in_ok-give_up.ensures c.let_go_overdue.ensures
