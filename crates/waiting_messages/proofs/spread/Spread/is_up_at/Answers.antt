use Rattle.std.proofs.Common.{ap, sym, ◌∙◌}
use Rattle.std.specs.Prelude.{slice_get, false}
use Rattle.std.specs.Option.{option_map_or}
use Rattle.waiting_messages.specs.Accounts.{is_among}
use Rattle.waiting_messages.proofs.Spreading.{items_of, up_there}
use Rattle.waiting_messages.proofs.spread.Spread.is_up_at.Goals as goal

pub returns : goal.returns
returns c =
    rw (← c.self.view_is)
    (c.is_up_in.ensures
    ∙ ap (λ up. option_map_or (λ accounts. is_among c.args.account.now (items_of accounts)) (slice_get up c.args.place) false) c.deref.ensures.value
    ∙ sym (up_there c.self.inside.up.items c.args.place c.args.account.now))
