use Rattle.std.proofs.Common.{sym, ap, ◌∙◌}
use Rattle.std.specs.Option.{option_copied}
use Rattle.esme_service.specs.Sessions.{account_at}
use Rattle.esme_site.proofs.Askers.{none_asks}
use Rattle.esme_site.proofs.asking.ask.Goals as goal

pub unreachable-requires : goal.unreachable-requires
unreachable-requires g c =
    none_asks (account_at c.args.service.now.sessions c.args.asking.number) c.requires (sym c.account.ensures ∙ ap option_copied c.in_default.is)
