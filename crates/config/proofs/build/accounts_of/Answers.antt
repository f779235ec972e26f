use Rattle.std.proofs.Common.{◌≡◌, ◌∙◌, ◌<◌, ap, subst, IsSome, Err, length, arith}
use Rattle.accounts.specs.declared.account.Account.{Account}
use Rattle.accounts.specs.declared.fault.AccountsFault.TheVariants as faults
use Rattle.accounts.specs.Accounts.{account_of}
use Rattle.toml.specs.View.{view}
use Rattle.config.specs.Building.{IsAccountRow}
use Rattle.config.proofs.Built.{no_account_twice}
use Rattle.config.proofs.Lists.{all_at}
use Rattle.config.proofs.build.accounts_of.Goals as goal

pub unreachable-requires : goal.unreachable-requires
unreachable-requires c =
    let below : c.loop-row.row-index < length c.args.rows.now = omega arith in
    let here : IsAccountRow (view c.row-item.result) = all_at
    (λ row. IsAccountRow (view row)) c.args.rows.now c.loop-row.row-index c.row-item.result below c.row-item.is c.requires.rows in
    let again : c.add.result ≡ Err faults.Repeated = c.in-Err-Repeated.is ∙ ap (λ fault. Err fault) c.in-Err-Repeated.field-0-is in
    let found : IsSome (account_of c.loop-row.accounts c.in_ok-account_of.field-0.system_id) = c.add.ensures.repeated.0 again in
    no_account_twice c.args.rows.now c.loop-row.row-index c.row-item.result c.loop-row.accounts below c.row-item.is c.requires.rows here
    c.requires.once c.loop-row.invariant
    (subst (λ (a : Account). IsSome (account_of c.loop-row.accounts a.system_id)) c.in_ok-account_of.ensures found)
