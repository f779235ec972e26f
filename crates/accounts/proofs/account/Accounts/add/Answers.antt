use Rattle.std.proofs.Common.{◌≡◌, None, rules}
use Rattle.accounts.specs.Accounts.{account_of}
use Rattle.accounts.proofs.Named.{apart_more}
use Rattle.accounts.proofs.account.Accounts.add.Goals as goal

pub invariant_of-self-2 : goal.invariant_of-self-2
invariant_of-self-2 c =
    let none : account_of c.self.inside.accounts.items c.args.account.system_id ≡ None = search rules in
    rw c.in_ok-push.ensures.items (apart_more c.self.inside.accounts.items c.args.account c.self.invariant none)
