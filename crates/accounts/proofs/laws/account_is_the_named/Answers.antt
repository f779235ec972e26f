use Rattle.accounts.proofs.Named.{found_is_named, named_is_found}
use Rattle.accounts.proofs.laws.account_is_the_named.Goals as goal

pub returns : goal.returns
returns c =
    λ accounts system_id account apart. (found_is_named accounts system_id account, λ is. named_is_found accounts system_id account apart is.given is.named)
