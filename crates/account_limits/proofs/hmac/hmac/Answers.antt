use Rattle.std.proofs.Common.{◌++◌, append_assoc}
use Rattle.std.proofs.lemmas.List.{append-nil}
use Rattle.account_limits.specs.Hashing.{hmac}
use Rattle.account_limits.proofs.hmac.hmac.Goals as goal

pub returns : goal.returns
unfolding hmac
returns c = cc (append-nil (c.padded-2.result ++ c.digest_of-inner.result), append_assoc c.padded.result c.args.first.now c.args.second.now)
