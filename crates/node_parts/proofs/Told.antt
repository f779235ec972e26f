-- What is told to a request is told of its message.
use Rattle.std.proofs.Common.{◌≡◌, ℕ, Bool, true, false, Option, Some, None}
use Rattle.std.specs.Prelude.{IfSome, if◌then◌else◌}
use Rattle.mc_model.specs.synod.Packet.{TopVote}
use Rattle.node_model.specs.Requests.{higher_top, is_higher}

pub higher_told : (id : ℕ) (top told : Option TopVote) → IfSome top (λ it. it.id ≡ id) → IfSome told (λ it. it.id ≡ id) →
    IfSome (higher_top top told) (λ it. it.id ≡ id)
higher_told id top None of told = of
higher_told id None (Some new) of told = told
higher_told id (Some old) (Some new) of told = by_test (is_higher new old)
  where
    by_test : (test : Bool) → IfSome (if test then Some new else Some old) (λ it. it.id ≡ id)
    by_test true = told
    by_test false = of
