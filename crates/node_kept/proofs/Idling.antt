-- At a tick that finds nothing due no request passes a test.
use Rattle.std.proofs.Common.{◌≡◌, ℕ, Bool, true, false, cond, List, [], ◌∷◌, refl, inl, inr}
use Rattle.std.specs.Prelude.{not}
use Rattle.std.specs.List.{list_any}
use Rattle.mc_model.specs.synod.Lists.{In}
use Rattle.node_model.specs.Kept.{Held}
use Rattle.node_model.specs.Ticks.{is_late}
use Rattle.waiting_requests.specs.Queues.{timely}

pub none_passes : (test : Held → Bool) (held : List Held) → ((h : Held) → In h held → test h ≡ false) → list_any test held ≡ false
none_passes test [] none = refl
none_passes test (h ∷ others) none = rw (none h (inl refl)) (none_passes test others (λ other among. none other (inr among)))

pub timely_in : (clock : ℕ) (held : List Held) (h : Held) → In h (timely clock held) → In h held
timely_in clock [] h none = absurd none
timely_in clock (first ∷ others) h among = by_test (not (is_late clock first)) (timely_in clock others h) among
  where
    by_test : (keeps : Bool) → (In h (timely clock others) → In h others) →
        In h (cond keeps (first ∷ timely clock others) (timely clock others)) →
        In h (first ∷ others)
    by_test true rest (inl same) = inl same
    by_test true rest (inr later) = inr (rest later)
    by_test false rest later = inr (rest later)
